-- The definitions that the contracts of `block` cite.
pub mod Lists
pub mod Field
pub mod Check
pub mod Fours
pub mod Buffer
pub mod Write
