-- The definitions that the contracts of `inner` cite beside those of `model`.
pub mod Performs
pub mod Place
