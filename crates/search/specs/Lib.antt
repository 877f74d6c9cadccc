-- The definitions that the contracts of `search` cite.
pub mod Find
pub mod Deed
pub mod Change
