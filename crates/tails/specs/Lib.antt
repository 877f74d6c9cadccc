-- The definitions that the contracts of `tails` cite.
pub mod Taken
