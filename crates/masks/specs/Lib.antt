-- The definitions that the contracts of `masks` and the laws on masks cite.
pub mod Chosen
pub mod Mask
