-- The definitions that the contracts of `store` cite.
pub mod Known
pub mod Rule
pub mod Opened
