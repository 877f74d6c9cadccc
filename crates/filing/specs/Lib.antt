-- The definitions that the contracts of `filing` cite.
pub mod Filed
pub mod Inner
