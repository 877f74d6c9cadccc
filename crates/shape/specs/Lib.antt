-- The definitions that the contracts of `shape` cite.
pub mod Shape
pub mod Lines
pub mod Rows
