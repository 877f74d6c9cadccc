-- The definitions that the contracts of `workcopy` cite.
pub mod Shape
pub mod Copy
