-- The definitions that the contracts of `marks` cite.
pub mod Laid
pub mod Revisions
