-- The laws on the writing of a commit and of a release.
pub mod Filling
pub mod Lines
pub mod Contents
pub mod Joins
