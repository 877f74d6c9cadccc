-- The definitions that the contracts of `engine` cite beside those of `model` and `inner`.
pub mod MayCommit
pub mod Part
pub mod Request
