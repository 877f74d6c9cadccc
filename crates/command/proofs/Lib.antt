-- The laws of lines that the proofs of `command` and of the crates above use.
pub mod Laws
