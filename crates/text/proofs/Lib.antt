-- The laws of text that the proofs of `text` and of the crates above use, and that what is printed is read back.
pub mod Laws
pub mod Round
pub mod Splitting
