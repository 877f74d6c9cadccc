-- The theorems on what the program prints, and the laws that the proofs of its functions use.
pub mod Printing
pub mod Lines
pub mod Turns
pub mod Machine
pub mod Room
pub mod Sample
