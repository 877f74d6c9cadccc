-- The laws that the proofs of `replay` cite.
pub mod Reading
pub mod Writing
pub mod Placing
pub mod Faults
pub mod Copies
pub mod Stepping
pub mod Running
pub mod Machine
pub mod Encoding
pub mod Demand3
pub mod Ordered
