-- Laws that belong to no one function.
pub mod Standing
pub mod Clearing
pub mod Parts
