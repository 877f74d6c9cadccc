-- Laws that belong to no one function.
pub mod Walk
pub mod Accepted
pub mod Turns
