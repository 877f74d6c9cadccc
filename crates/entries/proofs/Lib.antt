pub mod Looking
pub mod Turns
pub mod Checking
pub mod States
pub mod Comparing
pub mod Updating
pub mod Keeping
