pub mod Says
pub mod Turns
pub mod Fours
pub mod Sealing
pub mod Parts
pub mod Writing
pub mod Damage
pub mod Theorems
