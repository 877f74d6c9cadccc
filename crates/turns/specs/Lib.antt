-- The definitions that the contracts of `turns` and of the calls above it cite, and the statements of W7.
pub mod Turns
pub mod TakingTurns
pub mod Turned
pub mod InTurn
pub mod Refusing
pub mod Mixed
