-- The laws that the proofs of `turns` and of the calls above it cite, and W7 over the definitions; of the functions of `turns` Traces.
pub mod Queues
pub mod Turning
pub mod Form
pub mod Cascade
pub mod Calls
pub mod InTurn
pub mod TakingTurns
pub mod Traces
pub mod Refusing
pub mod Mixed
pub mod Cases
