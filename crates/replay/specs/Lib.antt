-- The definitions that the contracts of `replay` cite.
pub mod Script
pub mod Records
pub mod Desk
pub mod Replay
pub mod Faults
pub mod Steps
pub mod Encoding
