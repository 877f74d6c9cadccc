-- The definitions that the contracts of `commits` cite.
pub mod Plan
pub mod Outcome
