-- The laws that the proofs of `inner` and of its callers cite.
pub mod Refusing
pub mod Looking
pub mod Changing
pub mod Showing
pub mod Performing
pub mod Clearing
pub mod Releasing
