-- Laws that belong to no one function.
pub mod Revisions
pub mod Halving
pub mod Named
pub mod BackLaws
pub mod Sought
pub mod Naming
pub mod Finding
pub mod DeedLaws
pub mod Logging
