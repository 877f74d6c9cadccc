-- The laws on the inner commit.
pub mod Making
pub mod Entries
pub mod Join
pub mod Answers
