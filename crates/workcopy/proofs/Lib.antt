pub mod Scan
pub mod Accepting
pub mod Entries
pub mod Blocks
pub mod Creating
