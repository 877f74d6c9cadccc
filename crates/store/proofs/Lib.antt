-- Laws that belong to no one function.
pub mod Blocks
pub mod RuleLaws
pub mod Commits
pub mod Scanned
pub mod PassLaws
pub mod Loose
pub mod Judged
pub mod OpenLaws
pub mod Opening
pub mod Chunks
