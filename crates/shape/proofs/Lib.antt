-- Laws that belong to no one function.
pub mod ZeroLaws
pub mod Scan
pub mod ScanLines
pub mod Shapes
pub mod Turns
pub mod LineLaws
pub mod Changes
pub mod Held
pub mod Gather
pub mod Forward
pub mod RowLaws
