pub mod Play
pub mod Handover
pub mod Scripts
pub mod OnBytes
pub mod Layouts
pub mod Orders
pub mod Marks
pub mod Releases
