-- The laws on masks.
pub mod Bits
pub mod Sheets
pub mod Visits
