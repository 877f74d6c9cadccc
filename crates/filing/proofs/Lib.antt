-- The laws on the commit of a working copy that fits.
pub mod Looking
pub mod Noting
pub mod Settling
pub mod Answers
pub mod Keeping
