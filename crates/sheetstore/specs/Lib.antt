-- The definitions that the contracts of `sheetstore` cite.
pub mod Numbers
pub mod Replay
