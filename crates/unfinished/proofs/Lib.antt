pub mod Tails
pub mod Cuts
pub mod CutReleases
