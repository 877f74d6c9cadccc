-- The definitions that the contracts of `local` cite.
pub mod Local
