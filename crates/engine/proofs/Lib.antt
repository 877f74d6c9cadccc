-- The laws that the proofs of `engine` and of its callers cite, the demands, and the requests of document 02: W1 (Ordered), W2 (SameEdit), W3 (SetBy), W5 (HalfWritten), W6 (Cut, PowerCuts), W7 (Demand1InTurn, Demand3InTurn), W9 (Releases).
pub mod Fresh
pub mod Parts
pub mod Committing
pub mod Demand2
pub mod Demand3
pub mod Demand1
pub mod Ordered
pub mod SameEdit
pub mod SetBy
pub mod HalfWritten
pub mod Cut
pub mod PowerCuts
pub mod Releases
pub mod Demand3InTurn
pub mod Demand1InTurn
