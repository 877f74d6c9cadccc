-- The laws that the proofs of `rehearsal` cite, and W8: over the definitions Fairness and RealDay, of what is printed FairOutput, of the code CodeFair; Sample is computed.
pub mod Fairness
pub mod OwnSheet
pub mod Written
pub mod RealDay
pub mod Tallying
pub mod Asking
pub mod Closing
pub mod Stepping
pub mod Making
pub mod Four
pub mod Printing
pub mod Words
pub mod Line
pub mod FairOutput
pub mod CodeFair
pub mod Sample
