pub mod Answers
pub mod Entering
pub mod Keeping
pub mod Rounds
