-- The rehearsal of a handover day: seats and steps alone, the same with the real calls, what the code works on, and what is printed.
pub mod Rehearsal
pub mod RehearsalCalls
pub mod Desk
pub mod Outcomes
pub mod Output
pub mod Printed
pub mod Nine
pub mod FairOutput
