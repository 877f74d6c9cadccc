-- The program's lines as calls of the machine.
pub mod Command
