-- The program of document 01: what it prints, from the machine and from buffers.
pub mod Output
pub mod Buffers
