-- Laws that the proofs of the functions on an engine's buffers cite.
pub mod Copies
pub mod Nodes
pub mod Opened
pub mod Bytes
pub mod Tables
