-- Laws that the proofs of naming's functions cite.
pub mod Named
pub mod Marking
pub mod Places
pub mod Codes
