-- Laws that the proofs of the engine's functions cite.
pub mod Shows
pub mod Openings
pub mod Lengths
pub mod Searched
pub mod Stored
pub mod Drawn
pub mod Reported
pub mod Waits
pub mod Runs
pub mod Underway
