-- Laws that the proofs of the search's functions cite.
pub mod Results
pub mod Held
