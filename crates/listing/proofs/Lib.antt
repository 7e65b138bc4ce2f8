-- What is proved of the listing buffer and of the entries in it.
pub mod Added
pub mod Chunks
pub mod Entries
pub mod Weights
pub mod Finished
pub mod Matching
pub mod Runs
pub mod Pairs
pub mod Ranges
pub mod Partners
pub mod Queries
pub mod AllRows
