-- What is proved of slots, of the table of offers, and of the state's numbers.
pub mod Numbered
pub mod Slots
pub mod Head
pub mod Walk
pub mod Links
pub mod Rows
pub mod Offered
pub mod Branched
pub mod Places
