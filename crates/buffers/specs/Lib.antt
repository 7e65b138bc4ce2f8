-- The engine's buffers, what calls leave in those that they are lent, and what is said of lists of calls.
pub mod Held
pub mod Listing
pub mod Rows
pub mod Parts
pub mod Effect
pub mod Calls
pub mod Texts
pub mod Transitions
pub mod Waiting
pub mod Found
pub mod Answers
pub mod Outcomes
pub mod Independent
pub mod Steady
pub mod Pieces
