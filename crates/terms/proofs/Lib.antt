-- The three terms hold.
pub mod Terms
