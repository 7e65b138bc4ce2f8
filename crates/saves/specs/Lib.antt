-- The buffer of the saves: names as numbers, places, and what a save, a return and a forget make of them.
pub mod Keys
pub mod Kept
pub mod Places
pub mod Change
pub mod Rows
