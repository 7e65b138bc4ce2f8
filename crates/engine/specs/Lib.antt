-- What the calls of the engine give, and what is written on the way.
pub mod Gives
pub mod Waited
pub mod Ran
pub mod Tables
pub mod Steps
pub mod Asks
