pub mod Events
pub mod Resuming
pub mod Lengths
pub mod Carrying
pub mod Following
