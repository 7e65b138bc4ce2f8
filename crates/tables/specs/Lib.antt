pub mod Settled
pub mod Represents
pub mod Spelled
