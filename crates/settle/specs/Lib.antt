pub mod Walks
pub mod Kids
pub mod Places
pub mod Settles
