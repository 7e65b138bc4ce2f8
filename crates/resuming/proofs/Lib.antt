pub mod Standing
pub mod Waits
pub mod Under
pub mod Told
