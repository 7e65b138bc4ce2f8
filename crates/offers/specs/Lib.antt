pub mod Slots
pub mod Head
pub mod Walk
pub mod Links
pub mod Table
pub mod Collect
