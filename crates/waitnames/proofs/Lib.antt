pub mod Names
pub mod Numbered
pub mod Named
pub mod Held
pub mod Opened
pub mod Examples
