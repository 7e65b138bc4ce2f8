pub mod Scan
pub mod Opens
