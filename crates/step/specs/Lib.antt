pub mod Enter
pub mod Entries
