pub mod Words
pub mod Exact
pub mod Examples
