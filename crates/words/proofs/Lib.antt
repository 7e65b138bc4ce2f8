pub mod Drawing
pub mod Exact
