pub mod Limit
pub mod Two
pub mod OneByte
pub mod Line
pub mod Script
