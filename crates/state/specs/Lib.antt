pub mod Fits
pub mod Test
pub mod Decode
pub mod Change
pub mod Read
