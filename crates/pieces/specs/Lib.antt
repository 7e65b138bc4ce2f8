pub mod Walked
pub mod Position
