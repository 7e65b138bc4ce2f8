pub mod Trees
pub mod Marked
pub mod System
pub mod Sound
pub mod Counts
pub mod Models
pub mod Same
