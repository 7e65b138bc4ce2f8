pub mod OneByte
pub mod Rests
pub mod Twos
pub mod Heads
pub mod Steps
