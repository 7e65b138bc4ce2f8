pub mod Hunted
pub mod Held
