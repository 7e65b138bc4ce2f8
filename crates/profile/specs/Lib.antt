pub mod Unsteady
pub mod Opening
pub mod Steady
