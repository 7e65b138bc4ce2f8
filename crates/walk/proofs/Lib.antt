pub mod Rows
pub mod Hunting
pub mod Sought
pub mod Taking
pub mod Walking
