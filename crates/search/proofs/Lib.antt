pub mod Part
pub mod Missing
