pub mod Node
pub mod Table
pub mod Reading
