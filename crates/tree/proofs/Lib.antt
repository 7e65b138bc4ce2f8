-- What is proved of cells, of tables, and of the trees that a table holds.
pub mod Cells
pub mod Interval
pub mod Holds
pub mod Fields
pub mod Once
pub mod OnceModel
pub mod Alike
pub mod Grow
pub mod Spans
