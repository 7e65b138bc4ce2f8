-- A script of calls on one engine: what its rows ask, what they leave in the buffers, and how the rule machine answers them.
pub mod Rows
pub mod Run
pub mod Follows
