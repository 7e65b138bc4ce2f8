-- How the opened state is written, what the test of a model buffer finds, and the tables of its model.
pub mod Start
pub mod Text
pub mod Tables
