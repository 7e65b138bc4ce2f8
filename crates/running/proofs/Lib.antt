-- What a run's steps are, and what the code of a step leaves.
pub mod Runs
pub mod Taking
pub mod Events
pub mod Steps
pub mod Choice
pub mod Parts
