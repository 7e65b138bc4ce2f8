-- A run of the rule machine, and what the code of its steps is lent and leaves.
pub mod Taking
pub mod Progress
pub mod Choice
