-- What a search gives, and the tables that it is lent.
pub mod Run
pub mod Lent
