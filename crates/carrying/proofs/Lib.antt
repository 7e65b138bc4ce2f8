-- What each call gives, and the tables that it is lent.
pub mod Turns
pub mod Held
