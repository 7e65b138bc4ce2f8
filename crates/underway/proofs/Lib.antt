pub mod Buffer
pub mod Head
pub mod Written
pub mod Entries
pub mod Far
