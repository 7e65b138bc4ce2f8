pub mod Tables
pub mod Faults
pub mod Leaves
pub mod Lists
pub mod Placed
pub mod Settings
pub mod Walks
pub mod Judged
