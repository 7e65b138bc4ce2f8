pub mod Held
pub mod Skips
pub mod Answers
pub mod Rates
pub mod Channels
pub mod Lists
pub mod Shown
pub mod Next
