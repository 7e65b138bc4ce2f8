pub mod Spend
