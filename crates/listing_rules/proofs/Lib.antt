pub mod Runs
pub mod Whole
pub mod Told
pub mod Unique
pub mod Decimals
pub mod Rows
pub mod Wrong
