pub mod Bits
pub mod Lists
pub mod Groups
pub mod Check
