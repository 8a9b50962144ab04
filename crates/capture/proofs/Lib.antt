pub mod Facts
pub mod Taken
