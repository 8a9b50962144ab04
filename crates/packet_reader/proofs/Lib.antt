pub mod Agree
pub mod Ten
