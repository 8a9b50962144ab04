pub mod Twelve
pub mod Every
