pub mod Altered
pub mod Plain
