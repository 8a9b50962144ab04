pub mod Laws
pub mod Byte
