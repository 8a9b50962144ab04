pub mod Laws
pub mod Turns
pub mod Parts
pub mod Bytes
pub mod Outcome
pub mod Passed
