pub mod Held
pub mod Forms
