pub mod Rule
pub mod Blocks
pub mod Nexts
pub mod Stays
