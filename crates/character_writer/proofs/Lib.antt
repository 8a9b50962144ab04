pub mod Balances
pub mod Chosen
