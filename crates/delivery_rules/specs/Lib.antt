pub mod Ends
pub mod Outside
pub mod Model
pub mod Demand
pub mod Ours
pub mod Honest
