pub mod Again
pub mod Called
