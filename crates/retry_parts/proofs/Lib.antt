pub mod Calls
pub mod Fitting
