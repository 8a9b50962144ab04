pub mod Capture
pub mod Calls
pub mod Panes
pub mod Demands
