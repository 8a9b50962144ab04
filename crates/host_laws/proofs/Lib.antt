pub mod Told
pub mod Stepped
pub mod SenderSame
pub mod RetryTold
