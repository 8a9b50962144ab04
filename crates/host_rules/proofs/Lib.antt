pub mod Numbers
pub mod Characters
pub mod Captures
pub mod Halves
pub mod ReaderBytes
pub mod ReaderSame
pub mod Stepping
pub mod Signed
