pub mod Numbers
pub mod Answers
pub mod Characters
pub mod ReaderBytes
pub mod Stepping
