pub mod Tests
pub mod Whole
pub mod Seconds
mod Examples
