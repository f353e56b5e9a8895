pub mod Finite
pub mod Tests
pub mod Parts
pub mod Exact
pub mod Clip
mod Examples
