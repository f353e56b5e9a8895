pub mod Calls
pub mod Standard
pub mod Inner
