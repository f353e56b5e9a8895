mod Cases
mod Decimals
mod Kept
mod Reading
mod Writing
pub mod Demand2
pub mod Demand3
