pub mod Denotes
pub mod Outcome
