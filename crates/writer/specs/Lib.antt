pub mod Inner
pub mod Outcome
pub mod Writer
