pub mod Rows
pub mod Outcomes
mod Examples
