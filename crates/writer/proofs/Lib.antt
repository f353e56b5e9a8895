pub mod Written
pub mod Given
pub mod Local
pub mod Outcomes
mod Examples
