pub mod Examples
pub mod Runs
pub mod Steps
pub mod Numbers
pub mod Stages
pub mod Accepts
pub mod Prefix
pub mod Exactly
