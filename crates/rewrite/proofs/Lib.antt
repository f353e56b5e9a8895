mod Forms
pub mod Runs
