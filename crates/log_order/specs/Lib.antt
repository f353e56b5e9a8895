pub mod Log
pub mod Smaller
