pub mod Whole
pub mod Months
pub mod Wrap
mod Quick
pub mod Counting
pub mod Literals
