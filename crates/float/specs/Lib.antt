pub mod Whole
pub mod Rounding
pub mod Inner
