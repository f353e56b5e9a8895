pub mod Slice
pub mod Encoded
pub mod Inner
