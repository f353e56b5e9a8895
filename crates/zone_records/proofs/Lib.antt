pub mod Slices
pub mod Same
pub mod Encoding
