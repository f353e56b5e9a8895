pub mod Halves
pub mod Masks
pub mod Blocks
pub mod Joined
