pub mod Lines
pub mod Fed
