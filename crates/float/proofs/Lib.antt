pub mod Ops
pub mod Nearest
pub mod Quotient
pub mod Whole
pub mod Order
pub mod Casts
pub mod Modulo
pub mod Literal
pub mod Rounding
pub mod Fractions
pub mod Special
pub mod Integer
pub mod Within
pub mod Saturation
pub mod Narrow
mod Patterns
mod Changed
mod Clearing
mod Digits
mod Controls
