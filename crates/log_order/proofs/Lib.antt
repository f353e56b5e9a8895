mod Comparisons
mod Digits
mod Examples
mod Fields
mod Lines
mod Order
mod Row
mod Search
mod Smaller
mod Years
pub mod LogOrder
