pub mod Answers
pub mod Denotation
mod Days
