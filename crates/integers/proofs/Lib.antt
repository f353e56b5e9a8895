pub mod Int
pub mod Floor
pub mod Table
pub mod Machine
