pub mod Exact
pub mod Values
pub mod NoField
pub mod WrittenIn
pub mod Literals
