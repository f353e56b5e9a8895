pub mod Decimal
pub mod Runs
pub mod Times
pub mod Streams
pub mod Isos
pub mod Bytes
