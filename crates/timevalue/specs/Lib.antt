pub mod TimeValue
