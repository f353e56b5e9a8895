pub mod FieldRecord
pub mod Inner
