pub mod Rewrite
