pub mod Patterns
pub mod Values
