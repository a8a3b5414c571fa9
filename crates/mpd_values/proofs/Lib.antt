pub mod Boundaries
pub mod Numerals
