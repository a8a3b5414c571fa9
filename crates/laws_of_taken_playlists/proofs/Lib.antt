pub mod Faultless
pub mod Parts
pub mod Rounding
pub mod Whole
