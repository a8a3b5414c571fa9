pub mod Attributes
pub mod Keeping
pub mod ManyNames
pub mod Names
pub mod Rests
