pub mod Adding
pub mod AndThen
pub mod Files
pub mod NameSets
pub mod Texts
pub mod WholeFile
pub mod Written
