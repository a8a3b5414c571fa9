mod Cutting
pub mod FileNames
pub mod Paths
pub mod LongNames
