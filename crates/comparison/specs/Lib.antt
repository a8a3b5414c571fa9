pub mod Elapsed
pub mod Comparing
