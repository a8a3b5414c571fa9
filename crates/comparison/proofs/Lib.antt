pub mod Walks
pub mod Ratios
mod Opened
