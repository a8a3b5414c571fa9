pub mod Fits
pub mod Indexed
pub mod Levels
pub mod Merged
pub mod Readings
pub mod Segments
pub mod Shown
