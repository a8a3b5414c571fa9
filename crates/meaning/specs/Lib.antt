pub mod Meanings
pub mod Same
pub mod Differences
