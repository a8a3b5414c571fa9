pub mod Counting
pub mod Passing
pub mod Plain
pub mod Sound
pub mod Standing
pub mod Telling
pub mod Untold
pub mod Walks
