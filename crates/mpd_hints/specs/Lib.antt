pub mod Captions
pub mod Hints
pub mod Labels
pub mod Laws
pub mod Starts
pub mod Tracks
