pub mod Escaping
pub mod Found
mod LiveTracks
pub mod Neighbours
pub mod Nodes
pub mod Origins
pub mod Progress
pub mod RunLemmas
pub mod Sections
pub mod Timing
pub mod Urls
