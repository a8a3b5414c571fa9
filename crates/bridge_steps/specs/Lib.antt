pub mod Done
pub mod Endings
pub mod Follow
pub mod Listing
pub mod Manifests
pub mod Players
pub mod Playlists
pub mod Streams
