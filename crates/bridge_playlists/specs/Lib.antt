pub mod Places
pub mod Playlists
pub mod Reload
