mod Kept
pub mod Ended
pub mod Places
