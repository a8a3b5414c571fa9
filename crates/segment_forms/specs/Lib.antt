pub mod Places
pub mod Numbers
pub mod Patterns
pub mod Media
pub mod Seen
