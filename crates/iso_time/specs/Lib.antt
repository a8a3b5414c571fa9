pub mod Civil
pub mod Digits
pub mod Duration
pub mod Instant
pub mod Laws
