pub mod Stored
pub mod Writable
