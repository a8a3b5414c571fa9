pub mod InMemory
pub mod Moved
pub mod Schedule
