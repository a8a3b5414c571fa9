pub mod Bounded
pub mod Courses
pub mod Digits
pub mod Lengths
pub mod Meanings
pub mod Told
pub mod Wholes
