pub mod Sections
pub mod Meanings
pub mod Laws
