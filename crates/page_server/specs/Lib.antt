pub mod Answers
pub mod Pages
pub mod Requests
pub mod Shelves
pub mod Sources
pub mod Tags
