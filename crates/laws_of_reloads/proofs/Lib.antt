pub mod FirstFiles
pub mod Texts
