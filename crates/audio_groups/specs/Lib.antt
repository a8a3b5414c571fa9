pub mod Families
pub mod Groups
pub mod Keys
pub mod Laws
