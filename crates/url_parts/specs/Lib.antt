pub mod Addresses
pub mod Laws
pub mod Ranges
pub mod Codes
pub mod Paths
pub mod Spelling
pub mod Alike
pub mod Roots
