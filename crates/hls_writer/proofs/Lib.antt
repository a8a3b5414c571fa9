pub mod Codes
pub mod Decimals
pub mod Following
pub mod Listing
pub mod Present
mod Sections
pub mod Spelled
