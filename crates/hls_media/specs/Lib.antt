pub mod Addresses
pub mod Laws
pub mod Media
pub mod States
pub mod Tags
pub mod Told
pub mod Values
pub mod Views
