pub mod Before
mod Countable
pub mod Ending
pub mod FromMpd
pub mod Joining
pub mod Listable
pub mod MeantContents
pub mod Ordered
pub mod OwnAddress
pub mod Pace
pub mod Parting
pub mod Static
pub mod Telling
