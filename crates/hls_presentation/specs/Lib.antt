pub mod Tracks
pub mod Sections
pub mod Presenting
pub mod Views
pub mod Origins
pub mod Laid
pub mod Laws
