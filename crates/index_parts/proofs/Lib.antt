pub mod Ends
pub mod Kept
pub mod Laid
pub mod Ordered
pub mod Presented
pub mod Tiles
