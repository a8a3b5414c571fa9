pub mod Blocks
pub mod ByteSet
pub mod Class
pub mod Lanes
pub mod Lines
