pub mod Files
mod Lengths
pub mod Pushing
pub mod FrameSteps
pub mod Grown
pub mod Rest
pub mod Whole
pub mod Caused
pub mod Stopped
pub mod Beginning
pub mod Begun
pub mod Static
pub mod Works
pub mod Endings
pub mod Counted
pub mod Unplaced
