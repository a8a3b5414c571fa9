pub mod LiveFiles
pub mod LiveFrames
pub mod LiveStates
