pub mod Check
pub mod Compare
pub mod Lines
