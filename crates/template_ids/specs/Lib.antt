pub mod Identifiers
pub mod Templates
pub mod Pieces
pub mod FileNames
pub mod Filled
pub mod Long
