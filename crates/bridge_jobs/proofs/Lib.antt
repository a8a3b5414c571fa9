pub mod Ascii
pub mod Filling
pub mod Follows
pub mod Lines
pub mod Named
pub mod Read
pub mod Reading
pub mod Taken
pub mod LengthsInTurn
pub mod RoundsRead
pub mod RoundsInTurn
pub mod Left
mod Sizes
