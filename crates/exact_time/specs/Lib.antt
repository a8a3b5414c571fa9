pub mod Time
pub mod Floor
pub mod Tick
pub mod TickOrder
pub mod Rounding
pub mod Rounder
pub mod Equal
pub mod Laws
