pub mod Decimals
pub mod TimeOrder
pub mod Times
pub mod Floors
pub mod Roundings
pub mod Printed
pub mod EqualSteps
