pub mod First
pub mod Given
pub mod Goes
pub mod Lines
pub mod Maps
pub mod Sound
pub mod Written
