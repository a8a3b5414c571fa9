pub mod Files
pub mod Holding
pub mod Left
pub mod Needs
pub mod Runs
pub mod Sources
