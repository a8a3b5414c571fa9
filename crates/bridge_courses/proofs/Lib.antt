pub mod Statuses
pub mod Others
pub mod ExecutionLaws
pub mod Stepping
pub mod StepLaws
pub mod InputLaws
