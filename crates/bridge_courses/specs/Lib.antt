pub mod Courses
pub mod Executions
pub mod Laws
pub mod Statuses
pub mod Steps
