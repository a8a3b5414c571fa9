pub mod Commands
pub mod FollowedLaws
