pub mod Identities
pub mod Joints
pub mod Lists
pub mod Plans
