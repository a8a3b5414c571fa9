pub mod Choosing
pub mod Fitting
pub mod Showing
pub mod Walking
