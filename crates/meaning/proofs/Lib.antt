pub mod SameLemmas
pub mod DifferenceLemmas
pub mod AlikeLemmas
