pub mod BitLemmas
pub mod CountLemmas
pub mod LaneLemmas
pub mod LookupLemmas
pub mod PlaceLemmas
pub mod SetLemmas
