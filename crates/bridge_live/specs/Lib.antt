pub mod LiveMpds
