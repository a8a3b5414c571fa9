mod Alike
mod Lengths
pub mod Asked
pub mod FileNames
mod Fitting
pub mod Lies
pub mod DoneAt
pub mod Promises
pub mod MpdPromises
mod Compared
pub mod CheckPromises
pub mod ComparePromises
pub mod Blamed
pub mod Worked
pub mod IndexPromises
pub mod TimesPromises
