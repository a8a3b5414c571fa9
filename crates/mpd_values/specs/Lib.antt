pub mod Blanks
pub mod Codecs
pub mod FrameRates
pub mod Languages
pub mod MediaTypes
pub mod Numbers
