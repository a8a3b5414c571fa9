pub mod Agreeing
pub mod Durations
pub mod Origins
pub mod Parts
pub mod PeriodStarts
pub mod Refusals
pub mod Times
pub mod Told
