mod Dates
mod Parts
mod Publishing
mod Reading
mod Taken
mod Taking
