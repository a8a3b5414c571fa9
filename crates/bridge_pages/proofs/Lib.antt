mod Told
mod Ended
