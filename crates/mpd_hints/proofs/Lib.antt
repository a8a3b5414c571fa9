mod Boundaries
mod Fitting
mod Left
mod Standing
