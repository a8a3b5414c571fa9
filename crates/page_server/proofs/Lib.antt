mod Chains
mod Paths
mod SameFiles
mod Shelved
