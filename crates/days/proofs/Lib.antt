mod Rings
mod Indices
mod Invariant
mod Others
