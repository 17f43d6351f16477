mod Pairs
mod Window
mod Stations
mod Lone
mod Built
mod Turns
mod Begins
mod Makes
pub mod Meaning
pub mod Bounds
