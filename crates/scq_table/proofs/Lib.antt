pub mod Words
pub mod LowWords
pub mod Bounds
mod Pairs
mod Stations
mod Moves
mod Window
mod Charges
mod Older
mod Writes
mod Emptied
mod Marked
mod Filled
mod Marks
mod Lone
mod Built
mod Rows
mod Adds
mod Takes
mod Begins
mod Makes
pub mod Meaning
