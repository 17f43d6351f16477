pub mod View
pub mod Steps
pub mod Parts
pub mod Counters
