pub mod Begins
pub mod View
