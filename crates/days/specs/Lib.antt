pub mod Racks
pub mod Outcome
pub mod Day
pub mod Book
pub mod Rules
pub mod Led
