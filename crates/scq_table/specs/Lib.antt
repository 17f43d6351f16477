pub mod Table
pub mod Stands
pub mod Example
pub mod Within
pub mod Names
