pub mod Joins
pub mod Says
