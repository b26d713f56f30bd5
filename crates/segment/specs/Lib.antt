pub mod Drops
pub mod Saying
