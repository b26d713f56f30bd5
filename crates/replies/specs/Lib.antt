pub mod Machines
pub mod Meaning
pub mod Replies
