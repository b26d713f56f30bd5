pub mod Batches
pub mod Machines
