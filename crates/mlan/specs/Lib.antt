pub mod Bursts
pub mod Checksum
pub mod Commands
pub mod Frame
pub mod Numbers
pub mod Rows
