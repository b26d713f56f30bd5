pub mod Bursts
pub mod Codes
pub mod Frames
pub mod Numerals
pub mod Readings
pub mod RowsBack
