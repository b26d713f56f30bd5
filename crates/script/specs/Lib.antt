pub mod Faults
pub mod Numerals
pub mod Words
