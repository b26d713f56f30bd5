pub mod Addresses
pub mod Fields
pub mod Places
pub mod Refusals
pub mod Words
