pub mod Fields
pub mod GivesBack
pub mod Keeping
pub mod Shown
pub mod Telling
