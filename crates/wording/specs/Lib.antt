pub mod Plates
pub mod Texts
