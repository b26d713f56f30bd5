pub mod Arguments
pub mod Cables
pub mod FaultTexts
