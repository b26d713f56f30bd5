pub mod Buffers
pub mod Held
pub mod Pools
pub mod Rules
pub mod Slots
pub mod TwoWay
