pub mod Code
pub mod Faults
pub mod Helpers
pub mod Known
pub mod Oracles
pub mod Promise
pub mod Same
