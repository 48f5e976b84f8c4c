pub mod Crossing
pub mod Notes
pub mod Own
