pub mod Crossing
pub mod Next
pub mod Places
