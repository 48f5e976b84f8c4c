pub mod Place
pub mod Fields
pub mod Faults
pub mod Texts
pub mod Assign
