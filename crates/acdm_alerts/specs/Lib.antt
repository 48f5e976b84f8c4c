pub mod Conditions
pub mod Decided
pub mod Names
