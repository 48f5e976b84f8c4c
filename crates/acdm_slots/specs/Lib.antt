pub mod Codes
pub mod Loaded
pub mod Names
pub mod Migration
