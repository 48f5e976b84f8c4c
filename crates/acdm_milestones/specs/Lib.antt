pub mod Tables
pub mod Codes
pub mod Names
pub mod Deicing
