pub mod Crash
pub mod Restored
