pub mod Helpers
pub mod Reading
