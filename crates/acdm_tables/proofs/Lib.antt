pub mod Promised
pub mod Rows
pub mod Same
