pub mod Behind
mod Crash
