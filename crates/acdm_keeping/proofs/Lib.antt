mod Behind
mod Copied
pub mod Crossing
mod Knowing
mod Standing
