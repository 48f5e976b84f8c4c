mod EndRows
mod Failing
mod HandedOn
mod Told
pub mod Behind
pub mod Crossing
