pub mod Heads
pub mod Named
pub mod Entered
pub mod Coming
pub mod Followed
mod Walks
