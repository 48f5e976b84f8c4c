pub mod Codes
pub mod Meant
pub mod Memory
pub mod Plain
pub mod Replies
pub mod Writes
