pub mod Words
pub mod Slots
pub mod Encoding
pub mod Faults
pub mod Forms
pub mod Rows
pub mod Decoding
pub mod Listing
