pub mod Table
pub mod Places
pub mod Zeros
pub mod Puts
pub mod Whole
pub mod Kept
pub mod Judged
pub mod Stored
mod FaultRows
pub mod KeptTexts
pub mod SameTexts
