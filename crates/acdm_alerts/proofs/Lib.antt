pub mod Sums
pub mod DecidedBits
pub mod NameTexts
