pub mod Explained
pub mod Findings
pub mod Gave
pub mod Verdicts
