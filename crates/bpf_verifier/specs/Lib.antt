pub mod Explained
pub mod OpKinds
pub mod Reading
pub mod Rows
pub mod Runs
pub mod Table
pub mod Verdict
