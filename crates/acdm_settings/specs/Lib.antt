-- The words that a file of settings stands for.
pub mod Settings
