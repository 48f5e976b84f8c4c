pub mod Decided
pub mod FormRows
pub mod Forward
pub mod Laws
pub mod Questions
pub mod Results
pub mod Rows
