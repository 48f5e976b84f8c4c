pub mod Notes
pub mod Views
