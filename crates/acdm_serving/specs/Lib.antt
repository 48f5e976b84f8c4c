pub mod Following
pub mod Outcomes
pub mod Partners
pub mod Ticks
