pub mod Records
pub mod Flights
pub mod Replay
pub mod Runs
pub mod Saying
pub mod Steps
pub mod Lifting
pub mod Marking
pub mod Kept
pub mod Numbers
pub mod Long
pub mod Planned
pub mod Told
pub mod Rows
mod Refused
pub mod Loading
pub mod Unanswered
pub mod Answering
