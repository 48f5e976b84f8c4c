pub mod RunRows
pub mod NeverWrong
pub mod OneReading
pub mod PassLemmas
mod WaitingLemmas
