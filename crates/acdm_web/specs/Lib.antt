-- What a browser asks for, and what it is answered.
pub mod Answers
pub mod Events
pub mod Wanted
