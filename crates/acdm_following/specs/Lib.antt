pub mod Courses
pub mod Heads
pub mod Hearing
pub mod Entering
pub mod Comes
pub mod Follows
