mod Counting
mod Ends
mod Filling
mod Hearing
mod Lines
mod Taking
mod Turning
