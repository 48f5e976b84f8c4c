pub mod Asked
pub mod Displayed
pub mod Leaving
pub mod Viewing
pub mod Within
