pub mod Saved
mod Done
mod Failing
mod Files
mod FromEmpty
mod FromSettings
mod MinuteRows
mod Named
mod Refusing
mod Ticks
mod Told
