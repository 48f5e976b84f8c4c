pub mod Adding
pub mod Instants
pub mod Printable
pub mod Following
pub mod Finding
pub mod Pieces
pub mod Later
pub mod Naming
pub mod Heading
mod NamingRows
