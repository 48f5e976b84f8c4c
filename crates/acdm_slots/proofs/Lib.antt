pub mod PlaceLemmas
pub mod Migrating
