-- Bulk loads.
pub mod Loads
