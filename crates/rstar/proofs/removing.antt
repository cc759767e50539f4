-- Removals, drains, and trees that are taken apart.
pub mod Parts
pub mod Scans
pub mod Earliest
pub mod Gathered
pub mod Removed
pub mod TakenApart
pub mod PoppedByOrder
