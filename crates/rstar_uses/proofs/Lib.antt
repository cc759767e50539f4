pub mod Able
pub mod Limits
pub mod Lists
pub mod Numbered
pub mod PolygonBoxes
pub mod Rings
pub mod Sides
pub mod Vehicles
