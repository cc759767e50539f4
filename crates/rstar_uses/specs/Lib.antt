pub mod Numbered
pub mod Polygons
pub mod Tests
