pub mod Doors
pub mod Frames
pub mod Stretches
pub mod laws
