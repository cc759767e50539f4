pub mod Callers
pub mod Drained
pub mod FirstSeen
pub mod Fits
pub mod LeftHalf
