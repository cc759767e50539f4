pub mod Callers
pub mod Fits
