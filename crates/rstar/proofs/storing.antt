-- Trees of points as bytes.
pub mod Bytes
pub mod Laws
pub mod Faults
pub mod Written
