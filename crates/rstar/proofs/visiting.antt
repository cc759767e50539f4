-- Visits by recursion, and the way to one payload.
pub mod Visits
pub mod Changes
pub mod WaysDown
pub mod FoundElements
pub mod VisitedMarks
pub mod Writing
