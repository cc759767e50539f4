-- Commands and replays.
pub mod Replays
pub mod Firsts
pub mod StepsByOrder
