pub mod Answers
pub mod Handles
pub mod Items
pub mod Owned
pub mod Put
pub mod Seen
