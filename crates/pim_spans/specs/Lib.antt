pub mod Spans
pub mod Holding
pub mod Words
pub mod Found
pub mod Kept
pub mod Following
