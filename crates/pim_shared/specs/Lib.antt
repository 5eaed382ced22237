pub mod Logs
pub mod Outcomes
pub mod Gathered
pub mod Versions
pub mod Rules
pub mod Lookers
pub mod Publishers
pub mod Books
