pub mod SameOps
pub mod Asked
pub mod Made
pub mod Prefixes
pub mod SameEntries
pub mod Entering
pub mod Publishing
pub mod Beginning
