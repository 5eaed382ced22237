pub mod Copied
pub mod Protocols
