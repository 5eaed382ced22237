pub mod Same
pub mod Kept
pub mod Places
pub mod Unmoved
pub mod Threads
pub mod Puts
