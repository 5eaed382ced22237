mod Copies
mod Handles
mod Priorities
