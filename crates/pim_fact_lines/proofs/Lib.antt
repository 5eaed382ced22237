pub mod Comparing
pub mod Cuts
pub mod Fews
pub mod FirstNumbers
pub mod LineEnds
pub mod Names
pub mod Numbers
