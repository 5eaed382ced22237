pub mod Unknown
pub mod InOrder
pub mod Fronts
pub mod States
pub mod Cpus
pub mod Steadiness
pub mod Touching
pub mod Same
