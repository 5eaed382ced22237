pub use Rattle.pim_base.specs.Texts
pub use Rattle.pim_base.specs.Scripts
pub mod Reading
pub mod Kinds
pub mod Laws
pub mod Words
pub mod Explains
