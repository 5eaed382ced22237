mod Left
pub mod Members
