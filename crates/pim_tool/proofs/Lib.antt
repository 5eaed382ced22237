pub mod CommandLemmas
pub mod RunningLemmas
