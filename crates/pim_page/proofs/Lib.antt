pub mod EndsLemmas
pub mod DecimalLemmas
pub mod PutsLemmas
pub mod TraceLineLemmas
