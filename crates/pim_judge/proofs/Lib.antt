pub mod PrintingLemmas
pub mod ReportLemmas
pub mod TraceLineLemmas
pub mod EntryLemmas
