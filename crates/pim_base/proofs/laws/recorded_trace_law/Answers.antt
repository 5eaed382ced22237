use Rattle.pim_base.proofs.RecordedTraces.{recorded_trace_law as law}
use Rattle.pim_base.proofs.laws.recorded_trace_law.Goals as goal

pub returns : goal.returns
returns c = law
