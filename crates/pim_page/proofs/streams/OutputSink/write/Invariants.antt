use Rattle.std.proofs.Common.{◌≡◌}
use Rattle.pim_page.proofs.streams.OutputSink.write.Given as goal

-- an interrupted write is no failure, and took nothing
abbrev pub invariant-loop-attempt : goal.invariant-loop-attempt
invariant-loop-attempt g l = record {
  failures : l.self.failures ≡ l.fn.self.failures;
  stalls : l.self.stalls ≡ l.fn.self.stalls;
}
