use Rattle.std.proofs.Common.{◌≡◌}
use Rattle.pim_page.proofs.streams.InputSource.read.Given as goal

-- an interrupted read is no failure
abbrev pub invariant-loop-attempt : goal.invariant-loop-attempt
invariant-loop-attempt g l = l.self.failures ≡ l.fn.self.failures
