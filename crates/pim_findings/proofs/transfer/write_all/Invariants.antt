use Rattle.std.proofs.Common.{length}
use Rattle.pim_page.specs.Ends.{Puts}
use Rattle.pim_findings.proofs.transfer.write_all.Given as goal

-- all but the rest is written, and nothing failed
abbrev pub invariant-loop-rest : goal.invariant-loop-rest
invariant-loop-rest g l = Puts (g.W.Sink.told l.fn.writer) (g.W.Sink.told l.writer) l.bytes l.rest

abbrev pub decreases-loop-rest : goal.decreases-loop-rest
decreases-loop-rest g l = length l.rest
