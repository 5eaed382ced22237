use Rattle.std.proofs.Common.{subst}
use Rattle.pim_page.specs.Ends.{Happened}
use Rattle.pim_page.proofs.EndsLemmas.{raised}
use Rattle.pim_findings.proofs.transfer.read_all.Goals as goal

pub returns-in_default-clause-read : goal.returns-in_default-clause-read
returns-in_default-clause-read g c = λ e.
    subst
    (λ old. Happened old (g.R.Source.failures c.read.new.self)) c.loop-count.invariant.failures
    (raised _ _ c.in_default.ensures.err)
