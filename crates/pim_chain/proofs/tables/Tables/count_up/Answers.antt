use Rattle.pim_chain.specs.Shown.{shown}
use Rattle.pim_chain.proofs.Fields.{settled_after}
use Rattle.pim_chain.proofs.tables.Tables.count_up.Goals as goal

pub returns-clause-unsettles : goal.returns-clause-unsettles
returns-clause-unsettles c settled = settled_after {w = shown c.self.inside} c.self.view_is settled
