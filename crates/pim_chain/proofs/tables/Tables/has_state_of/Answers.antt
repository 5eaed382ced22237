use Rattle.pim_chain.specs.Shown.{shown}
use Rattle.pim_chain.proofs.Same.{same_fields-Decides}
use Rattle.pim_chain.proofs.tables.Tables.has_state_of.Goals as goal

pub returns : goal.returns
returns c =
    rw (← c.self.view_is, ← c.other.view_is)
    (same_fields-Decides (shown c.self.inside).state (shown c.other.inside).state c.eq.result c.eq.ensures)
