use Rattle.std.proofs.Common.{ap, sym, length}
use Rattle.pim_sets.proofs.Members.{members_empty}
use Rattle.pim_sets.proofs.notes.Notes.clear.Goals as goal

pub invariant_of-self : goal.invariant_of-self
invariant_of-self c = (c.self.invariant.0, sym (ap length (members_empty c.new-self-inside.result.words c.new-self-inside.ensures)))
