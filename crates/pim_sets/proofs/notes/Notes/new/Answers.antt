use Rattle.std.proofs.Common.{ap, sym, length, ◌∙◌, ℕ}
use Rattle.std.proofs.lemmas.List.{length-replicate}
use Rattle.pim_base.specs.declared.limits.TheConstants.{MAX_TASKS}
use Rattle.pim_sets.proofs.Members.{members_empty}
use Rattle.pim_sets.proofs.notes.Notes.new.Goals as goal

pub invariant_of-result : goal.invariant_of-result
invariant_of-result c =
    (ap length c.in_ok-filled.ensures ∙ length-replicate {A = ℕ} MAX_TASKS 0, sym (ap length (members_empty c.new.result.words c.new.ensures)))
