use Rattle.std.proofs.Common.{◌≡◌, ◌∙◌, ◌+◌, true, false, sym, ap, ℕ, List}
use Rattle.pim_base.specs.Lists.{contains}
use Rattle.pim_waits.proofs.Lists.{contains-push}
use Rattle.pim_world.proofs.Touching.{outside_both}
use Rattle.pim_rows.proofs.open_waits.OpenWaits.note.Goals as goal

pub returns-in-Ok-clause-kept : goal.returns-in-Ok-clause-kept
returns-in-Ok-clause-kept c t out =
    (outside_both c.args.threads.now.items _ t
    (ap (λ (ts : List ℕ). contains ts t) (sym c.in-Ok.ensures.items) ∙ out)).0

pub returns-in-Ok-clause-here : goal.returns-in-Ok-clause-here
returns-in-Ok-clause-here c out =
    absurd (let no : false ≡ true =
    sym out ∙ ap (λ (ts : List ℕ). contains ts (c.args.index + 1)) c.in-Ok.ensures.items
    ∙ contains-push c.args.threads.now.items (c.args.index + 1) in cc)
