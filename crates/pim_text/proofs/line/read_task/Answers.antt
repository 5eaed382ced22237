use Rattle.std.proofs.Common.{◌≡◌, List, ℕ, ap, ◌∙◌, ◌∷◌, [], codes, decimal}
use Rattle.pim_text.specs.Reading.{words}
use Rattle.pim_text.proofs.WordLemmas.{cut_some, cut_none, one_prio}
use Rattle.pim_text.proofs.LineLemmas.{task_no_number, task_only_number, task_no_base}
use Rattle.pim_text.proofs.line.read_task.Goals as goal

pub returns-in_err-number : goal.returns-in_err-number
returns-in_err-number c =
    rw c.from_residual.ensures (task_no_number _ _ _ c.cut.ensures.parts c.in_err-number.ensures)

pub returns-in_err-base : goal.returns-in_err-base
returns-in_err-base c =
    rw c.from_residual-in_err-base.ensures (task_only_number _ _ (cut_none _ _ _ c.cut.ensures.parts c.in_err-base.was))

pub returns-in_err-base-2 : goal.returns-in_err-base-2
returns-in_err-base-2 c =
    rw c.from_residual-in_err-base-2.ensures
    (task_no_base _ _ c.in_ok-base.field-0.now (cut_some _ _ _ _ c.cut.ensures.parts c.in_ok-base.was)
    c.in_err-base-2.ensures)

pub returns : goal.returns
returns c =
    let number = c.in_ok-number.ensures in
    let base = c.in_ok-base-2.ensures in
    let ws : words c.args.rest.now ≡ decimal c.in_ok-number.number ∷ decimal c.in_ok-base-2.base ∷ [] =
    cut_some _ _ _ _ c.cut.ensures.parts c.in_ok-base.was
    ∙ ap (λ (w : List ℕ). w ∷ words c.in_ok-base.field-0.now) number.1
    ∙ ap (λ (ws : List (List ℕ)). decimal c.in_ok-number.number ∷ ws) (one_prio _ _ base.0 base.1) in
    ((number.0, base.0), ap (λ (ws : List (List ℕ)). codes "task" ∷ ws) ws)
