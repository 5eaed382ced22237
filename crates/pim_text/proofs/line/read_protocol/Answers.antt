use Rattle.std.proofs.Common.{List, ℕ, ap, ◌∙◌, ◌∷◌, codes}
use Rattle.pim_text.specs.Reading.{words}
use Rattle.pim_text.proofs.WordLemmas.{cut_some, cut_none, one_prio}
use Rattle.pim_text.proofs.LineLemmas.{no_protocol, no_ceiling, bad_ceiling, not_protect}
use Rattle.pim_text.proofs.line.read_protocol.Goals as goal

pub returns-in_err-ceiling : goal.returns-in_err-ceiling
returns-in_err-ceiling c =
    rw c.from_residual.ensures
    (no_protocol _ c.if-is.ensures c.if-is-2.ensures c.if-is-3.ensures
    (no_ceiling _ _ (cut_none _ _ _ c.cut.ensures.parts c.in_err-ceiling.was)))

pub returns-in_err-ceiling-2 : goal.returns-in_err-ceiling-2
returns-in_err-ceiling-2 c =
    rw c.from_residual-in_err-ceiling-2.ensures
    (no_protocol _ c.if-is.ensures c.if-is-2.ensures c.if-is-3.ensures
    (bad_ceiling _ _ _ (cut_some _ _ _ _ c.cut.ensures.parts c.in_ok-ceiling.was) c.in_err-ceiling-2.ensures))

pub returns-then-is-4 : goal.returns-then-is-4
returns-then-is-4 c =
    let ceiling = c.in_ok-ceiling-2.ensures in (
      ceiling.0,
      cut_some _ _ _ _ c.cut.ensures.parts c.in_ok-ceiling.was
          ∙ ap (λ (w : List ℕ). w ∷ words c.in_ok-ceiling.field-0.now) c.if-is-4.ensures
          ∙ ap (λ (ws : List (List ℕ)). codes "protect" ∷ ws) (one_prio _ _ ceiling.0 ceiling.1),
    )

pub returns-else-is-4 : goal.returns-else-is-4
returns-else-is-4 c =
    no_protocol _ c.if-is.ensures c.if-is-2.ensures c.if-is-3.ensures
    (not_protect _ _ _ c.cut.ensures.parts c.if-is-4.ensures)
