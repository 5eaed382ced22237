use Rattle.std.proofs.Common.{◌++◌, ◌∷◌, [], map, None, refl, ap, ◌∙◌, subst, sym}
use Rattle.std.specs.Option.{option_map}
use Rattle.std.proofs.lemmas.List.{map-append}
use Rattle.pim_waits.specs.Model.{wait_for}
use Rattle.pim_waits.specs.Shown.{state_of, AreListed}
use Rattle.pim_waits.proofs.Whole.{same_state, listed_thread}
use Rattle.pim_waits.proofs.facts.Facts.add_thread.Goals as goal

pub invariant_of-self-2 : goal.invariant_of-self-2
invariant_of-self-2 c =
    let f = c.self.inside in
    subst (λ S. AreListed S f.owned f.waiting)
    (same_state
    (sym (c.push_reserved.ensures.items
    ∙ ap (λ xs. xs ++ c.args.level ∷ []) c.in_ok-reserve.ensures.items))
    refl refl refl
    (sym (ap (map (option_map wait_for)) (c.push_reserved-2.ensures.items
    ∙ ap (λ xs. xs ++ None ∷ []) c.in_ok-reserve-2.ensures.items)
    ∙ map-append (option_map wait_for) f.awaited.items (None ∷ [])))
    refl)
    (listed_thread (state_of f) f.owned f.waiting c.args.level c.self.invariant)
