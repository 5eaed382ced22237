use Rattle.std.proofs.Common.{◌++◌, ◌∷◌, [], map, None, refl, ap, ◌∙◌, subst, sym}
use Rattle.std.proofs.lemmas.List.{map-append}
use Rattle.pim_waits.specs.Model.{protocol_in_model}
use Rattle.pim_waits.specs.Shown.{state_of, AreListed}
use Rattle.pim_waits.proofs.Whole.{same_state, listed_mutex}
use Rattle.pim_waits.proofs.facts.Facts.add_mutex.Goals as goal

pub invariant_of-self-2 : goal.invariant_of-self-2
invariant_of-self-2 c =
    let f = c.self.inside in
    subst (λ S. AreListed S f.owned f.waiting)
    (same_state refl
    (sym (ap (map protocol_in_model) (c.push_reserved.ensures.items
    ∙ ap (λ xs. xs ++ c.args.protocol ∷ []) c.in_ok-reserve.ensures.items)
    ∙ map-append protocol_in_model f.protocols.items (c.args.protocol ∷ [])))
    (sym (c.push_reserved-2.ensures.items
    ∙ ap (λ xs. xs ++ None ∷ []) c.in_ok-reserve-2.ensures.items))
    (sym
    (c.push_reserved-3.ensures.items ∙ ap (λ xs. xs ++ 0 ∷ []) c.in_ok-reserve-3.ensures.items))
    refl refl)
    (listed_mutex
    (state_of f) f.owned f.waiting (protocol_in_model c.args.protocol) c.self.invariant)
