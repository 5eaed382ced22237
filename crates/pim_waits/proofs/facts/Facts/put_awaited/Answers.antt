use Rattle.std.proofs.Common.{◌≡◌, refl, sym, ◌∙◌, ap, subst, map}
use Rattle.std.specs.Option.{option_map}
use Rattle.pim_base.specs.Lists.{put}
use Rattle.pim_base.specs.declared.steps.Wait.{Wait}
use Rattle.pim_waits.specs.Model.{wait_for}
use Rattle.pim_waits.specs.Awaited.{awaited_of}
use Rattle.pim_waits.specs.Shown.{state_of, AreListed}
use Rattle.pim_waits.proofs.Grouping.{by_same}
use Rattle.pim_waits.proofs.Places.{map_put}
use Rattle.pim_waits.proofs.Whole.{same_state, listed_wait, mutex-wait_for}
use Rattle.pim_waits.proofs.facts.Facts.put_awaited.Goals as goal

pub invariant_of-self : goal.invariant_of-self
invariant_of-self c = record {
  whole = c.self.invariant.whole;
  owned = c.self.invariant.owned;
  waiting = c.in_err-transfer.ensures.err _ c.self.invariant.waiting;
}

pub invariant_of-self-2 : goal.invariant_of-self-2
invariant_of-self-2 c =
    let f = c.self.inside in
    let S = state_of f in
    let w = option_map wait_for c.args.mutex in
    let was : awaited_of S c.thread.inside.0 ≡ c.mutex_number-from.result =
    ap (awaited_of S) c.thread.view_is ∙ ap (λ T. awaited_of T c.args.thread) c.self.view_is
    ∙ ap (option_map (λ (w : Wait). w.mutex)) (sym c.awaited.ensures)
    ∙ mutex-wait_for c.awaited.result ∙ sym c.mutex_number-from.ensures in
    subst (λ T. AreListed T f.owned c.transfer.new.self)
    (same_state refl refl refl refl
    (sym (ap (map (option_map wait_for))
    (c.put.ensures ∙ ap (λ n. put f.awaited.items n c.args.mutex) c.thread.view_is)
    ∙ map_put (option_map wait_for) f.awaited.items c.args.thread c.args.mutex))
    refl)
    (listed_wait S f.owned f.waiting c.transfer.new.self c.args.thread w c.self.invariant
    (by_same c.transfer.new.self (awaited_of S) c.thread.view_is
    (c.mutex_number-to.ensures ∙ sym (mutex-wait_for c.args.mutex))
    (c.in_ok-transfer.ensures.ok (awaited_of S) was c.self.invariant.waiting)))
