use Rattle.std.proofs.Common.{◌≡◌, IfSome, refl, sym, ◌∙◌, ap, subst}
use Rattle.pim_base.specs.Lists.{put}
use Rattle.pim_base.specs.State.{IsTask, owner_of}
use Rattle.pim_waits.specs.Shown.{state_of, AreListed}
use Rattle.pim_waits.proofs.Grouping.{by_same}
use Rattle.pim_waits.proofs.Whole.{same_state, listed_owner}
use Rattle.pim_waits.proofs.facts.Facts.put_owner.Goals as goal

pub invariant_of-self : goal.invariant_of-self
invariant_of-self c = record {
  whole = c.self.invariant.whole;
  owned = c.in_err-transfer.ensures.err _ c.self.invariant.owned;
  waiting = c.self.invariant.waiting;
}

pub invariant_of-self-2 : goal.invariant_of-self-2
invariant_of-self-2 c =
    let f = c.self.inside in
    let S = state_of f in
    let o = c.args.owner in
    let was : owner_of S c.mutex.inside.0 ≡ c.thread_number-from.result =
    ap (owner_of S) c.mutex.view_is ∙ ap (λ T. owner_of T c.args.mutex) c.self.view_is
    ∙ sym c.owner.ensures ∙ sym c.thread_number-from.ensures in
    subst (λ T. AreListed T c.transfer.new.self f.waiting)
    (same_state refl refl (sym (c.put-2.ensures ∙ ap (λ n. put f.owners.items n o) c.mutex.view_is))
    (sym (c.put.ensures ∙ ap (λ n. put f.counts.items n c.first_count.result) c.mutex.view_is
    ∙ ap (put f.counts.items c.args.mutex) c.first_count.ensures))
    refl refl)
    (listed_owner S f.owned c.transfer.new.self f.waiting c.args.mutex o
    (subst (λ T. IfSome o (IsTask T)) (sym c.self.view_is) c.requires) c.self.invariant
    (by_same c.transfer.new.self (owner_of S) c.mutex.view_is c.thread_number-to.ensures
    (c.in_ok-transfer.ensures.ok (owner_of S) was c.self.invariant.owned)))
