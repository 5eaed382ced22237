use Rattle.std.proofs.Common.{◌≡◌, ℕ, ◌==◌, false, cond, length, get_or, sym, ◌∙◌, ap, arith}
use Rattle.std.proofs.Common.{below_more, eq-eqb}
use Rattle.std.proofs.lemmas.List.{get_or_default}
use Rattle.pim_base.proofs.Places.{length-put}
use Rattle.pim_waits.specs.Members.{is_marked}
use Rattle.pim_waits.proofs.Marks.{is_marked-unmark, none_marked, kept_unmarked, still_unmarked}
use Rattle.pim_waits.proofs.component.unmark.Goals as goal

pub loop-thread-preserved : goal.loop-thread-preserved
loop-thread-preserved c =
    let marks = c.loop-thread.marks.items in
    let n = c.thread.inside.0 in
    let i = c.loop-thread.thread-index in
    let is : (t : ℕ) → is_marked c.put.new.items.items t ≡ cond (t == n) false (is_marked marks t) =
    λ t. ap (λ bs. is_marked bs t) c.put.ensures ∙ is_marked-unmark marks n t in
    let here : get_or c.args.threads.now i 0 ≡ n =
    get_or_default c.args.threads.now i 0 c.thread-item.result c.loop-thread-test.true
    ∙ sym c.thread-item.is ∙ sym c.thread.view_is in
    record {
      len = ap length c.put.ensures ∙ length-put marks n false ∙ c.loop-thread.invariant.len;
      left =
          λ t h. c.loop-thread.invariant.left t
          (kept_unmarked (t == n) (is_marked marks t) (sym (is t) ∙ h));
      gone = below_more _ _
          (λ k low. is (get_or c.args.threads.now k 0)
          ∙ still_unmarked _ _ (c.loop-thread.invariant.gone k low))
          (is (get_or c.args.threads.now i 0) ∙ ap (λ b.
          cond b false (is_marked marks (get_or c.args.threads.now i 0))) (eq-eqb _ _ here));
    }

pub returns-clause-none : goal.returns-clause-none
returns-clause-none c marked t =
    none_marked c.args.marks.now.items
    c.loop-thread.marks.items c.args.threads.now c.loop-thread.invariant.left
    (λ k low. c.loop-thread.invariant.gone k (omega (arith, low))) marked t
