use Rattle.std.proofs.Common.{◌≡◌, ◌==◌, ◌++◌, ◌∷◌, [], true, false, cond, Some, sym, ap, ◌∙◌}
use Rattle.std.proofs.Common.{arith, rules}
use Rattle.pim_base.specs.Lists.{put, nth, contains}
use Rattle.pim_base.proofs.Places.{nth_within, length-put}
use Rattle.pim_waits.specs.Members.{is_marked}
use Rattle.pim_waits.proofs.Marks.{is_marked-mark, contains-push_is, count-mark}
use Rattle.pim_waits.proofs.Whole.{length-push}
use Rattle.pim_waits.proofs.component.Component.add.Goals as goal

pub invariant_of-self-2 : goal.invariant_of-self-2
invariant_of-self-2 c =
    let marks = c.self.inside.marks.items in
    let members = c.self.inside.members.items in
    let n = c.args.thread in
    let unmarked : nth marks n ≡ Some false =
    sym (sym (ap Some c.in-Some-false.field-0-test) ∙ c.in-Some-false.ensures ∙ ap
    (λ bs. nth bs c.thread.inside.0) c.deref.ensures.value ∙ ap (nth marks) c.thread.view_is) in
    let marked : c.put.new.items.items ≡ put marks n true =
    c.put.ensures ∙ ap (λ k. put marks k true) c.thread-2.view_is in
    let pushed : c.push.new.self.items ≡ members ++ n ∷ [] = search rules in
    let fits = nth_within marks n false unmarked in
    record {
      marked = λ t.
          ap (λ bs. is_marked bs t) marked ∙ is_marked-mark marks n t fits.0 fits.1
          ∙ ap (cond (t == n) true) (c.self.invariant.marked t)
          ∙ sym (contains-push_is members n t) ∙ ap (λ ts. contains ts t) (sym pushed);
      counted =
          rw (marked, pushed) (omega (
            arith,
            count-mark marks n unmarked,
            length-put marks n true,
            length-push members n,
            c.self.invariant.counted,
          ));
    }
