use Rattle.std.proofs.Common.{◌++◌, ◌∷◌, [], false, ap, ◌∙◌, arith}
use Rattle.pim_waits.specs.Members.{is_marked}
use Rattle.pim_waits.proofs.Marks.{is_marked-push, count-push}
use Rattle.pim_waits.proofs.Whole.{length-push}
use Rattle.pim_waits.proofs.component.Component.add_room.Goals as goal

pub invariant_of-self-2 : goal.invariant_of-self-2
invariant_of-self-2 c =
    let marks = c.self.inside.marks.items in
    let now =
    c.push_reserved.ensures.items ∙ ap (λ bs. bs ++ false ∷ []) c.in_ok-reserve.ensures.items in
    record {
      marked =
          λ t. ap (λ bs. is_marked bs t) now ∙ is_marked-push marks t ∙ c.self.invariant.marked t;
      counted =
          rw now
          (omega (arith, count-push marks, length-push marks false, c.self.invariant.counted));
    }
