use Rattle.std.proofs.Common.{◌≡◌, ℕ, ◌+◌, false, not, length, count_by, sym, ap, ◌∙◌, arith}
use Rattle.pim_base.specs.Lists.{contains}
use Rattle.pim_waits.specs.Members.{is_marked}
use Rattle.pim_waits.proofs.Marks.{count-unmarked}
use Rattle.pim_waits.proofs.component.Component.clear.Goals as goal

pub invariant_of-self : goal.invariant_of-self
invariant_of-self c =
    let none : (t : ℕ) → is_marked c.unmark.new.marks.items t ≡ false =
    c.unmark.ensures.none
    (λ t. c.self.invariant.marked t ∙ ap (λ ts. contains ts t) (sym c.deref.ensures.value)) in
    record {
      marked = λ t. none t ∙ ap (λ ts. contains ts t) (sym c.clear.ensures.items);
      counted =
          ap (λ ts. length ts + count_by not c.unmark.new.marks.items) c.clear.ensures.items
          ∙ omega (arith, count-unmarked c.unmark.new.marks.items none);
    }
