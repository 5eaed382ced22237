use Rattle.std.proofs.Common.{◌≡◌, ◌++◌, ◌∷◌, [], suc, length, sym, ◌∙◌, ap, subst, arith}
use Rattle.pim_base.specs.State.{State}
use Rattle.pim_waits.specs.Added.{with_thread}
use Rattle.pim_waits.specs.Flow.{Flows, level_at, nobody}
use Rattle.pim_waits.specs.Whole.{IsWhole}
use Rattle.pim_waits.proofs.Settling.{flows_thread}
use Rattle.pim_waits.proofs.Whole.{length-push, whole_thread}
use Rattle.pim_waits.proofs.waits.Waits.add_thread.Goals as goal

pub invariant_of-self-2 : goal.invariant_of-self-2
invariant_of-self-2 c =
    let S = c.self.inside.facts in
    let T = with_thread S c.args.level in
    let levels = c.self.inside.gets.items in
    let old = c.self.invariant in
    let is = c.in_ok-add_thread.ensures.ok in
    let more : c.push_reserved.new.self.items ≡ levels ++ c.args.level ∷ [] =
    c.push_reserved.ensures.items
    ∙ ap (λ ls. ls ++ c.args.level ∷ []) c.in_ok-reserve.ensures.items in
    let whole : IsWhole T = whole_thread S c.args.level old.whole in
    let flows : Flows T (level_at (levels ++ c.args.level ∷ [])) nobody =
    flows_thread S c.args.level old.whole whole levels old.len old.flows in
    let tasks : length c.add_thread.new.self.base ≡ suc (length S.base) =
    ap (λ (X : State). length X.base) is ∙ length-push S.base c.args.level in
    record {
      whole = subst IsWhole (sym is) whole;
      len = ap length more ∙ length-push levels c.args.level ∙ ap suc old.len ∙ sym tasks;
      flows =
          subst (λ X. Flows X (level_at c.push_reserved.new.self.items) nobody) (sym is)
          (subst (λ ls. Flows T (level_at ls) nobody) (sym more) flows);
      room = omega (arith, old.room, tasks);
    }
