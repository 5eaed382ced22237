use Rattle.std.proofs.Common.{◌≡◌, ◌-◌, ◌+◌, ◌∙◌, ◌==◌, ◌||◌, ℕ, Bool, arith, sym, ap, length, Option, Some}
use Rattle.std.specs.List.{list_any}
use Rattle.pim_base.specs.Queues.{waiter_of}
use Rattle.pim_base.specs.declared.steps.Waiter.{Waiter}
use Rattle.pim_base.proofs.Firsts.{queue_upto, queue_upto-some, queue_upto-none}
use Rattle.pim_plain.proofs.Searches.{list_any-insert_by}
use Rattle.pim_plain.proofs.plain_manager.PlainManager.has_waiter_at.Goals as goal
use Rattle.pim_plain.proofs.plain_manager.PlainManager.has_waiter_at.Goals.{in-Some+then-found, in-Some+else-found, in_default}

pub loop-number-preserved : goal.loop-number-preserved
loop-number-preserved c =
    let wait : ℕ → Option Waiter = waiter_of c.args.self.now c.args.mutex in
    let p : Waiter → Bool = λ w. w.prio == c.args.prio in
    let n : ℕ = c.loop-number.number in
    let done : (n - 1) + 1 ≡ n = omega (arith, c.loop-number.auto.number) in
    let next : (n + 1) - 1 ≡ n = omega arith in
    let one_more : (v : Waiter) → wait n ≡ Some v → list_any p (queue_upto wait n) ≡ (c.loop-number.found || p v) =
    λ v e. ap (list_any p) (queue_upto-some wait n (n - 1) v done e) ∙ list_any-insert_by p (queue_upto wait (n - 1)) v
    ∙ ap (λ b. b || p v) (sym c.loop-number.invariant) in
    rw next (elim c.match-waiter_of.branch [
      | in-Some+then-found w ↦
          w.found-is
          ∙ sym (one_more w.in-Some.waiter (sym c.waiter_of.ensures ∙ w.in-Some.is) ∙ ap (λ b. b || p w.in-Some.waiter) w.if-found.true
          ∙ sym w.if-found.true)
      | in-Some+else-found w ↦
          w.found-is ∙ w.eq-found.ensures
          ∙ sym (one_more w.in-Some.waiter (sym c.waiter_of.ensures ∙ w.in-Some.is) ∙ ap (λ b. b || p w.in-Some.waiter) w.if-found.false)
      | in_default w ↦
          w.found-is ∙ c.loop-number.invariant
          ∙ sym (ap (list_any p) (queue_upto-none wait n (n - 1) done (sym c.waiter_of.ensures ∙ w.in_default.is)))
    ])

pub returns : goal.returns
returns c =
    let all : c.loop-number.number - 1 ≡ length c.args.self.now.base =
    omega (arith, c.loop-number.auto.number, c.loop-number.auto.number-end) in
    c.loop-number.invariant
    ∙ ap (λ k. list_any (λ (w : Waiter). w.prio == c.args.prio) (queue_upto (waiter_of c.args.self.now c.args.mutex) k)) all
