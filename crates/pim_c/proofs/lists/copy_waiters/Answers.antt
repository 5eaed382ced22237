use Rattle.std.proofs.Common.{inl, inr, min, map, suc, ap, ◌≡◌, ◌+◌, ◌∙◌, arith, length}
use Rattle.std.proofs.Math.Nat.{min-eq_left, min-eq_right, min-le_left, min-le_right}
use Rattle.std.proofs.lemmas.Bool.{cases_lt}
use Rattle.pim_ffi.specs.Copied.{copied}
use Rattle.pim_c.specs.Shapes.{c_waiter}
use Rattle.pim_ffi.proofs.Copies.{copied_step, copied_all, copied_full}
use Rattle.pim_c.proofs.lists.copy_waiters.Goals as goal

pub loop-place-preserved : goal.loop-place-preserved
loop-place-preserved c =
    let from = c.args.from.now in let to = c.args.to.now in let k = c.loop-place.place in
    let next : suc k ≡ k + 1 = omega arith in
    let left = min-le_left (length from) (length to) in let right = min-le_right (length from) (length to) in
    let more = copied_step c_waiter from to k c.index-from-place.result (omega arith) (omega arith) c.index-from-place.is in
    cc (more, c.loop-place.invariant)

pub returns-clause-copied : goal.returns-clause-copied
returns-clause-copied c =
    let from = c.args.from.now in let to = c.args.to.now in let k = c.loop-place.place in
    c.loop-place.invariant ∙ elim (cases_lt (length from) (length to)) [
      | inl h ↦
          let least : min (length from) (length to) ≡ length from = min-eq_left (omega arith) in
          ap (λ ws. copied (map c_waiter ws) to) (copied_all c_waiter from k (omega arith))
      | inr h ↦
          let least : min (length from) (length to) ≡ length to = min-eq_right h in
          copied_full c_waiter from to k (omega arith)
    ]
