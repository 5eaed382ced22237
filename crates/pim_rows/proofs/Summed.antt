-- Times that are added to a tally.
use Rattle.std.proofs.Common.{◌≡◌, ℕ, ◌+◌, ◌≤◌, Bool, true, false, arith, if◌then◌else◌}
use Rattle.pim_world.specs.declared.standing.Standing.{Standing}
use Rattle.pim_rows.specs.Tallies.{Tally, IsWithin, with_time}
use Rattle.pim_rows.proofs.Changes.{add-add, add-zero_time, total-add}

if-if : (b : Bool) (x m n : ℕ) →
    (x + (if b then m else 0)) + (if b then n else 0) ≡ x + (if b then m + n else 0)
if-if true x m n = omega arith
if-if false x m n = omega arith

pub with_time-with_time :
    (s : Standing) (a b : ℕ) (t : Tally)
    → with_time s a (with_time s b t) ≡ with_time s (b + a) t
with_time-with_time s a b t =
    let l = if-if s.lower t.lower b a in
    let i = add-add s.inverted a b t.inverted in
    let r = add-add s.stalled a b t.stalled in
    let m = add-add s.meanwhile a b t.meanwhile in
    cc

if-zero : (b : Bool) (x : ℕ) → x + (if b then 0 else 0) ≡ x
if-zero true x = omega arith
if-zero false x = omega arith

pub with_time-zero : (s : Standing) (t : Tally) → with_time s 0 t ≡ t
with_time-zero s t =
    let l = if-zero s.lower t.lower in
    let i = add-zero_time s.inverted t.inverted in
    let r = add-zero_time s.stalled t.stalled in
    let m = add-zero_time s.meanwhile t.meanwhile in
    let same : with_time s 0 t
    ≡ record {
      lower = t.lower;
      inverted = t.inverted;
      stalled = t.stalled;
      meanwhile = t.meanwhile;
    } =
    cc in
    same

if-le : (b : Bool) (x n : ℕ) → x + (if b then n else 0) ≤ x + n
if-le true x n = omega arith
if-le false x n = omega arith

pub IsWithin-with_time :
    (s : Standing) (time old : ℕ) (t : Tally)
    → IsWithin old t
    → IsWithin (old + time) (with_time s time t)
IsWithin-with_time s time old t within = record {
  lower = omega (arith, within.lower, if-le s.lower t.lower time);
  inverted = omega (arith, within.inverted, total-add s.inverted time t.inverted);
  stalled = omega (arith, within.stalled, total-add s.stalled time t.stalled);
  meanwhile = omega (arith, within.meanwhile, total-add s.meanwhile time t.meanwhile);
}
