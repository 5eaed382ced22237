-- Which times of a wait are above which.
use Rattle.std.proofs.Common.{◌≡◌, inl, inr, ℕ, zero, suc, ◌+◌, ◌-◌, ◌<◌, ◌≤◌, Bool, true, false}
use Rattle.std.proofs.Common.{◌&&◌, refl, ap, arith, Option, Some, None, List, [], ◌∷◌, is_some}
use Rattle.std.proofs.Common.{is_none, if◌then◌else◌, nat_lt, length, unwrap_or}
use Rattle.std.specs.Option.{option_and_then}
use Rattle.std.proofs.lemmas.Bool.{cond-true, and_parts, and_from, ltb-true, lt-ltb, cases_lt}
use Rattle.std.proofs.lemmas.Option.{slice_get_past}
use Rattle.pim_base.specs.State.{State, base_of}
use Rattle.pim_base.proofs.Effective.{effective_law}
use Rattle.pim_waits.specs.Waiting.{gets, runner}
use Rattle.pim_waits.proofs.Owning.{base-le-own}
use Rattle.pim_world.specs.Worlds.{World, blocked_at}
use Rattle.pim_rows.specs.Moments.{Moment, now, clock, stretch, began, time}
use Rattle.pim_world.specs.Standing.{waits, could_run, inverted_by, is_lower, meanwhile_of}
use Rattle.pim_rows.specs.Laws.{IsInOrder, BoundsLaw, is_inverted, is_stalled, has_meanwhile}
use Rattle.pim_rows.proofs.Sums.{sums_law}

-- ---- times

if-le : (a b : Bool) (n : ℕ) → (a ≡ true → b ≡ true) → (if a then n else 0) ≤ (if b then n else 0)
if-le true true n h = omega arith
if-le true false n h = let no : false ≡ true = h refl in cc
if-le false true n h = omega arith
if-le false false n h = omega arith

if-if-le :
    (a b : Bool) (n : ℕ)
    → (a ≡ true → b ≡ true → ⊥)
    → (if a then n else 0) + (if b then n else 0) ≤ n
if-if-le true true n h = absurd (h refl refl)
if-if-le true false n h = omega arith
if-if-le false true n h = omega arith
if-if-le false false n h = omega arith

time-le : (lasts one other : World → Bool) → ((w : World) → one w ≡ true → other w ≡ true) →
    (ms : List Moment) → time lasts one ms ≤ time lasts other ms
time-le lasts one other implied [] = omega arith
time-le lasts one other implied (m ∷ ms) =
    go (lasts (now ms)) (if-le (one (now ms)) (other (now ms)) (stretch m ms) (implied (now ms)))
    (time-le lasts one other implied ms)
  where
    go : (b : Bool) →
        (if one (now ms) then stretch m ms else 0) ≤ (if other (now ms) then stretch m ms else 0) →
        time lasts one ms ≤ time lasts other ms →
        (if b then time lasts one ms + (if one (now ms) then stretch m ms else 0) else 0)
        ≤ (if b then time lasts other ms + (if other (now ms) then stretch m ms else 0) else 0)
    go true newest before = omega arith
    go false newest before = omega arith

-- two things that never hold at one time hold for no longer than it lasts
time-time-le :
    (lasts one other : World → Bool)
    → ((w : World) → one w ≡ true → other w ≡ true → ⊥)
    →
    (ms : List Moment) → IsInOrder ms →
    (time lasts one ms + time lasts other ms ≤ clock ms - clock (began lasts ms))
    × (clock (began lasts ms) ≤ clock ms)
time-time-le lasts one other apart [] ok = (omega arith, omega arith)
time-time-le lasts one other apart (m ∷ ms) ok =
    go (lasts (now ms)) (if-if-le (one (now ms)) (other (now ms)) (stretch m ms) (apart (now ms)))
    (time-time-le lasts one other apart ms ok.1)
  where
    go : (b : Bool) →
        (if one (now ms) then stretch m ms else 0)
        + (if other (now ms) then stretch m ms else 0) ≤ stretch m ms
        →
        (time lasts one ms + time lasts other ms ≤ clock ms - clock (began lasts ms))
        × (clock (began lasts ms) ≤ clock ms) →
        ((if b then time lasts one ms + (if one (now ms) then stretch m ms else 0) else 0)
        + (if b then time lasts other ms + (if other (now ms) then stretch m ms else 0) else 0)
        ≤ m.world.clock - clock (if b then began lasts ms else m ∷ ms))
        × (clock (if b then began lasts ms else m ∷ ms) ≤ m.world.clock)
    go true newest before = let later = ok.0 in (omega arith, omega arith)
    go false newest before = (omega arith, omega arith)

-- ---- threads

-- a thread gets no less than its level
pub base-le-gets : (S : State) (t : ℕ) → base_of S t ≤ gets S t
base-le-gets S zero = omega arith
base-le-gets S (suc i) = elim (cases_lt i (length S.base)) [
  | inl known ↦
      omega (
        arith,
        base-le-own S (suc i),
        (effective_law S (suc i) (omega arith, omega arith)).itself,
      )
  | inr unknown ↦
      let none : base_of S (suc i) ≡ 0 =
      ap (λ o. unwrap_or o 0) (slice_get_past S.base i unknown) in omega arith
]

-- whoever has less of what is no smaller has less of this
less_of_smaller :
    (has of : ℕ → ℕ) (could : ℕ → Bool) (level : ℕ)
    → ((r : ℕ) → of r ≤ has r)
    → (o : Option ℕ)
    →
    is_some (option_and_then (λ r. if could r && nat_lt (has r) level then Some r else None) o)
    ≡ true →
    is_some (option_and_then (λ r. if could r && nat_lt (of r) level then Some r else None) o)
    ≡ true
less_of_smaller has of could level smaller None h = h
less_of_smaller has of could level smaller (Some r) h =
    go (could r && nat_lt (has r) level) refl h
  where
    go :
        (b : Bool)
        → (could r && nat_lt (has r) level) ≡ b
        → is_some (if b then Some r else None) ≡ true
        →
        is_some (if could r && nat_lt (of r) level then Some r else None) ≡ true
    go true e h =
        let parts = and_parts (could r) (nat_lt (has r) level) e in
        let less : of r < level = omega (arith, ltb-true (has r) level parts.1, smaller r) in
        ap is_some (cond-true _ (Some r) None (and_from _ _ parts.0 (lt-ltb (of r) level less)))
    go false e h = cc

inverted-lower : (t : ℕ) (w : World) → is_inverted t w ≡ true → is_lower w t ≡ true
inverted-lower t w h =
    less_of_smaller (gets w.state)
    (base_of w.state) (could_run w) (gets w.state t) (base-le-gets w.state) (runner w.state t) h

some_before :
    (f : ℕ → Option ℕ) (o : Option ℕ)
    → is_some (option_and_then f o) ≡ true
    → is_some o ≡ true
some_before f None h = h
some_before f (Some x) h = refl

meanwhile-inverted : (t : ℕ) (w : World) → has_meanwhile t w ≡ true → is_inverted t w ≡ true
meanwhile-inverted t w h = some_before (meanwhile_of w t) (inverted_by w t) h

-- a runner that is blocked can't run
blocked_apart : (at : ℕ → Option ℕ) (less : ℕ → Bool) (o : Option ℕ) →
    is_some (option_and_then (λ r. if is_none (at r) && less r then Some r else None) o) ≡ true →
    is_some (option_and_then at o) ≡ true → ⊥
blocked_apart at less None h blocked = cc
blocked_apart at less (Some r) h blocked = go (at r) (less r) h blocked
  where
    go :
        (o : Option ℕ) (b : Bool)
        → is_some (if is_none o && b then Some r else None) ≡ true
        → is_some o ≡ true
        → ⊥
    go None b h blocked = cc
    go (Some x) b h blocked = cc

lower-stalled : (t : ℕ) (w : World) → is_lower w t ≡ true → is_stalled t w ≡ true → ⊥
lower-stalled t w h blocked =
    blocked_apart (blocked_at w)
    (λ r. nat_lt (base_of w.state r) (gets w.state t)) (runner w.state t) h blocked

pub bounds_law : BoundsLaw
bounds_law t ms ok =
    let sums = sums_law t ms in
    let lasted =
    time-time-le (waits t) (λ w. is_lower w t) (is_stalled t) (lower-stalled t) ms ok in
    let less = time-le (waits t) (is_inverted t) (λ w. is_lower w t) (inverted-lower t) ms in
    let least = time-le (waits t) (has_meanwhile t) (is_inverted t) (meanwhile-inverted t) ms in
    record {
      meanwhile = rw (sums.meanwhile, sums.inverted) least;
      inverted = rw (sums.inverted, sums.lower) less;
      lower = rw (sums.lower, sums.stalled) (omega (arith, lasted.0));
      stalled = rw sums.stalled (omega (arith, lasted.0));
    }
