-- What a thread has by itself, one owned mutex after another.
use Rattle.std.proofs.Common.{◌≡◌, ℕ, ◌<◌, ◌≤◌, Bool, true, false, cond, max, List, length, get_or}
use Rattle.std.proofs.Common.{Some, refl, arith, map, eq-eqb}
use Rattle.pim_base.specs.Lists.{contains, holds}
use Rattle.pim_base.specs.State.{State, IsMutex, base_of, owner_of, owned}
use Rattle.pim_base.specs.Priorities.{ceiling_of, own_priority}
use Rattle.pim_base.proofs.Greatest.{greatest-cons, greatest_of, greatest_of-le, le-greatest_of}
use Rattle.pim_base.proofs.Effective.{known_from_owner}
use Rattle.pim_base.proofs.Stored.{from_holds}
use Rattle.pim_waits.specs.Own.{ceiling_for}
use Rattle.pim_waits.specs.Whole.{IsWhole}
use Rattle.pim_waits.proofs.Lists.{contains_at}

-- the highest ceiling of the mutexes that it owns
abbrev ceilings : State → ℕ → ℕ
ceilings S t = greatest_of (ceiling_of S) (λ m. holds (owner_of S m) t) (length S.protocol)

own_is : (S : State) (t : ℕ) → own_priority S t ≡ max (base_of S t) (ceilings S t)
own_is S t = greatest-cons (base_of S t) (map (ceiling_of S) (owned S t))

pub base-le-own : (S : State) (t : ℕ) → base_of S t ≤ own_priority S t
base-le-own S t = omega (arith, own_is S t)

pub ceiling-le-own :
    (S : State) (m t : ℕ)
    → IsWhole S
    → owner_of S m ≡ Some t
    → ceiling_of S m ≤ own_priority S t
ceiling-le-own S m t whole owner =
    let known : IsMutex S m = known_from_owner S m t whole.lists owner in
    let holds_it : holds (owner_of S m) t ≡ true = rw owner (eq-eqb t t refl) in
    omega (
      arith,
      own_is S t,
      le-greatest_of
          (ceiling_of S)
          (λ k. holds (owner_of S k) t) (length S.protocol) m known.0 known.1 holds_it,
    )

pub ceiling_for-le-own : (S : State) (m t : ℕ) → IsWhole S → ceiling_for S m t ≤ own_priority S t
ceiling_for-le-own S m t whole = go (holds (owner_of S m) t) refl
  where
    go : (b : Bool) → holds (owner_of S m) t ≡ b → cond b (ceiling_of S m) 0 ≤ own_priority S t
    go true h = ceiling-le-own S m t whole (from_holds (owner_of S m) t h)
    go false h = omega arith

pub own-le :
    (S : State) (t b : ℕ)
    → base_of S t ≤ b
    → ((m : ℕ) → owner_of S m ≡ Some t → ceiling_of S m ≤ b)
    → own_priority S t ≤ b
own-le S t b base each =
    omega (
      arith,
      own_is S t,
      base,
      greatest_of-le (ceiling_of S) (λ m. holds (owner_of S m) t)
          (length S.protocol) b (λ m low high h. each m (from_holds (owner_of S m) t h)),
    )

pub own-le_listed :
    (S : State) (t b : ℕ) (mutexes : List ℕ)
    → ((m : ℕ) → owner_of S m ≡ Some t → contains mutexes m ≡ true)
    → base_of S t ≤ b
    → ((k : ℕ) → k < length mutexes → ceiling_for S (get_or mutexes k 0) t ≤ b)
    → own_priority S t ≤ b
own-le_listed S t b mutexes listed base each = own-le S t b base (λ m owner.
    let at = contains_at mutexes m (listed m owner) in
    let holds_it : holds (owner_of S m) t ≡ true = rw owner (eq-eqb t t refl) in
    let there : ceiling_for S m t ≤ b = rw at.2 at (each at.0 at.1) in
    rw holds_it at there)
