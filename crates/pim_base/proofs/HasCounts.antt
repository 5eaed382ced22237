-- No step breaks it: each mutex has a count that goes with its owner.
use Rattle.std.proofs.Common.{◌≡◌, ◌≢◌, ◌⊎◌, inl, inr, ◌==◌, ◌+◌, ◌-◌, ◌≤◌, ◌<◌, ◌&&◌, ℕ, zero, suc, Bool, true, false}
use Rattle.std.proofs.Common.{nat_lt, if◌then◌else◌, List, length, Option, Some, None, is_none, refl, sym, ap, subst, arith}
use Rattle.std.proofs.Common.{unwrap_or, rules}
use Rattle.std.proofs.lemmas.Bool.Decides.{eqb_tells, leb_tells, nat_tests}
use Rattle.std.proofs.lemmas.List.{set_past}
use Rattle.pim_base.specs.Lists.{nth, put, holds}
use Rattle.pim_base.specs.State.{State, IsState, protocol_of, owner_of, count_of, is_recursive, relocks, first_count}
use Rattle.pim_base.specs.State.{with_owner, with_count, with_ceiling}
use Rattle.pim_base.specs.Checks.{not_protect}
use Rattle.pim_base.specs.Priorities.{ceiling}
use Rattle.pim_base.specs.Queues.{first_of}
use Rattle.pim_base.specs.Steps.{is_kept, hand_over, hand_over_to}
use Rattle.pim_base.specs.Steady.{IsCountOf, HasCounts}
use Rattle.pim_base.specs.declared.limits.TheConstants.{MAX_COUNT}
use Rattle.pim_base.specs.declared.steps.Protocol.{Protocol}
use Rattle.pim_base.specs.declared.steps.Waiter.{Waiter}
use Rattle.pim_base.proofs.Places.{nth-put_same, nth-put_other}

both_true : (x y : Bool) → (x && y) ≡ true → (x ≡ true) × (y ≡ true)
both_true x y h = grind rules

-- ---- what a list has at a number once another item was put somewhere

-- the number is that of one of l items
abbrev IsWithin : ℕ → ℕ → Type 0
IsWithin n l = (1 ≤ n) × (n ≤ l)

-- the number is that of none of l items
abbrev IsOutside : ℕ → ℕ → Type 0
IsOutside n l = (n ≡ 0) ⊎ (l < n)

within_or_outside : (n l : ℕ) → IsWithin n l ⊎ IsOutside n l
within_or_outside zero l = inr (inl refl)
within_or_outside (suc i) l = elim (leb_tells (suc i) l) [
  | inl within ↦ inl (omega arith, within.1)
  | inr beyond ↦ inr (inr (omega (arith, beyond.1)))
]

put_outside : {X : Type 0} (xs : List X) (n l : ℕ) (x : X) → IsOutside n l → length xs ≡ l → put xs n x ≡ xs
put_outside xs zero l x outside e = refl
put_outside xs (suc i) l x (inl none) e = cc
put_outside xs (suc i) l x (inr beyond) e = set_past xs i x (omega (arith, beyond, e))

at_put :
    {X : Type 0} (xs : List X) (n l : ℕ) (x d : X)
    → IsWithin n l
    → length xs ≡ l
    → unwrap_or (nth (put xs n x) n) d ≡ x
at_put xs n l x d within e = ap (λ v. unwrap_or v d) (nth-put_same xs n x within.0 (omega (arith, within.1, e)))

-- nothing is put there
beyond_put :
    {X : Type 0} (xs : List X) (n l : ℕ) (x d : X)
    → IsOutside n l
    → length xs ≡ l
    → unwrap_or (nth (put xs n x) n) d ≡ unwrap_or (nth xs n) d
beyond_put xs n l x d outside e = ap (λ ys. unwrap_or (nth ys n) d) (put_outside xs n l x outside e)

beside_put :
    {X : Type 0} (xs : List X) (n k : ℕ) (x d : X)
    → n ≢ k
    → unwrap_or (nth (put xs n x) k) d ≡ unwrap_or (nth xs k) d
beside_put xs n k x d other = ap (λ v. unwrap_or v d) (nth-put_other xs n k x other)

-- ---- the count of one mutex

-- the mutex has a count that goes with its owner
abbrev HasCount : State → ℕ → Type 0
HasCount S m = IsCountOf (protocol_of S m) (owner_of S m) (count_of S m)

-- it has, by what its protocol, its owner and its count are
has_count :
    (T : State) (m : ℕ) {p : Protocol} {o : Option ℕ} {c : ℕ}
    → protocol_of T m ≡ p
    → owner_of T m ≡ o
    → count_of T m ≡ c
    → IsCountOf p o c
    → HasCount T m
has_count T m {p} {o} {c} is_p is_o is_c fits =
    subst (λ q. IsCountOf q (owner_of T m) (count_of T m)) (sym is_p)
    (subst (λ u. IsCountOf p u (count_of T m)) (sym is_o) (subst (IsCountOf p o) (sym is_c) fits))

-- what holds at m and at each other number holds everywhere
everywhere : (T : State) (m : ℕ) → HasCount T m → ((k : ℕ) → m ≢ k → HasCount T k) → HasCounts T
everywhere T m here elsewhere k = elim (eqb_tells m k) [
  | inl same ↦ subst (HasCount T) same.1 here
  | inr other ↦ elsewhere k other.1
]

-- ---- another owner

first_count_fits : (protocol : Protocol) (o : Option ℕ) → IsCountOf protocol o (first_count o)
first_count_fits protocol o = grind (arith, rules)

counts-with_owner : (S : State) (m : ℕ) (o : Option ℕ) → IsState S → HasCounts S → HasCounts (with_owner S m o)
counts-with_owner S m o lists ok =
    everywhere T m (here (within_or_outside m n)) (λ k other.
    has_count T k refl (beside_put S.owner m k o None other) (beside_put S.count m k (first_count o) 0 other) (ok k))
  where
    T : State
    T = with_owner S m o

    n : ℕ
    n = length S.protocol

    here : IsWithin m n ⊎ IsOutside m n → HasCount T m
    here (inl within) =
        has_count T m refl (at_put S.owner m n o None within lists.owners)
        (at_put S.count m n (first_count o) 0 within lists.counts) (first_count_fits (protocol_of S m) o)
    here (inr out) =
        has_count T m refl (beyond_put S.owner m n o None out lists.owners)
        (beyond_put S.count m n (first_count o) 0 out lists.counts) (ok m)

pub counts-grant : (S : State) (m a : ℕ) → IsState S → HasCounts S → HasCounts (with_owner S m (Some a))
counts-grant S m a lists ok = counts-with_owner S m (Some a) lists ok

pub counts-hand_over : (S : State) (m : ℕ) → IsState S → HasCounts S → HasCounts (hand_over S m)
counts-hand_over S m lists ok = go (first_of S m)
  where
    go : (o : Option Waiter) → HasCounts (hand_over_to S m o)
    go None = counts-with_owner S m None lists ok
    go (Some w) = counts-with_owner S m (Some w.task) lists ok

-- ---- another count

counts-with_count :
    (S : State) (m c : ℕ)
    → IsState S
    → HasCounts S
    → IsCountOf (protocol_of S m) (owner_of S m) c
    → HasCounts (with_count S m c)
counts-with_count S m c lists ok fits =
    everywhere T m (here (within_or_outside m n)) (λ k other.
    has_count T k refl refl (beside_put S.count m k c 0 other) (ok k))
  where
    T : State
    T = with_count S m c

    n : ℕ
    n = length S.protocol

    here : IsWithin m n ⊎ IsOutside m n → HasCount T m
    here (inl within) = has_count T m refl refl (at_put S.count m n c 0 within lists.counts) fits
    here (inr out) = has_count T m refl refl (beyond_put S.count m n c 0 out lists.counts) (ok m)

one_more_fits :
    (protocol : Protocol) (o : Option ℕ) (a c : ℕ)
    → is_recursive protocol ≡ true
    → holds o a ≡ true
    → (c == MAX_COUNT) ≡ false
    → IsCountOf protocol o c
    → IsCountOf protocol o (c + 1)
one_more_fits protocol o a c recursive owns few fits = grind (arith, nat_tests)

pub counts-lock_again :
    (S : State) (a m : ℕ)
    → IsState S
    → relocks S a m ≡ true
    → (count_of S m == MAX_COUNT) ≡ false
    → HasCounts S
    → HasCounts (with_count S m (count_of S m + 1))
counts-lock_again S a m lists again few ok =
    let both = both_true (is_recursive (protocol_of S m)) (holds (owner_of S m) a) again in
    counts-with_count S m (count_of S m + 1) lists ok
    (one_more_fits (protocol_of S m) (owner_of S m) a (count_of S m) both.0 both.1 few (ok m))

one_less_fits :
    (protocol : Protocol) (o : Option ℕ) (c : ℕ)
    → nat_lt 1 c ≡ true
    → IsCountOf protocol o c
    → IsCountOf protocol o (c - 1)
one_less_fits protocol o c more fits = grind (arith, nat_tests)

pub counts-keep :
    (S : State) (m : ℕ)
    → IsState S
    → is_kept S m ≡ true
    → HasCounts S
    → HasCounts (with_count S m (count_of S m - 1))
counts-keep S m lists kept ok =
    let both = both_true (is_recursive (protocol_of S m)) (nat_lt 1 (count_of S m)) kept in
    counts-with_count S m (count_of S m - 1) lists ok
    (one_less_fits (protocol_of S m) (owner_of S m) (count_of S m) both.1 (ok m))

-- ---- another ceiling of a PROTECT mutex

-- the count that goes with an owner depends on whether the mutex is recursive, and on nothing else of its protocol
same_count_fits :
    (p q : Protocol) (o : Option ℕ) (c : ℕ)
    → is_recursive p ≡ is_recursive q
    → IsCountOf p o c
    → IsCountOf q o c
same_count_fits p q None c e fits = fits
same_count_fits p q (Some t) c e fits = subst (λ r. (1 ≤ c) × (c ≤ (if r then MAX_COUNT else 1))) e fits

protect_is_plain : (p : Protocol) → is_none (ceiling p) ≡ false → is_recursive p ≡ false
protect_is_plain p e = grind rules

pub counts-with_ceiling :
    (S : State) (m c : ℕ)
    → not_protect S m ≡ false
    → HasCounts S
    → HasCounts (with_ceiling S m c)
counts-with_ceiling S m c protect ok =
    everywhere T m (here (within_or_outside m n)) (λ k other.
    has_count T k (beside_put S.protocol m k new Protocol.None other) refl refl (ok k))
  where
    T : State
    T = with_ceiling S m c

    n : ℕ
    n = length S.protocol

    new : Protocol
    new = Protocol.Protect c

    here : IsWithin m n ⊎ IsOutside m n → HasCount T m
    here (inl within) =
        has_count T m (at_put S.protocol m n new Protocol.None within refl) refl refl
        (same_count_fits (protocol_of S m) new (owner_of S m) (count_of S m) (protect_is_plain (protocol_of S m) protect)
        (ok m))
    here (inr out) = has_count T m (beyond_put S.protocol m n new Protocol.None out refl) refl refl (ok m)
