-- What a task owns is known.
use Rattle.std.proofs.Common.{◌≡◌, ℕ, ◌==◌, ◌||◌, nat_lt, true, ap, subst, arith, Option, Some, None, List, [], ◌∷◌, length, unwrap_or}
use Rattle.std.specs.List.{AllByRecursion, filter}
use Rattle.std.proofs.lemmas.Bool.Decides.{nat_tests}
use Rattle.pim_base.specs.Lists.{nth, holds}
use Rattle.pim_base.specs.State.{State, IsState, IsMutex, owner_of, owned, mutex_numbers, with_owner}
use Rattle.pim_base.proofs.Places.{nth-put_same, nth_within}
use Rattle.pim_base.proofs.Stored.{from_holds}
use Rattle.pim_queue.proofs.Order.{all_each}

-- what has an owner, is a known mutex
pub owned_mutex : (S : State) (m t : ℕ) → IsState S → owner_of S m ≡ Some t → IsMutex S m
owned_mutex S m t lists owns = grind (arith, nth_within S.owner m, lists.owners)

-- and gets the owner that it is given
pub owner_of-given : (S : State) (m t : ℕ) → IsState S → IsMutex S m → owner_of (with_owner S m (Some t)) m ≡ Some t
owner_of-given S m t lists mutex =
    ap (λ o. unwrap_or o None) (nth-put_same S.owner m (Some t) mutex.0 (omega (arith, mutex.1, lists.owners)))

-- an unknown number has no entry
pub none_at_unknown :
    {X : Type 0} → (xs : List (Option X)) (n k : ℕ)
    → length xs ≡ n
    → (k == 0 || nat_lt n k) ≡ true
    → unwrap_or (nth xs k) None ≡ None
none_at_unknown xs n k len unknown = grind (arith, nat_tests, nth_within xs k)

-- a task is the owner of each mutex that it owns
owned_among : (S : State) (t : ℕ) (ms : List ℕ) → AllByRecursion (λ m. owner_of S m ≡ Some t) (filter (λ m. holds (owner_of S m) t) ms)
owned_among S t [] = tt
owned_among S t (m ∷ ms) = grind (arith, from_holds, owned_among S t ms)

pub owned_all : (S : State) (t : ℕ) → AllByRecursion (λ m. owner_of S m ≡ Some t) (owned S t)
owned_all S t = owned_among S t (mutex_numbers S)

-- each mutex that the task owns is known
pub owned_mutexes : (S : State) (t : ℕ) → IsState S → AllByRecursion (IsMutex S) (owned S t)
owned_mutexes S t lists = all_each _ _ (λ m owns. owned_mutex S m t lists owns) (owned S t) (owned_all S t)

-- what holds of all that are left, holds of the next and of all behind it
pub next_all : (P : ℕ → Type 0) (xs ys : List ℕ) (m : ℕ) → xs ≡ m ∷ ys → AllByRecursion P xs → P m × AllByRecursion P ys
next_all P xs ys m is all = subst (AllByRecursion P) is all
