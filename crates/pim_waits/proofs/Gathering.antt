-- The threads that wait for each other, as they are gathered.
use Rattle.std.proofs.Common.{◌≡◌, ℕ, ◌<◌, ◌≤◌, ◌++◌, true, List, [], ◌∷◌, length, get_or, Option}
use Rattle.std.proofs.Common.{Some, None, refl, ◌∙◌, ap, subst, arith, append_assoc, zero, suc}
use Rattle.std.specs.Option.{option_map}
use Rattle.std.proofs.lemmas.Option.{option_and_then_some}
use Rattle.pim_base.specs.Lists.{contains}
use Rattle.pim_base.specs.State.{State, IsState, IsTask, owner_of, wait_of}
use Rattle.pim_base.specs.Chains.{blocker}
use Rattle.pim_base.specs.declared.steps.Wait.{Wait}
use Rattle.pim_base.proofs.Places.{nth_within}
use Rattle.pim_waits.specs.Awaited.{awaited_of}
use Rattle.pim_waits.specs.Members.{Members, Extends, HasNeighbours, IsClosed}
use Rattle.pim_waits.proofs.Lists.{contains-left, contains_at, same_tests}

pub extends-trans : (a b c : Members) → Extends a b → Extends b c → Extends a c
extends-trans a b c ab bc = record {
  room = bc.room ∙ ab.room;
  more = ab.more ++ bc.more;
  front = bc.front ∙ ap (λ ts. ts ++ bc.more) ab.front ∙ append_assoc a.threads ab.more bc.more;
}

pub extends-contains :
    (a b : Members) (t : ℕ)
    → Extends a b
    → contains a.threads t ≡ true
    → contains b.threads t ≡ true
extends-contains a b t ab h =
    ap (λ ts. contains ts t) ab.front ∙ contains-left a.threads ab.more t h

get_or-left : (xs ys : List ℕ) (k : ℕ) → k < length xs → get_or (xs ++ ys) k 0 ≡ get_or xs k 0
get_or-left [] ys k h = absurd (omega arith)
get_or-left (x ∷ xs) ys zero h = refl
get_or-left (x ∷ xs) ys (suc k) h = get_or-left xs ys k (omega arith)

pub extends-get_or :
    (a b : Members) (k : ℕ)
    → Extends a b
    → k < length a.threads
    → get_or b.threads k 0 ≡ get_or a.threads k 0
extends-get_or a b k ab h = ap (λ ts. get_or ts k 0) ab.front ∙ get_or-left a.threads ab.more k h

length-left : (xs ys : List ℕ) → length xs ≤ length (xs ++ ys)
length-left [] ys = omega arith
length-left (x ∷ xs) ys = omega (arith, length-left xs ys)

pub extends-length : (a b : Members) → Extends a b → length a.threads ≤ length b.threads
extends-length a b ab = omega (arith, ap length ab.front, length-left a.threads ab.more)

pub neighbours-extended :
    (S : State) (a b : Members) (t : ℕ)
    → Extends a b
    → HasNeighbours S a.threads t
    → HasNeighbours S b.threads t
neighbours-extended S a b t ab near = record {
  ahead = λ u e. extends-contains a b u ab (near.ahead u e);
  behind = λ u e. extends-contains a b u ab (near.behind u e);
}

-- a thread that waits is known
pub awaited_known : (S : State) (t m : ℕ) → IsState S → awaited_of S t ≡ Some m → IsTask S t
awaited_known S t m lists e = go (wait_of S t) refl e
  where
    go :
        (w : Option Wait)
        → wait_of S t ≡ w
        → option_map (λ (w : Wait). w.mutex) w ≡ Some m
        → IsTask S t
    go None is h = cc
    go (Some w) is h = grind (arith, nth_within, lists.waits)

-- the mutex through which one thread blocks another
pub record Through (S : State) (t u : ℕ) : Type 0 where
  pub mutex : ℕ
  pub awaits : awaited_of S t ≡ Some mutex
  pub owner : owner_of S mutex ≡ Some u

pub through : (S : State) (t u : ℕ) → blocker S t ≡ Some u → Through S t u
through S t u e =
    option_and_then_some (λ (w : Wait). owner_of S w.mutex) (wait_of S t) u e
    (λ w at owner. record {
      mutex = w.mutex;
      awaits = ap (option_map (λ (w : Wait). w.mutex)) at;
      owner = owner;
    })

pub closed_all :
    (S : State) (threads : List ℕ)
    → ((k : ℕ) → k < length threads → HasNeighbours S threads (get_or threads k 0))
    → IsClosed S threads
closed_all S threads each t u e =
    same_tests (contains threads t)
    (contains threads u) (λ h. (near t h).ahead u e) (λ h. (near u h).behind t e)
  where
    near : (x : ℕ) → contains threads x ≡ true → HasNeighbours S threads x
    near x h =
        let at = contains_at threads x h in subst (HasNeighbours S threads) at.2 (each at.0 at.1)
