-- Mutexes handed over one after another.
use Rattle.std.proofs.Common.{◌≡◌, ◌≤◌, ℕ, true, false, not, List, [], ◌∷◌, length, All, Option, Some, None, refl, sym}
use Rattle.std.proofs.Common.{ap, subst, arith, fold}
use Rattle.std.proofs.lemmas.Bool.{both_ways}
use Rattle.std.proofs.lemmas.Bool.Decides.{nat_tests}
use Rattle.pim_base.specs.Lists.{first_item, holds}
use Rattle.pim_base.specs.State.{State, IsTask, IsMutex, owned, owner_of, wait_of}
use Rattle.pim_base.specs.Queues.{waiter_of, queue_of, first_of}
use Rattle.pim_base.specs.Steps.{hand_over}
use Rattle.pim_base.specs.Steady.{HasOwnTickets, IsSteady}
use Rattle.pim_base.specs.Counts.{same_owner, handed_mutex_count}
use Rattle.pim_base.specs.declared.steps.Waiter.{Waiter}
use Rattle.pim_base.proofs.InOrder.{queue_law, waits_for}
use Rattle.pim_base.proofs.HandOvers.{protocol-hand_over, base-hand_over, idle-hand_over}
use Rattle.pim_base.proofs.NoCycle.{unwrap_or-put_same}
use Rattle.pim_base.proofs.Steady.{steady_kept}
use Rattle.pim_base.proofs.Stored.{from_holds, holds_from}
use Rattle.pim_chain.proofs.Filters.{filter-none, length-le-count, count_one}
use Rattle.pim_chain.proofs.Releasing.{freed_owner, owned-hand_over}

-- ---- one hand-over

-- the first waiter waits
first_of-waits :
    (S : State) (m : ℕ) (w : Waiter)
    → HasOwnTickets S
    → first_of S m ≡ Some w
    → wait_of S w.task ≡ None
    → ⊥
first_of-waits S m w tickets first idle = go (queue_of S m) (queue_law S m tickets).waiters first
  where
    go :
        (ws : List Waiter)
        → All (λ v. IsTask S v.task × (waiter_of S m v.task ≡ Some v)) ws
        → first_item ws ≡ Some w
        → ⊥
    go [] all e = cc
    go (v ∷ vs) all e = let waits = waits_for S m v.task v (all 0 v (omega arith)).1 in cc

-- an owner who doesn't wait loses the mutex
pub lost : (S : State) (m a : ℕ) → HasOwnTickets S → wait_of S a ≡ None → holds (owner_of (hand_over S m) m) a ≡ false
lost S m a tickets idle = grind (arith, nat_tests, first_of-waits, freed_owner, unwrap_or-put_same)

pub lost_differs : (o r : Option ℕ) (a : ℕ) → o ≡ Some a → holds r a ≡ false → not (same_owner o r) ≡ true
lost_differs o r a is h = grind (arith, nat_tests)

keeps_not : (S : State) (m a : ℕ) → HasOwnTickets S → wait_of S a ≡ None → owner_of (hand_over S m) m ≡ Some a → ⊥
keeps_not S m a tickets idle e = both_ways _ (lost S m a tickets idle) (holds_from (owner_of (hand_over S m) m) a e)

-- the state once the task has released all that it owns
pub record AllReleased (S T : State) (a : ℕ) : Type 0 where
  pub none : owned T a ≡ []
  pub steady : IsSteady T
  pub bases : T.base ≡ S.base
  pub protocols : T.protocol ≡ S.protocol

pub all_released :
    (S : State) (a : ℕ) (ms : List ℕ)
    → owned S a ≡ ms
    → wait_of S a ≡ None
    → IsSteady S
    → AllReleased S (fold hand_over S ms) a
all_released S a [] is idle steady = record { none = is; steady = steady; bases = refl; protocols = refl }
all_released S a (m ∷ ms) is idle steady =
    let rest =
    all_released (hand_over S m) a ms
    (owned-hand_over S m a ms (keeps_not S m a steady.tickets idle) is) (idle-hand_over S m a idle)
    (steady_kept.hand S m steady) in
    grind (arith, base-hand_over, protocol-hand_over)

-- each mutex that the task owned has another owner then
pub released-handed : (S T : State) (a : ℕ) → AllReleased S T a → length (owned S a) ≤ handed_mutex_count S T
released-handed S T a all =
    length-le-count
    (λ m. holds (owner_of S m) a) (λ m. not (same_owner (owner_of S m) (owner_of T m))) (length S.protocol)
    (λ m low high h. lost_differs (owner_of S m) (owner_of T m) a (from_holds (owner_of S m) a h)
    (filter-none (λ k. holds (owner_of T k) a) 1 (length T.protocol) m all.none low
    (let same = ap length all.protocols in omega (arith, same, high))))

-- a hand-over by its owner hands over one mutex at least
pub handed_once :
    (S T : State) (m a : ℕ)
    → T ≡ hand_over S m
    → IsSteady S
    → IsMutex S m
    → owner_of S m ≡ Some a
    → wait_of S a ≡ None
    → 1 ≤ handed_mutex_count S T
handed_once S T m a is steady known owns idle =
    subst (λ U. 1 ≤ handed_mutex_count S U) (sym is)
    (count_one (length S.protocol) (λ k. not (same_owner (owner_of S k) (owner_of (hand_over S m) k))) m known.0 known.1
    (lost_differs (owner_of S m) (owner_of (hand_over S m) m) a owns (lost S m a steady.tickets idle)))
