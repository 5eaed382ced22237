-- What the tables show of known tasks and mutexes.
use Rattle.std.proofs.Common.{◌≡◌, ℕ, zero, suc, false, cond, ◌||◌, eqb, ltb, length, List, [], Some, None, refl, ◌∙◌}
use Rattle.std.proofs.Common.{ap, arith, unwrap_or, AllPairs}
use Rattle.std.specs.Option.{option_map}
use Rattle.std.proofs.lemmas.Bool.Decides.{nat_tests}
use Rattle.std.proofs.lemmas.Option.{slice_get_past}
use Rattle.pim_base.specs.Lists.{nth}
use Rattle.pim_base.specs.State.{State, IsTask, IsMutex}
use Rattle.pim_base.specs.Checks.{unknown_mutex}
use Rattle.pim_base.specs.Priorities.{effective_priority}
use Rattle.pim_base.specs.Queues.{Precedes, queue_of}
use Rattle.pim_base.specs.declared.steps.Waiter.{Waiter}
use Rattle.pim_base.proofs.InOrder.{queue_law}
use Rattle.pim_base.proofs.Kept.{known_from_tests}
use Rattle.pim_base.proofs.Places.{nth-get_or}
use Rattle.pim_queue.specs.QueueView.{QueueView}
use Rattle.pim_chain.specs.Views.{View, stored_at}
use Rattle.pim_chain.specs.Settled.{Calm}
use Rattle.pim_chain.proofs.Walking.{settled_effective}
use Rattle.pim_chain.proofs.Models.{queue_is}
use Rattle.pim_manager.specs.Known.{of_task, of_mutex}
use Rattle.pim_manager.specs.Settled.{IsSettled}
use Rattle.pim_manager.proofs.Works.{steady_shown}

-- an item by its number, if there is one
at_number :
    {X : Type 0} (xs : List X) (n k : ℕ) (d : X)
    → length xs ≡ n
    → nth xs k ≡ cond (eqb k 0 || ltb n k) None (Some (unwrap_or (nth xs k) d))
at_number xs n zero d same = refl
at_number xs n (suc k) d same = let here = nth-get_or xs (suc k) k d in grind (arith, nat_tests, slice_get_past, here)

-- if two values agree for known tasks, the same is shown
same_shown : {X : Type 0} (S : State) (t : ℕ) (x y : X) → (IsTask S t → x ≡ y) → of_task S t x ≡ of_task S t y
same_shown S t x y same = grind (arith, known_from_tests)

pub stored_shown : (v : View) (t : ℕ) → Calm v → nth v.stored t ≡ of_task v.state t (effective_priority v.state t)
stored_shown v t calm =
    at_number v.stored (length v.state.base) t 0 calm.ready.stored_len
    ∙ same_shown v.state t (stored_at v t) (effective_priority v.state t)
    (settled_effective v.state (stored_at v) calm.ready.sound calm.settled t)

known_mutex : (S : State) (m : ℕ) → unknown_mutex S m ≡ false → IsMutex S m
known_mutex S m h = grind (arith, nat_tests)

pub queue_shown :
    (v : View) (m : ℕ)
    → Calm v
    → option_map (λ (q : QueueView). q.waiters) (nth v.queues m) ≡ of_mutex v.state m (queue_of v.state m)
queue_shown v m calm =
    ap (option_map (λ (q : QueueView). q.waiters))
    (at_number v.queues (length v.state.protocol) m (record { waiters = []; room = 0 }) calm.ready.queues_len)
    ∙ (let is = queue_is v m calm in grind (arith, known_mutex))

-- the queue that is shown is in order
pub queue_in_order :
    (v : View) (S : State) (m : ℕ) (ws : List Waiter)
    → IsSettled v
    → v.state ≡ S
    → Some ws ≡ of_mutex S m (queue_of S m)
    → AllPairs Precedes ws
queue_in_order v S m ws settled shown is =
    let law = queue_law S m (steady_shown settled shown).tickets in grind (arith, nat_tests)

pub ruleset shown = (stored_shown, queue_shown)
