-- The reason of a settled priority.
use Rattle.std.proofs.Common.{◌≡◌, ℕ, ◌<◌, ◌≤◌, ◌==◌, Bool, true, false, ◌&&◌, refl, ◌∙◌, ap, arith, rules, Option, Some, None, List, [], ◌∷◌}
use Rattle.std.specs.List.{find, list_any, AllByRecursion}
use Rattle.std.specs.Option.{option_map_or}
use Rattle.std.proofs.lemmas.Bool.Decides.{nat_tests}
use Rattle.std.proofs.lemmas.Option.{none-some}
use Rattle.pim_base.specs.Lists.{first_item}
use Rattle.pim_base.specs.State.{State, IsTask, IsMutex, base_of, owner_of, owned}
use Rattle.pim_base.specs.Chains.{heir_in}
use Rattle.pim_base.specs.Priorities.{ceiling_of, effective_priority}
use Rattle.pim_base.specs.Queues.{precedes}
use Rattle.pim_base.specs.Reasons.{is_inherit, donates, waiter_reason, reason_of}
use Rattle.pim_base.specs.declared.steps.Protocol.{Protocol}
use Rattle.pim_base.specs.declared.steps.Reason.{Reason}
use Rattle.pim_base.specs.declared.steps.Waiter.{Waiter}
use Rattle.pim_queue.specs.Waiters.{IsOrdered}
use Rattle.pim_queue.proofs.Order.{all_each, before_prio, found_holds}
use Rattle.pim_chain.specs.Views.{View, Ready, stored_at, queue_at, first_prio}
use Rattle.pim_chain.specs.Settled.{SettledBut}
use Rattle.pim_chain.specs.Owned.{donates_now, first_reason, owned_reason}
use Rattle.pim_chain.proofs.Known.{owned_all, owned_mutex}
use Rattle.pim_chain.proofs.Local.{top-le-local_priority}
use Rattle.pim_chain.proofs.Waiting.{top_front}
use Rattle.pim_chain.proofs.Walking.{settled_effective}
use Rattle.pim_chain.proofs.Models.{queue_is}

-- tests that agree find the same
find_same : (p q : ℕ → Bool) (xs : List ℕ) → AllByRecursion (λ k. p k ≡ q k) xs → find p xs ≡ find q xs
find_same p q [] same = search rules
find_same p q (x ∷ xs) same = grind (arith, find_same p q xs same.1, same.0)

-- ---- if any waiter has the priority, the first has it
behind_first :
    (p : ℕ) (w : Waiter) (ws : List Waiter)
    → w.prio < p
    → AllByRecursion (λ v. precedes w v ≡ true) ws
    → list_any (λ (v : Waiter). v.prio == p) ws ≡ false
behind_first p w [] less h = search rules
behind_first p w (v ∷ vs) less h = grind (arith, nat_tests, before_prio w v h.0, behind_first p w vs less h.1)

first_donates :
    (p : ℕ) (ws : List Waiter)
    → 1 ≤ p
    → IsOrdered ws
    → first_prio ws ≤ p
    → (first_prio ws == p) ≡ list_any (λ (v : Waiter). v.prio == p) ws
first_donates p [] low ordered le = grind (arith, nat_tests)
first_donates p (w ∷ ws) low ordered le = grind (arith, nat_tests, behind_first p w ws)

-- an owner of an INHERIT mutex is the heir
inherits : (p : Protocol) (o : Option ℕ) → is_inherit p ≡ true → heir_in p o ≡ o
inherits p o h = search rules

both_and : (b c d : Bool) → (b ≡ true → c ≡ d) → (b && c) ≡ (b && d)
both_and b c d same = grind (arith, same)

-- the reason by the effective priority
reason_by :
    (S : State) (t : ℕ)
    → (effective_priority S t ≡ base_of S t → ⊥)
    → option_map_or Reason.Ceiling (find (λ m. ceiling_of S m == effective_priority S t) (owned S t))
    (waiter_reason S (find (donates S (effective_priority S t)) (owned S t)))
    ≡ reason_of S t
reason_by S t other = grind (arith, nat_tests)

pub reason_base :
    (v : View) (t : ℕ)
    → Ready v
    → SettledBut v.state (stored_at v) None
    → IsTask v.state t
    → stored_at v t ≡ base_of v.state t
    → reason_of v.state t ≡ Reason.Base
reason_base v t ready settled known is = grind (arith, nat_tests, settled_effective v.state (stored_at v) ready.sound settled t known)

-- by the level that is read
pub reason_at :
    (v : View) (t level : ℕ)
    → Ready v
    → SettledBut v.state (stored_at v) None
    → IsTask v.state t
    → level ≡ stored_at v t
    → (level ≡ base_of v.state t → ⊥)
    → 1 ≤ level
    → owned_reason v level (owned v.state t) ≡ reason_of v.state t
reason_at v t level ready settled known is other least =
    ap (option_map_or Reason.Ceiling (find (λ m. ceiling_of S m == level) ms)) (first_is (find (donates_now v level) ms) refl ∙ ap (waiter_reason S) source_is)
    ∙ ap (λ p. option_map_or Reason.Ceiling (find (λ m. ceiling_of S m == p) ms) (waiter_reason S (find (donates S p) ms))) now
    ∙ reason_by S t (λ e. other (now ∙ e))
  where
    S : State
    S = v.state

    ms : List ℕ
    ms = owned S t

    now : level ≡ effective_priority S t
    now = is ∙ settled_effective S (stored_at v) ready.sound settled t known

    -- an owned mutex gives the priority now exactly if the definitions' mutex does
    same : (m : ℕ) → owner_of S m ≡ Some t → donates_now v level m ≡ donates S level m
    same m mine =
        let isk : IsMutex S m = owned_mutex S m t ready.sound.lists mine in
        let q = ready.queues m isk in
        both_and _ _ _ (λ inherit.
        let top = top-le-local_priority S (stored_at v) m t (inherits _ _ inherit ∙ mine) in
        let front = top_front S (stored_at v) m (queue_at v m) ready.sound.lists q in
        first_donates level (queue_at v m) least q.ordered (omega (arith, is, top, front, settled t known (λ e. none-some t e)))
        ∙ ap (list_any (λ (w : Waiter). w.prio == level)) (queue_is v m (record { ready = ready; settled = settled }) isk))

    source_is : find (donates_now v level) ms ≡ find (donates S level) ms
    source_is = find_same _ _ ms (all_each _ _ same ms (owned_all S t))

    -- the first waiter of the tables is the definitions'
    first_is : (o : Option ℕ) → find (donates_now v level) ms ≡ o → option_map_or (first_reason v) o Reason.Base ≡ waiter_reason S o
    first_is None _ = refl
    first_is (Some m) at =
        ap (λ ws. option_map_or (λ (w : Waiter). Reason.Waiter w.task m) (first_item ws) Reason.Base)
        (queue_is v m (record { ready = ready; settled = settled }) (owned_mutex S m t ready.sound.lists (found_holds _ _ ms m at (owned_all S t))))
