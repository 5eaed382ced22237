-- What a new owner of a free mutex that gives it nothing, and for which nobody waits, leaves as it was.
use Rattle.std.proofs.Common.{◌≡◌, ◌≤◌, ◌==◌, ℕ, inl, inr, true, false, max, if◌then◌else◌, length, map, drop, Option, Some, None, refl, sym, ◌∙◌, ap, subst, arith, le_antisymm, option_and_then}
use Rattle.std.proofs.lemmas.Bool.{cases_eq}
use Rattle.std.specs.List.{filter_map}
use Rattle.pim_base.specs.Lists.{contains, holds, sort_by}
use Rattle.pim_base.specs.State.{State, base_of, owner_of, wait_of, owned, task_numbers, with_owner}
use Rattle.pim_base.specs.Chains.{heir, blocker, inherit_chain}
use Rattle.pim_base.specs.Priorities.{ceiling_of, own_priority, effective_priority}
use Rattle.pim_base.specs.Queues.{precedes, waiter_of, queue_of}
use Rattle.pim_base.specs.Laws.{IsSound}
use Rattle.pim_base.specs.declared.steps.Wait.{Wait}
use Rattle.pim_base.specs.declared.steps.Waiter.{Waiter}
use Rattle.pim_base.proofs.Greatest.{greatest_of, greatest-cons, greatest_of-le, le-greatest_of, greatest_of-same}
use Rattle.pim_base.proofs.Hops.{chain-same}
use Rattle.pim_base.proofs.Places.{length-put}
use Rattle.pim_chain.specs.Adopted.{IsUnawaited, is_protect}
use Rattle.pim_chain.proofs.Changes.{DiffersAt, owner_other}

module _ (S : State) (m t : ℕ) (unawaited : IsUnawaited S m) where
  abbrev T : State
  T = with_owner S m (Some t)

  -- each awaited mutex has the owner that it had
  pub awaited-same : (x : ℕ) (w : Wait) → wait_of S x ≡ Some w → owner_of T w.mutex ≡ owner_of S w.mutex
  awaited-same x w e = owner_other S m (Some t) w.mutex (unawaited x w e)

  pub blocker-same : (x : ℕ) → blocker T x ≡ blocker S x
  blocker-same x = grind (arith, awaited-same x)

  pub heir-same : (x : ℕ) → heir T x ≡ heir S x
  heir-same x = grind (arith, awaited-same x)

  pub adopted_sound : IsSound S → IsSound T
  adopted_sound ok = record {
    lists = record {
      waits = ok.lists.waits;
      owners = length-put S.owner m (Some t) ∙ ok.lists.owners;
      counts = length-put S.count m 1 ∙ ok.lists.counts;
    };
    no_cycle = λ (x, h).
        ok.no_cycle (x, subst (λ us. contains (drop 1 us) x ≡ true) (chain-same (blocker T) (blocker S) blocker-same (length S.base) x) h);
  }

  module _ (free : owner_of S m ≡ None) (plain : is_protect S m ≡ false) where
    no_ceiling : ceiling_of S m ≡ 0
    no_ceiling = grind (arith, plain)

    pub own_priority-same : (x : ℕ) → own_priority T x ≡ own_priority S x
    own_priority-same x =
        greatest-cons (base_of S x) (map (ceiling_of S) (owned T x))
        ∙ ap (max (base_of S x)) (le_antisymm (below (owner_of T) (owner_of S) there) (below (owner_of S) (owner_of T) back))
        ∙ sym (greatest-cons (base_of S x) (map (ceiling_of S) (owned S x)))
      where
        n : ℕ
        n = length S.protocol

        most : (ℕ → Option ℕ) → ℕ
        most owner = greatest_of (ceiling_of S) (λ k. holds (owner k) x) n

        below : (f g : ℕ → Option ℕ) → ((k : ℕ) → (k ≡ m → ⊥) → f k ≡ g k) → most f ≤ most g
        below f g same =
            greatest_of-le (ceiling_of S) (λ k. holds (f k) x) n (most g) (λ k low high h. elim (cases_eq k m) [
              | inl is ↦ omega (arith, ap (ceiling_of S) is, no_ceiling)
              | inr ne ↦ le-greatest_of (ceiling_of S) (λ k. holds (g k) x) n k low high (ap (λ o. holds o x) (sym (same k ne)) ∙ h)
            ])

        there : (k : ℕ) → (k ≡ m → ⊥) → owner_of T k ≡ owner_of S k
        there = owner_other S m (Some t)

        back : (k : ℕ) → (k ≡ m → ⊥) → owner_of S k ≡ owner_of T k
        back k ne = sym (there k ne)

    pub differs_adopted : (x : ℕ) → DiffersAt S T x
    differs_adopted x = record {
      tasks = refl;
      own = λ y _. sym (own_priority-same y);
      kept = λ u y _ e. heir-same u ∙ e;
      added = λ u y _ e. sym (heir-same u) ∙ e;
    }

    pub effective_priority-same : (x : ℕ) → effective_priority T x ≡ effective_priority S x
    effective_priority-same x =
        greatest_of-same (own_priority T) (own_priority S) (λ u. contains (inherit_chain T u) x) (λ u. contains (inherit_chain S u) x)
        (length S.base)
        (λ u. ap (λ us. contains us x) (chain-same (heir T) (heir S) heir-same (length S.base) u))
        (λ u _. own_priority-same u)

    pub queue_of-same : (k : ℕ) → queue_of T k ≡ queue_of S k
    queue_of-same k =
        ap (λ (waiter : ℕ → Option Waiter). sort_by precedes (filter_map waiter (task_numbers S))) (λ i x. waiter_of-same x i)
      where
        waiter_of-same : (x : ℕ) → waiter_of T k x ≡ waiter_of S k x
        waiter_of-same x =
            ap (λ p. option_and_then (λ (w : Wait). if w.mutex == k then Some (record { task = x; prio = p; ticket = w.ticket }) else None) (wait_of S x))
            (effective_priority-same x)
