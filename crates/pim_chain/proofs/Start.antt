-- New tables: nothing is owned and nobody waits.
use Rattle.std.proofs.Common.{◌≡◌, ℕ, ◌≤◌, refl, sym, ◌∙◌, ap, subst, arith, Option, None, List, [], length, replicate, map, unwrap_or}
use Rattle.std.proofs.lemmas.List.{length-replicate}
use Rattle.std.proofs.lemmas.Option.{none-some}
use Rattle.pim_base.specs.Lists.{holds}
use Rattle.pim_base.specs.State.{State, start, IsMutex, base_of, owner_of, wait_of, owned}
use Rattle.pim_base.specs.Priorities.{own_priority, ceiling_of}
use Rattle.pim_base.specs.declared.limits.TheConstants.{MAX_TASKS, MAX_MUTEXES}
use Rattle.pim_base.specs.declared.steps.Protocol.{Protocol}
use Rattle.pim_base.specs.declared.steps.Wait.{Wait}
use Rattle.pim_base.proofs.Greatest.{greatest-cons, greatest_of-le}
use Rattle.pim_base.proofs.Steady.{start_law}
use Rattle.pim_base.proofs.Stored.{own_priority-le-local_priority, local_priority-le}
use Rattle.pim_queue.specs.QueueView.{QueueView}
use Rattle.pim_chain.specs.Views.{fresh, stored_at, view_in, IsQueue, Ready}
use Rattle.pim_chain.specs.Settled.{SettledBut, Calm}
use Rattle.pim_chain.proofs.Changes.{not_waiting}
use Rattle.pim_chain.proofs.Repeated.{nth-replicate_none, nth-replicate_same}

module _ (bases : List ℕ) (protocols : List Protocol) where
  free : (m : ℕ) → owner_of (start bases protocols 1) m ≡ None
  free m = nth-replicate_none (length protocols) m

  idle : (t : ℕ) → wait_of (start bases protocols 1) t ≡ None
  idle t = nth-replicate_none (length bases) t

  ready_fresh : length bases ≤ MAX_TASKS → length protocols ≤ MAX_MUTEXES → Ready (fresh bases protocols)
  ready_fresh tasks mutexes = record {
    sound = (start_law bases protocols 1).sound;
    few_tasks = tasks;
    few_mutexes = mutexes;
    stored_len = refl;
    queues_len = length-replicate (length protocols) _;
    waits = record {
      owners = λ m t e. absurd (none-some t (sym (free m) ∙ e));
      mutexes = λ t w e. absurd (none-some w (sym (idle t) ∙ e));
      tickets = λ t u w e f. absurd (none-some w (sym (idle t) ∙ e));
    };
    queues = λ m known. subst (λ (q : QueueView). IsQueue (wait_of (start bases protocols 1)) (stored_at (fresh bases protocols)) m q.waiters) (sym (empty m known)) (record {
      ordered = tt;
      sound = tt;
      complete = λ t h. absurd (not_waiting (wait_of (start bases protocols 1)) m t (idle t) h);
    });
    room = λ m known. subst (λ (q : QueueView). length bases ≤ q.room) (sym (empty m known)) (omega arith);
  }
    where
      empty : (m : ℕ) → IsMutex (start bases protocols 1) m → view_in (fresh bases protocols).queues m ≡ record { waiters = []; room = length bases }
      empty m known = ap (λ o. unwrap_or o (record { waiters = []; room = 0 })) (nth-replicate_same (length protocols) m _ known.0 known.1)

  -- no mutex gives a priority
  settled_fresh : SettledBut (start bases protocols 1) (stored_at (fresh bases protocols)) None
  settled_fresh t known _ =
      let own = greatest-cons (base_of S t) (map (ceiling_of S) (owned S t)) in
      let none = greatest_of-le (ceiling_of S) (λ m. holds (owner_of S m) t) (length protocols) 0 (λ m _ _ h. grind (arith, free m)) in
      let most = local_priority-le S stored t (own_priority S t) (omega arith) (λ u _ e. grind (arith, idle u)) in
      omega (arith, own, none, most, own_priority-le-local_priority S stored t)
    where
      S : State
      S = start bases protocols 1

      stored : ℕ → ℕ
      stored = stored_at (fresh bases protocols)

  pub calm_fresh : length bases ≤ MAX_TASKS → length protocols ≤ MAX_MUTEXES → Calm (fresh bases protocols)
  calm_fresh tasks mutexes = record { ready = ready_fresh tasks mutexes; settled = settled_fresh }

-- the fields of new tables
pub is_fresh :
    {bases b s : List ℕ} {protocols p : List Protocol} {o : List (Option ℕ)} {c : List ℕ} {w : List (Option Wait)} {q : List QueueView}
    → b ≡ bases
    → p ≡ protocols
    → o ≡ replicate (length protocols) None
    → c ≡ replicate (length protocols) 0
    → w ≡ replicate (length bases) None
    → s ≡ bases
    → q ≡ replicate (length protocols) (record { waiters = []; room = length bases })
    → record { state = record { base = b; protocol = p; owner = o; count = c; wait = w; next = 1 }; stored = s; queues = q }
    ≡ fresh bases protocols
is_fresh is_b is_p is_o is_c is_w is_s is_q = cc
