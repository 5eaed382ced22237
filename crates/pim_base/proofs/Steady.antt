-- What no step breaks: tickets of their own, no free mutex with waiters, and counts that go with the owners.
use Rattle.std.proofs.Common.{◌≡◌, ◌⊎◌, inl, inr, ℕ, zero, suc, true, List, [], ◌∷◌, length, map, replicate, Option, Some, None, is_some, IsSome, refl, sym, ◌∙◌, ap, subst, arith, unwrap_or, option_and_then, Contains, slice_get}
use Rattle.std.proofs.lemmas.List.{length-replicate}
use Rattle.std.proofs.lemmas.Bool.Decides.{eqb_tells}
use Rattle.std.proofs.lemmas.Option.{none-some}
use Rattle.pim_base.specs.Lists.{nth, put, first_item}
use Rattle.pim_base.specs.State.{State, IsTask, start, owner_of, wait_of, protocol_of, count_of, with_owner, with_wait, queued}
use Rattle.pim_base.specs.Chains.{blocker}
use Rattle.pim_base.specs.Priorities.{effective_priority}
use Rattle.pim_base.specs.Queues.{first_of, queue_of}
use Rattle.pim_base.specs.Checks.{is_owned}
use Rattle.pim_base.specs.Steps.{hand_over, reply_of, after}
use Rattle.pim_base.specs.Runs.{IsRun}
use Rattle.pim_base.specs.Steady.{HasOwnTickets, WaitsAreForOwned, IsCountOf, HasCounts, IsSteady}
use Rattle.pim_base.specs.RunLaws.{SameRunLaw, SteadyStepLaw, SteadyRunLaw, StartLaw}
use Rattle.pim_base.specs.declared.steps.Entry.{Entry}
use Rattle.pim_base.specs.declared.steps.Protocol.{Protocol}
use Rattle.pim_base.specs.declared.steps.Wait.{Wait}
use Rattle.pim_base.specs.declared.steps.Waiter.{Waiter}
use Rattle.pim_base.proofs.HasCounts.{counts-grant, counts-lock_again, counts-keep, counts-hand_over, counts-with_ceiling}
use Rattle.pim_base.proofs.Hops.{first_hop}
use Rattle.pim_base.proofs.Closing.{returns_from_cycle}
use Rattle.pim_base.proofs.InOrder.{queue_law, waiter_of-waits}
use Rattle.pim_base.proofs.Kept.{IsKeptBySteps, kept_by_step}
use Rattle.pim_base.proofs.NoCycle.{sound_kept, unwrap_or-put_same}
use Rattle.pim_base.proofs.Places.{nth-put_same, nth-put_other, nth_within}

-- a wait after one task's wait was changed is that one, or an old one
wait_of-put :
    (S : State) (t x : ℕ) (o : Option Wait) (w : Wait)
    → wait_of (with_wait S t o) x ≡ Some w
    → ((t ≡ x) × (o ≡ Some w)) ⊎ (wait_of S x ≡ Some w)
wait_of-put S t x o w e = elim (eqb_tells t x) [
  | inl same ↦ elim (unwrap_or-put_same S.wait t o) [
    | inl is_o ↦ inl (same.1, sym is_o ∙ ap (wait_of (with_wait S t o)) same.1 ∙ e)
    | inr none ↦ absurd (none-some w (sym none ∙ ap (wait_of (with_wait S t o)) same.1 ∙ e))
  ]
  | inr other ↦ inr (sym (ap (λ v. unwrap_or v None) (nth-put_other S.wait t x o other.1)) ∙ e)
]

-- a wait after one ended is an old one
wait_of-ended : (S : State) (t x : ℕ) (w : Wait) → wait_of (with_wait S t None) x ≡ Some w → wait_of S x ≡ Some w
wait_of-ended S t x w e = elim (wait_of-put S t x None w e) [ inl h ↦ absurd (none-some w h.1) | inr old ↦ old ]

tickets-queued : (S : State) (a m : ℕ) → HasOwnTickets S → HasOwnTickets (queued S a m)
tickets-queued S a m ok = grind (arith, wait_of-put)

tickets_kept : IsKeptBySteps HasOwnTickets
tickets_kept = grind (arith, tickets-queued, wait_of-ended)

-- an owned mutex that gets an owner is owned, and so are the others
owned-with_owner : (S : State) (m a x : ℕ) → IsSome (owner_of S x) → IsSome (owner_of (with_owner S m (Some a)) x)
owned-with_owner S m a x h = elim (eqb_tells m x) [
  | inl same ↦ go (nth S.owner x) refl h same.1
  | inr other ↦ ap is_some (ap (λ v. unwrap_or v None) (nth-put_other S.owner m x (Some a) other.1)) ∙ h
]
  where
    go : (o : Option (Option ℕ)) → nth S.owner x ≡ o → IsSome (unwrap_or o None) → m ≡ x → IsSome (owner_of (with_owner S m (Some a)) x)
    go None e h same = cc
    go (Some v) e h same =
        let within = nth_within S.owner x v e in
        let put : nth (put S.owner x (Some a)) x ≡ Some (Some a) = nth-put_same S.owner x (Some a) within.0 within.1 in
        ap (λ k. is_some (owner_of (with_owner S k (Some a)) x)) same ∙ ap (λ o. is_some (unwrap_or o None)) put

owned-queued : (S : State) (a m : ℕ) → is_owned S m ≡ true → WaitsAreForOwned S → WaitsAreForOwned (queued S a m)
owned-queued S a m owned ok t w e = grind (arith, wait_of-put)

-- a task that waits for m is in its queue
first_not_none : (S : State) (m t : ℕ) (w : Wait) → IsSteady S → wait_of S t ≡ Some w → w.mutex ≡ m → first_of S m ≡ None → ⊥
first_not_none S m t w ok e here none = go (queue_of S m) none there
  where
    it : Waiter
    it = record { task = t; prio = effective_priority S t; ticket = w.ticket }

    known : (o : Option (Option Wait)) → nth S.wait t ≡ o → unwrap_or o None ≡ Some w → IsTask S t
    known None h f = cc
    known (Some v) h f = let within = nth_within S.wait t v h in (within.0, omega (arith, within.1, ok.sound.lists.waits))

    there : Contains (queue_of S m) it
    there = (queue_law S m ok.tickets).all t it (known (nth S.wait t) refl e) (waiter_of-waits S m t w e here)

    go : (q : List Waiter) → first_item q ≡ None → Contains q it → ⊥
    go [] h c = absurd (omega (arith, c.1))
    go (v ∷ q) h c = cc

owned-hand_over : (S : State) (m : ℕ) → IsSteady S → WaitsAreForOwned (hand_over S m)
owned-hand_over S m ok = grind (arith, first_not_none, nth-put_other, owned-with_owner, wait_of-ended)

pub steady_kept : IsKeptBySteps IsSteady
steady_kept = record {
  grant = λ S a m ok idle. record {
    sound = sound_kept.grant S a m ok.sound idle;
    tickets = tickets_kept.grant S a m ok.tickets idle;
    owned = λ t w e. owned-with_owner S m a w.mutex (ok.owned t w e);
    counts = counts-grant S m a ok.sound.lists ok.counts;
  };
  lock_again = λ S a m ok again few. record {
    sound = sound_kept.lock_again S a m ok.sound again few;
    tickets = tickets_kept.lock_again S a m ok.tickets again few;
    owned = λ t w e. ok.owned t w e;
    counts = counts-lock_again S a m ok.sound.lists again few ok.counts;
  };
  keep = λ S m ok kept. record {
    sound = sound_kept.keep S m ok.sound kept;
    tickets = tickets_kept.keep S m ok.tickets kept;
    owned = λ t w e. ok.owned t w e;
    counts = counts-keep S m ok.sound.lists kept ok.counts;
  };
  enqueue = λ S a m ok task idle open' owned. record {
    sound = sound_kept.enqueue S a m ok.sound task idle open' owned;
    tickets = tickets_kept.enqueue S a m ok.tickets task idle open' owned;
    owned = owned-queued S a m owned ok.owned;
    counts = ok.counts;
  };
  hand = λ S m ok. record {
    sound = sound_kept.hand S m ok.sound;
    tickets = tickets_kept.hand S m ok.tickets;
    owned = owned-hand_over S m ok;
    counts = counts-hand_over S m ok.sound.lists ok.counts;
  };
  withdraw = λ S t ok. record {
    sound = sound_kept.withdraw S t ok.sound;
    tickets = tickets_kept.withdraw S t ok.tickets;
    owned = λ u w e. ok.owned u w (wait_of-ended S t u w e);
    counts = ok.counts;
  };
  set_base = λ S t p ok. record {
    sound = sound_kept.set_base S t p ok.sound;
    tickets = tickets_kept.set_base S t p ok.tickets;
    owned = λ u w e. ok.owned u w e;
    counts = ok.counts;
  };
  set_ceiling = λ S m p ok protect. record {
    sound = sound_kept.set_ceiling S m p ok.sound protect;
    tickets = tickets_kept.set_ceiling S m p ok.tickets protect;
    owned = λ u w e. ok.owned u w e;
    counts = counts-with_ceiling S m p protect ok.counts;
  };
}

pub steady_step_law : SteadyStepLaw
steady_step_law S step ok = kept_by_step IsSteady steady_kept S step ok

pub steady_run_law : SteadyRunLaw
steady_run_law S end [] run ok = subst IsSteady (sym run) ok
steady_run_law S end (e ∷ es) run ok = steady_run_law (after S e.step) end es run.1 (steady_step_law S e.step ok)

none-replicate : {X : Type 0} (n i : ℕ) → let none : Option X = None in unwrap_or (slice_get (replicate n none) i) none ≡ none
none-replicate zero i = refl
none-replicate (suc n) zero = refl
none-replicate (suc n) (suc i) = none-replicate n i

-- no task waits at the start
idle_at_start : (bases : List ℕ) (protocols : List Protocol) (next t : ℕ) → wait_of (start bases protocols next) t ≡ None
idle_at_start bases protocols next t = grind (arith, none-replicate)

zero-replicate : (n i : ℕ) → let none : ℕ = 0 in unwrap_or (slice_get (replicate n none) i) none ≡ none
zero-replicate zero i = refl
zero-replicate (suc n) zero = refl
zero-replicate (suc n) (suc i) = zero-replicate n i

-- nothing is locked at the start
counts_at_start : (bases : List ℕ) (protocols : List Protocol) (next : ℕ) → HasCounts (start bases protocols next)
counts_at_start bases protocols next zero = refl
counts_at_start bases protocols next (suc i) =
    let S : State = start bases protocols next in
    let free : owner_of S (suc i) ≡ None = none-replicate (length protocols) i in
    subst (λ o. IsCountOf (protocol_of S (suc i)) o (count_of S (suc i))) (sym free) (zero-replicate (length protocols) i)

pub start_law : StartLaw
start_law bases protocols next = record {
  sound = record {
    lists = record {
      waits = length-replicate (length bases) None;
      owners = length-replicate (length protocols) None;
      counts = length-replicate (length protocols) 0;
    };
    no_cycle = λ (t, h).
        let r = returns_from_cycle (blocker S) (length S.base) t h in
        let f = first_hop (blocker S) r.0 t t r.2 in
        none-some f.0 (sym (ap (option_and_then (λ (w : Wait). owner_of S w.mutex)) (idle t)) ∙ f.1);
  };
  tickets = record {
    given = λ t w e. absurd (none-some w (sym (idle t) ∙ e));
    own = λ t u v w e f same. absurd (none-some v (sym (idle t) ∙ e));
  };
  owned = λ t w e. absurd (none-some w (sym (idle t) ∙ e));
  counts = counts_at_start bases protocols next;
}
  where
    S : State
    S = start bases protocols next

    idle : (t : ℕ) → wait_of S t ≡ None
    idle = idle_at_start bases protocols next

pub same_run_law : SameRunLaw
same_run_law S end other [] [] run again steps = (refl, run ∙ sym again)
same_run_law S end other [] (f ∷ fs) run again steps = cc
same_run_law S end other (e ∷ es) [] run again steps = cc
same_run_law S end other (e ∷ es) (f ∷ fs) run again steps =
    let step : e.step ≡ f.step = cc in
    let later : map (λ (x : Entry). x.step) es ≡ map (λ (x : Entry). x.step) fs = cc in
    let reply : e.reply ≡ f.reply = run.0 ∙ ap (reply_of S) step ∙ sym again.0 in
    let first : e ≡ f = ap (λ s. record { step = s; reply = e.reply }) step ∙ ap (λ r. record { step = f.step; reply = r }) reply in
    let rest = same_run_law (after S e.step) end other es fs run.1 (subst (λ s. IsRun (after S s) fs other) (sym step) again.1) later in
    (ap (λ x. x ∷ es) first ∙ ap (λ xs. f ∷ xs) rest.0, rest.1)
