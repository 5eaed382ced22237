-- Waiters of different tasks with different tickets, and what keeps them so.
use Rattle.std.proofs.Common.{◌≡◌, ℕ, suc, ◌<◌, ◌≤◌, Bool, true, false, cond, refl, sym, ◌∙◌, subst, arith, List, [], ◌∷◌, length, Some, set}
use Rattle.std.specs.List.{list_any, AllByRecursion, find, insert, remove, position_or_len}
use Rattle.std.proofs.lemmas.Bool.{both_ways, eqb-true, eq-eqb, or_parts, cond_both}
use Rattle.std.proofs.lemmas.Option.{none-some, same_Some}
use Rattle.pim_base.specs.declared.steps.Waiter.{Waiter}
use Rattle.pim_base.specs.Lists.{insert_by}
use Rattle.pim_base.specs.Queues.{precedes}
use Rattle.pim_queue.specs.QueueView.{AreQueued}
use Rattle.pim_queue.specs.Waiters.{is_of, has_ticket, without, ticket_of, repositioned, Differs, IsApart}
use Rattle.pim_queue.proofs.Order.{found_holds, all_each, all_both, all_without, all_place, ordered_without, ordered_place}
use Rattle.pim_queue.proofs.Places.{insert_by_is}

-- ---- lengths
pub length-insert_by : (w : Waiter) (ws : List Waiter) → length (insert_by precedes ws w) ≡ suc (length ws)
length-insert_by w [] = refl
length-insert_by w (v ∷ vs) = grind (arith, length-insert_by w vs)

pub length-without : (task : ℕ) (ws : List Waiter) → length (without task ws) ≤ length ws
length-without task [] = omega arith
length-without task (v ∷ vs) = grind (arith, length-without task vs)

-- if the task has a waiter, fewer are left without it
length-without_less :
    (task : ℕ) (w : Waiter) (ws : List Waiter)
    → find (is_of task) ws ≡ Some w
    → length (without task ws) < length ws
length-without_less task w [] was = absurd (none-some w was)
length-without_less task w (v ∷ vs) was = grind (arith, length-without_less task w vs)

-- ---- one that is new
pub none_passes :
    {X : Type 0} (p : X → Bool)
    → (xs : List X)
    → list_any p xs ≡ false
    → AllByRecursion (λ x. p x ≡ false) xs
none_passes p [] h = tt
none_passes p (x ∷ xs) h = let parts = or_parts _ _ h in (parts.0, none_passes p xs parts.1)

differs_from :
    (w : Waiter) (ws : List Waiter)
    → list_any (is_of w.task) ws ≡ false
    → list_any (has_ticket w.ticket) ws ≡ false
    → AllByRecursion (Differs w) ws
differs_from w ws task ticket =
    all_both (λ v. is_of w.task v ≡ false) (λ v. has_ticket w.ticket v ≡ false) (Differs w)
    (λ v h k. record {
      task = λ e. both_ways _ h (eq-eqb v.task w.task (sym e));
      ticket = λ e. both_ways _ k (eq-eqb v.ticket w.ticket (sym e));
    })
    ws (none_passes _ ws task) (none_passes _ ws ticket)

back : (w v : Waiter) → Differs w v → Differs v w
back w v d = record { task = λ e. d.task (sym e); ticket = λ e. d.ticket (sym e) }

pub apart_place :
    (w : Waiter) (ws : List Waiter)
    → IsApart ws
    → AllByRecursion (Differs w) ws
    → IsApart (insert_by precedes ws w)
apart_place w [] h new = (tt, tt)
apart_place w (v ∷ vs) h new =
    cond_both (precedes w v) (w ∷ v ∷ vs) (v ∷ insert_by precedes vs w) IsApart
    (λ _. (new, h))
    (λ _. (all_place (Differs v) w vs (back w v new.0) h.0, apart_place w vs h.1 new.1))

pub apart_without : (task : ℕ) (ws : List Waiter) → IsApart ws → IsApart (without task ws)
apart_without task [] h = tt
apart_without task (v ∷ vs) h =
    cond_both (is_of task v) vs (v ∷ without task vs) IsApart
    (λ _. h.1)
    (λ _. (all_without _ task vs h.0, apart_without task vs h.1))

-- ---- one that was there
-- the waiter that is found for a task is of that task
found_is_of : (task : ℕ) (ws : List Waiter) (w : Waiter) → find (is_of task) ws ≡ Some w → w.task ≡ task
found_is_of task [] w h = cc
found_is_of task (v ∷ vs) w h = grind (arith, eqb-true, found_is_of task vs w)

-- it differs from all others
others_differ :
    (task : ℕ) (w : Waiter) (ws : List Waiter)
    → IsApart ws
    → find (is_of task) ws ≡ Some w
    → AllByRecursion (Differs w) (without task ws)
others_differ task w [] h was = tt
others_differ task w (v ∷ vs) h was = go (is_of task v) (others_differ task w vs h.1) was
  where
    go :
        (b : Bool)
        → (find (is_of task) vs ≡ Some w → AllByRecursion (Differs w) (without task vs))
        → cond b (Some v) (find (is_of task) vs) ≡ Some w
        → AllByRecursion (Differs w) (cond b vs (v ∷ without task vs))
    go true rest is = subst (λ u. AllByRecursion (Differs u) vs) (same_Some v w is) h.0
    go false rest is = (back v w (found_holds (is_of task) (Differs v) vs w is h.0), rest is)

-- ---- queues with room
tickets_apart :
    (w : Waiter) (ws : List Waiter)
    → AllByRecursion (Differs w) ws
    → AllByRecursion (λ v. v.ticket ≡ w.ticket → ⊥) ws
tickets_apart w ws new = all_each (Differs w) (λ v. v.ticket ≡ w.ticket → ⊥) (λ v d same. d.ticket (sym same)) ws new

queued_joined :
    (room : ℕ) (w : Waiter) (ws : List Waiter)
    → AreQueued room ws
    → length ws < room
    → AllByRecursion (Differs w) ws
    → AreQueued room (insert_by precedes ws w)
queued_joined room w ws queued fits new = grind (arith, length-insert_by, ordered_place, tickets_apart, apart_place)

pub queued_placed :
    (room : ℕ) (w : Waiter) (ws : List Waiter)
    → AreQueued room ws
    → length ws < room
    → list_any (is_of w.task) ws ≡ false
    → list_any (has_ticket w.ticket) ws ≡ false
    → AreQueued room (insert_by precedes ws w)
queued_placed room w ws queued fits task ticket = queued_joined room w ws queued fits (differs_from w ws task ticket)

pub queued_without : (room task : ℕ) (ws : List Waiter) → AreQueued room ws → AreQueued room (without task ws)
queued_without room task ws queued = grind (arith, length-without, ordered_without, apart_without)

pub queued_repositioned :
    (room task prio : ℕ) (w : Waiter) (ws : List Waiter)
    → AreQueued room ws
    → find (is_of task) ws ≡ Some w
    → AreQueued room (repositioned task prio ws)
queued_repositioned room task prio w ws queued was =
    queued_joined room _ _ (queued_without room task ws queued)
    (omega (arith, length-without_less task w ws was, queued.fits))
    (all_each (Differs w) (Differs (record { task = task; prio = prio; ticket = ticket_of task ws }))
    (λ v d. record {
      task = λ same. d.task (found_is_of task ws w was ∙ same);
      ticket = λ same. d.ticket (rw was at same);
    })
    _ (others_differ task w ws queued.apart was))

-- removed, and inserted again with its ticket at the place of its priority
pub is_repositioned :
    (task prio : ℕ) (w v : Waiter) (ws : List Waiter) (from to : ℕ)
    → find (is_of task) ws ≡ Some w
    → without task ws ≡ remove ws from
    → v ≡ record w { prio = prio }
    → to ≡ position_or_len (precedes v) (remove ws from)
    → insert (remove ws from) to v ≡ repositioned task prio ws
is_repositioned task prio w v ws from to was out now place = grind (arith, found_is_of, insert_by_is)

-- the only one stays where it is
pub alone :
    (task prio : ℕ) (w v : Waiter) (ws : List Waiter)
    → find (is_of task) ws ≡ Some w
    → v ≡ record w { prio = prio }
    → length ws ≡ 1
    → set ws 0 v ≡ repositioned task prio ws
alone task prio w v [] was now one = absurd (none-some w was)
alone task prio w v (u ∷ us ∷ rest) was now one = absurd (omega arith)
alone task prio w v (u ∷ []) was now one = grind (arith, found_is_of)

pub ruleset given_prio = (is_repositioned, alone)
