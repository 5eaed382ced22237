-- One mutex more or less that gives its owner no higher priority than the owner has.
use Rattle.std.proofs.Common.{◌≡◌, ◌≢◌, ℕ, ◌<◌, ◌≤◌, max, Bool, true, false, is_some, cond, if◌then◌else◌, ◌⊎◌, inl, inr, refl, sym, ◌∙◌, ap, subst, arith, le_antisymm, le_trans, Option, Some, None, List, [], ◌∷◌, length}
use Rattle.std.specs.List.{AllByRecursion}
use Rattle.std.proofs.lemmas.Bool.{cases_eq, eqb-true}
use Rattle.std.proofs.lemmas.Option.{none-some}
use Rattle.std.proofs.Math.Nat.{le-max_left, le-max_right, max-le}
use Rattle.pim_base.specs.Lists.{holds, insert_by}
use Rattle.pim_base.specs.State.{IsMutex, base_of, owner_of, protocol_of, wait_of, with_owner, with_wait}
use Rattle.pim_base.specs.Queues.{precedes}
use Rattle.pim_base.specs.declared.steps.Wait.{Wait}
use Rattle.pim_base.specs.declared.steps.Waiter.{Waiter}
use Rattle.pim_base.specs.declared.steps.Protocol.{Protocol}
use Rattle.pim_base.specs.Reasons.{is_inherit}
use Rattle.pim_queue.specs.QueueView.{QueueView}
use Rattle.pim_queue.specs.Waiters.{is_of, without, IsOrdered}
use Rattle.pim_queue.proofs.Order.{before_prio}
use Rattle.pim_base.specs.Chains.{heir_in, heir_of}
use Rattle.pim_base.specs.Priorities.{local_priority, ceiling_of}
use Rattle.pim_base.proofs.Greatest.{greatest_of, greatest_of-le, le-greatest_of}
use Rattle.pim_base.proofs.Stored.{from_holds, holds_from}
use Rattle.pim_base.proofs.NoCycle.{unwrap_or-put_same}
use Rattle.pim_chain.specs.Views.{View, Ready, Shows, IsQueue, stored_at, queue_at, queue_in, put_queue, first_prio, with_state}
use Rattle.pim_chain.specs.Owned.{given, given_by}
use Rattle.pim_chain.specs.Settled.{SettledBut}
use Rattle.pim_chain.proofs.Changes.{owner_other, view_other, view_same}
use Rattle.pim_chain.proofs.Known.{owned_mutex}
use Rattle.pim_chain.proofs.LocalOfOwned.{local_by_owned}
use Rattle.pim_chain.proofs.Visit.{visited_same}

-- all mutexes but one give the task the same priority
record Alike (v w : View) (t m : ℕ) : Type 0 where
  base : base_of v.state t ≡ base_of w.state t
  mutexes : length v.state.protocol ≡ length w.state.protocol
  owner : (k : ℕ) → k ≢ m → owner_of v.state k ≡ owner_of w.state k
  given : (k : ℕ) → k ≢ m → given v k ≡ given w k

alike : (v : View) (t m : ℕ) (o : Option ℕ) → Alike v (with_state v (with_owner v.state m o)) t m
alike v t m o = record {
  base = refl;
  mutexes = refl;
  owner = λ k ne. sym (owner_other v.state m o k ne);
  given = λ k ne. ap (λ x. max (ceiling_of v.state k) (cond (is_some (heir_in (protocol_of v.state k) x)) (first_prio (queue_at v k)) 0)) (sym (owner_other v.state m o k ne));
}

back : {v w : View} {t m : ℕ} → Alike v w t m → Alike w v t m
back same = record {
  base = sym same.base;
  mutexes = sym same.mutexes;
  owner = λ k ne. sym (same.owner k ne);
  given = λ k ne. sym (same.given k ne);
}

-- what bounds the local priority with the others and this one mutex, bounds it
local_under :
    (v w : View) (t m b : ℕ)
    → Ready v
    → Ready w
    → Alike v w t m
    → (owner_of v.state m ≡ Some t → given v m ≤ b)
    → local_priority w.state (stored_at w) t ≤ b
    → local_priority v.state (stored_at v) t ≤ b
local_under v w t m b ready after same here bound =
    subst (λ n. n ≤ b) (local_by_owned v t ready)
    (max-le (le_trans (subst (λ n. base_of v.state t ≤ n) (local_by_owned w t after)
    (subst (λ n. n ≤ max (base_of w.state t) others) (sym same.base) (le-max_left _ _))) bound)
    (greatest_of-le (given v) (λ k. holds (owner_of v.state k) t) (length v.state.protocol) b (λ k low high h. each k low high h (cases_eq k m))))
  where
    others : ℕ
    others = greatest_of (given w) (λ k. holds (owner_of w.state k) t) (length w.state.protocol)

    each : (k : ℕ) → 1 ≤ k → k ≤ length v.state.protocol → holds (owner_of v.state k) t ≡ true → (k ≡ m) ⊎ (k ≡ m → ⊥) → given v k ≤ b
    each k low high h (inl is) =
        subst (λ n. given v n ≤ b) (sym is) (here (from_holds (owner_of v.state m) t (ap (λ n. holds (owner_of v.state n) t) (sym is) ∙ h)))
    each k low high h (inr ne) =
        subst (λ n. n ≤ b) (sym (same.given k ne))
        (le_trans (le-greatest_of (given w) (λ k. holds (owner_of w.state k) t) (length w.state.protocol) k low
        (subst (λ n. k ≤ n) same.mutexes high) (ap (λ o. holds o t) (sym (same.owner k ne)) ∙ h))
        (le_trans (subst (λ n. others ≤ n) (local_by_owned w t after) (le-max_right _ _)) bound))

-- a free mutex that gives its new owner no higher priority than the owner has
pub gained_local :
    (v w : View) (t m : ℕ)
    → Ready v
    → Ready w
    → w ≡ with_state v (with_owner v.state m (Some t))
    → owner_of v.state m ≡ None
    → stored_at v t ≡ local_priority v.state (stored_at v) t
    → given w m ≤ stored_at w t
    → stored_at w t ≡ local_priority w.state (stored_at w) t
gained_local v w t m ready after is free right low =
    had ∙ right ∙ le_antisymm
    (local_under v w t m _ ready after same (λ mine. absurd (none-some t (sym free ∙ mine))) (omega arith))
    (local_under w v t m _ after ready (back same) (λ _. subst (λ n. given w m ≤ n) (had ∙ right) low) (omega arith))
  where
    same : Alike v w t m
    same = subst (λ x. Alike v x t m) (sym is) (alike v t m (Some t))

    had : stored_at w t ≡ stored_at v t
    had = ap (λ (x : View). stored_at x t) is

-- an owned mutex that gave its owner a lower priority than the owner has
pub lost_settled :
    (v w : View) (t m : ℕ)
    → Ready v
    → Ready w
    → w ≡ with_state v (with_owner v.state m None)
    → owner_of v.state m ≡ Some t
    → SettledBut v.state (stored_at v) None
    → SettledBut w.state (stored_at w) (Some t)
    → given v m < stored_at w t
    → SettledBut w.state (stored_at w) None
lost_settled v w t m ready after is owned before but low =
    (visited_same w t but (had ∙ right ∙ le_antisymm lower
    (local_under w v t m _ after ready (back same) (λ mine. absurd (none-some t (sym freed ∙ mine))) (omega arith)))).settled
  where
    same : Alike v w t m
    same = subst (λ x. Alike v x t m) (sym is) (alike v t m None)

    had : stored_at w t ≡ stored_at v t
    had = ap (λ (x : View). stored_at x t) is

    right : stored_at v t ≡ local_priority v.state (stored_at v) t
    right = before t (ready.waits.owners m t owned) (λ e. none-some t e)

    freed : owner_of w.state m ≡ None
    freed = ap (λ (x : View). owner_of x.state m) is ∙ elim (unwrap_or-put_same v.state.owner m None) [ inl h ↦ h | inr h ↦ h ]

    lower : local_priority v.state (stored_at v) t ≤ local_priority w.state (stored_at w) t
    lower =
        let under : local_priority v.state (stored_at v) t ≤ max (local_priority w.state (stored_at w) t) (given v m) =
        local_under v w t m _ ready after same (λ _. le-max_right _ _) (le-max_left _ _) in
        let less : given v m < local_priority v.state (stored_at v) t = subst (λ n. given v m < n) (had ∙ right) low in
        omega (arith, under, less)

-- the priority that an owned mutex gives isn't above its owner's local priority
given_under : (v : View) (t m : ℕ) → Ready v → owner_of v.state m ≡ Some t → given v m ≤ local_priority v.state (stored_at v) t
given_under v t m ready mine =
    let known = owned_mutex v.state m t ready.sound.lists mine in
    le_trans (le-greatest_of (given v) (λ k. holds (owner_of v.state k) t) (length v.state.protocol) m known.0 known.1 (holds_from (owner_of v.state m) t mine))
    (subst (λ n. greatest_of (given v) (λ k. holds (owner_of v.state k) t) (length v.state.protocol) ≤ n) (local_by_owned v t ready) (le-max_right _ _))

-- only the priority that one mutex gives its owner may change: it doesn't fall, nor rise above the owner's
given_settled :
    (v w : View) (t m : ℕ)
    → Ready v
    → Ready w
    → Alike v w t m
    → owner_of v.state m ≡ Some t
    → owner_of w.state m ≡ Some t
    → stored_at w t ≡ stored_at v t
    → SettledBut v.state (stored_at v) None
    → SettledBut w.state (stored_at w) (Some t)
    → given v m ≤ given w m
    → given w m ≤ stored_at v t
    → SettledBut w.state (stored_at w) None
given_settled v w t m ready after same was is had before but low high =
    (visited_same w t but (had ∙ right ∙ le_antisymm
    (local_under v w t m _ ready after same (λ _. le_trans low (given_under w t m after is)) (omega arith))
    (local_under w v t m _ after ready (back same) (λ _. subst (λ n. given w m ≤ n) right high) (omega arith)))).settled
  where
    right : stored_at v t ≡ local_priority v.state (stored_at v) t
    right = before t (ready.waits.owners m t was) (λ e. none-some t e)

-- another wait of a task, and another queue of this mutex
abbrev requeued : View → ℕ → Option Wait → ℕ → List Waiter → View
requeued v x o m ws = record v { state = with_wait v.state x o; queues = put_queue v.queues m ws }

alike_requeued : (v : View) (t x m : ℕ) (o : Option Wait) (ws : List Waiter) → Alike v (requeued v x o m ws) t m
alike_requeued v t x m o ws = record {
  base = refl;
  mutexes = refl;
  owner = λ k ne. refl;
  given = λ k ne.
      ap (λ (q : QueueView). max (ceiling_of v.state k) (cond (is_some (heir_in (protocol_of v.state k) (owner_of v.state k))) (first_prio q.waiters) 0))
      (sym (view_other v.queues m k ws ne));
}

first_prio-insert_by : (x : Waiter) (ws : List Waiter) → first_prio ws ≤ first_prio (insert_by precedes ws x)
first_prio-insert_by x [] = omega arith
first_prio-insert_by x (y ∷ ys) = go (precedes x y) refl
  where
    go : (b : Bool) → precedes x y ≡ b → y.prio ≤ first_prio (if b then x ∷ y ∷ ys else y ∷ insert_by precedes ys x)
    go true before = before_prio x y before
    go false behind = omega arith

-- one more waiter doesn't lower the priority that a mutex gives
given_joined :
    (v : View) (x m : ℕ) (o : Option Wait) (u : Waiter)
    → Ready v
    → IsMutex v.state m
    → given v m ≤ given (requeued v x o m (insert_by precedes (queue_at v m) u)) m
given_joined v x m o u ready known = go (is_some (heir_of v.state m))
  where
    ws : List Waiter
    ws = insert_by precedes (queue_at v m) u

    now : first_prio (queue_in (put_queue v.queues m ws) m) ≡ first_prio ws
    now = ap (λ (q : QueueView). first_prio q.waiters) (view_same v.queues m ws known.0 (subst (λ n. m ≤ n) (sym ready.queues_len) known.1))

    go :
        (b : Bool)
        → max (ceiling_of v.state m) (cond b (first_prio (queue_at v m)) 0)
        ≤ max (ceiling_of v.state m) (cond b (first_prio (queue_in (put_queue v.queues m ws) m)) 0)
    go true = let more = first_prio-insert_by u (queue_at v m) in omega (arith, more, now)
    go false = omega arith

-- one more waiter that doesn't raise the owner
pub joined_settled :
    (v w : View) (x t m : ℕ) (o : Option Wait) (u : Waiter)
    → Ready v
    → Ready w
    → w ≡ requeued v x o m (insert_by precedes (queue_at v m) u)
    → IsMutex v.state m
    → owner_of v.state m ≡ Some t
    → SettledBut v.state (stored_at v) None
    → SettledBut w.state (stored_at w) (Some t)
    → given w m ≤ stored_at w t
    → SettledBut w.state (stored_at w) None
joined_settled v w x t m o u ready after is known owned before but low =
    given_settled v w t m ready after (subst (λ z. Alike v z t m) (sym is) (alike_requeued v t x m o _)) owned
    (ap (λ (z : View). owner_of z.state m) is ∙ owned) had before but
    (subst (λ (z : View). given v m ≤ given z m) (sym is) (given_joined v x m o u ready known))
    (subst (λ n. given w m ≤ n) had low)
  where
    had : stored_at w t ≡ stored_at v t
    had = ap (λ (z : View). stored_at z t) is

first_prio-without : (x : ℕ) (ws : List Waiter) → IsOrdered ws → first_prio (without x ws) ≤ first_prio ws
first_prio-without x [] ordered = omega arith
first_prio-without x (y ∷ ys) ordered = go (is_of x y)
  where
    behind : (zs : List Waiter) → AllByRecursion (λ z. precedes y z ≡ true) zs → first_prio zs ≤ y.prio
    behind [] h = omega arith
    behind (z ∷ zs) h = before_prio y z h.0

    go : (b : Bool) → first_prio (cond b ys (y ∷ without x ys)) ≤ y.prio
    go true = behind ys ordered.0
    go false = omega arith

-- the first is still there, unless it was the one that is gone
first_prio-le-without :
    (wait : ℕ → Option Wait) (stored : ℕ → ℕ) (m x : ℕ) (ws : List Waiter)
    → AllByRecursion (Shows wait stored m) ws
    → first_prio ws ≤ max (first_prio (without x ws)) (stored x)
first_prio-le-without wait stored m x [] shown = omega arith
first_prio-le-without wait stored m x (y ∷ ys) shown = go (is_of x y) refl
  where
    go : (b : Bool) → is_of x y ≡ b → y.prio ≤ max (first_prio (cond b ys (y ∷ without x ys))) (stored x)
    go true its = let same : y.prio ≡ stored x = shown.0.prio ∙ ap stored (eqb-true y.task x its) in omega (arith, same)
    go false other = omega arith

is_some-heir_in : (p : Protocol) (t : ℕ) → is_some (heir_in p (Some t)) ≡ is_inherit p
is_some-heir_in Protocol.None t = refl
is_some-heir_in Protocol.Inherit t = refl
is_some-heir_in Protocol.InheritRecursive t = refl
is_some-heir_in (Protocol.Protect c) t = refl

-- one waiter less doesn't raise the priority that a mutex gives, and lowers it only if that waiter gave as much
record GivenLeft (before after by : ℕ) : Type 0 where
  less : after ≤ before
  by_left : before ≤ max after by

given_left :
    (v : View) (x t m : ℕ) (o : Option Wait)
    → Ready v
    → IsMutex v.state m
    → owner_of v.state m ≡ Some t
    → GivenLeft (given v m) (given (requeued v x o m (without x (queue_at v m))) m) (given_by v x m)
given_left v x t m o ready known owned = go (is_some (heir_of v.state m)) inherits
  where
    queue : IsQueue (wait_of v.state) (stored_at v) m (queue_at v m)
    queue = ready.queues m known

    left : List Waiter
    left = without x (queue_at v m)

    now : first_prio (queue_in (put_queue v.queues m left) m) ≡ first_prio left
    now = ap (λ (q : QueueView). first_prio q.waiters) (view_same v.queues m left known.0 (subst (λ n. m ≤ n) (sym ready.queues_len) known.1))

    inherits : is_some (heir_of v.state m) ≡ is_inherit (protocol_of v.state m)
    inherits = ap (λ h. is_some (heir_in (protocol_of v.state m) h)) owned ∙ is_some-heir_in (protocol_of v.state m) t

    less : first_prio left ≤ first_prio (queue_at v m)
    less = first_prio-without x (queue_at v m) queue.ordered

    by_left : first_prio (queue_at v m) ≤ max (first_prio left) (stored_at v x)
    by_left = first_prio-le-without (wait_of v.state) (stored_at v) m x (queue_at v m) queue.sound

    go :
        (b : Bool)
        → b ≡ is_inherit (protocol_of v.state m)
        → GivenLeft (max (ceiling_of v.state m) (cond b (first_prio (queue_at v m)) 0))
        (max (ceiling_of v.state m) (cond b (first_prio (queue_in (put_queue v.queues m left) m)) 0))
        (cond (is_inherit (protocol_of v.state m)) (stored_at v x) 0)
    go true is =
        subst (λ b. GivenLeft (max (ceiling_of v.state m) (first_prio (queue_at v m)))
        (max (ceiling_of v.state m) (first_prio (queue_in (put_queue v.queues m left) m))) (cond b (stored_at v x) 0)) is
        (record { less = omega (arith, less, now); by_left = omega (arith, by_left, now) })
    go false is = record { less = omega arith; by_left = omega arith }

-- one waiter less, which gave a lower priority than the owner has
pub left_settled :
    (v w : View) (x t m : ℕ) (o : Option Wait)
    → Ready v
    → Ready w
    → w ≡ requeued v x o m (without x (queue_at v m))
    → IsMutex v.state m
    → owner_of v.state m ≡ Some t
    → SettledBut v.state (stored_at v) None
    → SettledBut w.state (stored_at w) (Some t)
    → given_by v x m < stored_at w t
    → SettledBut w.state (stored_at w) None
left_settled v w x t m o ready after is known owned before but low =
    (visited_same w t but (had ∙ right ∙ le_antisymm lower
    (local_under w v t m _ after ready (back same) (λ _. le_trans gives.less (given_under v t m ready owned)) (omega arith)))).settled
  where
    same : Alike v w t m
    same = subst (λ z. Alike v z t m) (sym is) (alike_requeued v t x m o _)

    had : stored_at w t ≡ stored_at v t
    had = ap (λ (z : View). stored_at z t) is

    right : stored_at v t ≡ local_priority v.state (stored_at v) t
    right = before t (ready.waits.owners m t owned) (λ e. none-some t e)

    gives : GivenLeft (given v m) (given w m) (given_by v x m)
    gives = subst (λ (z : View). GivenLeft (given v m) (given z m) (given_by v x m)) (sym is) (given_left v x t m o ready known owned)

    lower : local_priority v.state (stored_at v) t ≤ local_priority w.state (stored_at w) t
    lower =
        let mine : given w m ≤ local_priority w.state (stored_at w) t =
        given_under w t m after (ap (λ (z : View). owner_of z.state m) is ∙ owned) in
        let under : local_priority v.state (stored_at v) t ≤ max (local_priority w.state (stored_at w) t) (given_by v x m) =
        local_under v w t m _ ready after same (λ _. omega (arith, gives.by_left, mine)) (le-max_left _ _) in
        let less : given_by v x m < local_priority v.state (stored_at v) t = subst (λ n. given_by v x m < n) (had ∙ right) low in
        omega (arith, under, less)
