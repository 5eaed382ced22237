-- The visits of a hand-over, counted.
use Rattle.std.proofs.Common.{◌≡◌, ◌∙◌, ◌≤◌, ◌<◌, ℕ, nat_lt, max, is_some, Bool, true, false, cond, subst, sym, ap, arith, Option, Some, None, List}
use Rattle.std.specs.Option.{option_map_or}
use Rattle.std.proofs.lemmas.Bool.{lt-ltb, le-ltb}
use Rattle.pim_base.specs.State.{State, IsTask, IsMutex, owner_of, wait_of, with_owner}
use Rattle.pim_base.specs.Chains.{heir_of}
use Rattle.pim_base.specs.declared.steps.Waiter.{Waiter}
use Rattle.pim_base.specs.Queues.{queue_of}
use Rattle.pim_base.specs.Priorities.{ceiling_of}
use Rattle.pim_base.specs.Steps.{hand_over}
use Rattle.pim_base.proofs.HandOvers.{base-hand_over, idle-hand_over, protocol-hand_over}
use Rattle.pim_chain.specs.Views.{View, Ready, with_state, stored_at, queue_at, first_prio}
use Rattle.pim_chain.specs.Settled.{SettledBut, left}
use Rattle.pim_chain.specs.Owned.{given, new_owner_visits, old_owner_visits}
use Rattle.pim_chain.proofs.Known.{owned_mutex, owner_of-given}
use Rattle.pim_chain.proofs.Releasing.{queue_apart}

pub new_owner_visits-most : (v w : View) (m : ℕ) → new_owner_visits v w m ≤ 1
new_owner_visits-most v w m = go (owner_of w.state m)
  where
    one : (b : Bool) → cond b 1 0 ≤ 1
    one true = omega arith
    one false = omega arith

    go : (o : Option ℕ) → option_map_or (λ t. cond (nat_lt (stored_at v t) (given w m)) 1 0) o 0 ≤ 1
    go None = omega arith
    go (Some t) = one (nat_lt (stored_at v t) (given w m))

pub old_owner_visits-most : (v : View) (m a : ℕ) → old_owner_visits v m a ≤ 1
old_owner_visits-most v m a = one (nat_lt (given v m) (stored_at v a))
  where
    one : (b : Bool) → cond b 0 1 ≤ 1
    one true = omega arith
    one false = omega arith

-- what a mutex gives depends on the state and the queues alone
pub given-same : (v w : View) (m : ℕ) → w.state ≡ v.state → w.queues ≡ v.queues → given w m ≡ given v m
given-same v w m state queues = ap (λ S. given (with_state w S) m) state ∙ ap (λ qs. given (record v { queues = qs }) m) queues

-- the waiter t leaves its queue, and gets the mutex
pub given_owner :
    {v x y : View} {m t k : ℕ}
    → Ready v
    → Ready x
    → wait_of v.state t ≡ Some (record { mutex = m; ticket = k })
    → x ≡ left v t m
    → y ≡ with_state x (with_owner x.state m (Some t))
    → owner_of y.state m ≡ Some t
given_owner {v} {x} {y} {m} {t} {k} ready after waits gone is =
    ap (λ (w : View). owner_of w.state m) is ∙ owner_of-given x.state m t after.sound.lists mutex
  where
    mutex : IsMutex x.state m
    mutex = subst (λ (w : View). IsMutex w.state m) (sym gone) (ready.waits.mutexes t _ waits)

pub given_had :
    (v x y : View) (m t : ℕ) → x ≡ left v t m → y ≡ with_state x (with_owner x.state m (Some t)) → stored_at y t ≡ stored_at v t
given_had v x y m t gone is = ap (λ (w : View). stored_at w t) is ∙ ap (λ (w : View). stored_at w t) gone

-- one visit of a new owner that gets more than it had, else none
abbrev visits_of : View → View → ℕ → Option ℕ → ℕ
visits_of v w m o = option_map_or (λ t. cond (nat_lt (stored_at v t) (given w m)) 1 0) o 0

pub new_owner_visits-raised :
    (v y z : View) (m t : ℕ)
    → owner_of y.state m ≡ Some t
    → z.state ≡ y.state
    → z.queues ≡ y.queues
    → stored_at y t ≡ stored_at v t
    → stored_at y t < given y m
    → new_owner_visits v z m ≡ 1
new_owner_visits-raised v y z m t owns state queues had more =
    ap (visits_of v z m) (ap (λ S. owner_of S m) state ∙ owns)
    ∙ ap (λ b. cond b 1 0) (lt-ltb (stored_at v t) (given z m) (rw (given-same y z m state queues) (subst (λ n. n < given y m) had more)))

pub new_owner_visits-same :
    (v y : View) (m t : ℕ)
    → owner_of y.state m ≡ Some t
    → stored_at y t ≡ stored_at v t
    → given y m ≤ stored_at y t
    → new_owner_visits v y m ≡ 0
new_owner_visits-same v y m t owns had no_more =
    ap (visits_of v y m) owns
    ∙ ap (λ b. cond b 1 0) (le-ltb (stored_at v t) (given y m) (subst (λ n. given y m ≤ n) had no_more))

pub new_owner_visits-none : (v w : View) (m : ℕ) → owner_of w.state m ≡ None → new_owner_visits v w m ≡ 0
new_owner_visits-none v w m free = ap (visits_of v w m) free

pub old_owner_visits-falls : (v : View) (m a : ℕ) → stored_at v a ≤ given v m → old_owner_visits v m a ≡ 1
old_owner_visits-falls v m a low = ap (λ b. cond b 0 1) (le-ltb (given v m) (stored_at v a) low)

pub old_owner_visits-same : (v : View) (m a : ℕ) → given v m < stored_at v a → old_owner_visits v m a ≡ 0
old_owner_visits-same v m a above = ap (λ b. cond b 0 1) (lt-ltb (given v m) (stored_at v a) above)

-- ---- h has handed the mutex over, and w the stored priority of the old owner, too

-- the old owner a waits for nothing
pub old_owner-idle :
    (v h : View) (m a : ℕ) → h.state ≡ hand_over v.state m → wait_of v.state a ≡ None → wait_of h.state a ≡ None
old_owner-idle v h m a is idle = ap (λ S. wait_of S a) is ∙ idle-hand_over v.state m a idle

-- what the mutex gives stays
given-settled :
    (h w : View) (m a : ℕ)
    → Ready h
    → IsMutex h.state m
    → IsTask h.state a
    → wait_of h.state a ≡ None
    → SettledBut h.state (stored_at h) (Some a)
    → queue_at w m ≡ queue_of w.state m
    → w.state ≡ h.state
    → given w m ≡ given h m
given-settled h w m a ready known task idle apart in_order same =
    ap (from w.state) in_order
    ∙ ap (λ S. from S (queue_of S m)) same
    ∙ ap (from h.state) (sym (queue_apart h m a ready known task idle apart))
  where
    from : State → List Waiter → ℕ
    from S ws = max (ceiling_of S m) (cond (is_some (heir_of S m)) (first_prio ws) 0)

-- and so do the visits of the new owner
pub new_owner_visits-settled :
    (v h w : View) (m a : ℕ)
    → Ready v
    → owner_of v.state m ≡ Some a
    → wait_of v.state a ≡ None
    → h.state ≡ hand_over v.state m
    → Ready h
    → SettledBut h.state (stored_at h) (Some a)
    → ((k : ℕ) → IsMutex w.state k → queue_at w k ≡ queue_of w.state k)
    → w.state ≡ h.state
    → new_owner_visits v w m ≡ new_owner_visits v h m
new_owner_visits-settled v h w m a ready owned idle is after apart in_order state =
    ap (λ n. option_map_or (λ t. cond (nat_lt (stored_at v t) n) 1 0) (owner_of w.state m) 0)
    (given-settled h w m a after known task (old_owner-idle v h m a is idle) apart
    (in_order m (subst (λ S. IsMutex S m) (sym state) known)) state)
    ∙ ap (λ S. visits_of v h m (owner_of S m)) state
  where
    known : IsMutex h.state m
    known = rw is (rw (protocol-hand_over v.state m) (owned_mutex v.state m a ready.sound.lists owned))

    task : IsTask h.state a
    task = rw is (rw (base-hand_over v.state m) (ready.waits.owners m a owned))
