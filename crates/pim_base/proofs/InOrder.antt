-- A queue has its waiters, each before all later ones.
use Rattle.std.proofs.Common.{◌≡◌, ◌≢◌, ◌⊎◌, inl, inr, ℕ, zero, suc, ◌<◌, ◌≤◌, Bool, true, false, cond, List, [], ◌∷◌, length, Option, Some, None, refl, sym, ◌∙◌, subst, arith, Contains, AllPairs, rules}
use Rattle.std.specs.List.{AllByRecursion}
use Rattle.std.proofs.lemmas.Bool.{both_ways}
use Rattle.std.proofs.lemmas.List.Elements.{All-from_recursion}
use Rattle.pim_base.specs.Lists.{insert_by}
use Rattle.pim_base.specs.State.{State, wait_of}
use Rattle.pim_base.specs.Priorities.{effective_priority}
use Rattle.pim_base.specs.Queues.{precedes, Precedes, waiter_of, queue_of}
use Rattle.pim_base.specs.Steady.{HasOwnTickets}
use Rattle.pim_base.specs.Laws.{QueueLaw}
use Rattle.pim_base.specs.declared.steps.Wait.{Wait}
use Rattle.pim_base.specs.declared.steps.Waiter.{Waiter}
use Rattle.pim_base.proofs.Firsts.{queue_upto, queue_upto-some, queue_upto-none}

-- to precede, as a choice of facts
abbrev Comes : Waiter → Waiter → Type 0
Comes a b = (b.prio < a.prio) ⊎ ((a.prio ≡ b.prio) × (a.ticket < b.ticket))

told : (a b : Waiter) → Precedes a b → Comes a b
told a b h = search rules

precedes_trans : (a b c : Waiter) → Precedes a b → Precedes b c → Precedes a c
precedes_trans a b c h k = search rules

pub precedes_prio : (a b : Waiter) → Precedes a b → b.prio ≤ a.prio
precedes_prio a b h = search rules

-- of two waiters with different tickets one precedes the other
precedes_or : (a b : Waiter) → a.ticket ≢ b.ticket → Precedes a b ⊎ Precedes b a
precedes_or a b apart = search rules

-- each precedes all later ones
abbrev IsOrdered : List Waiter → Type 0
IsOrdered [] = Unit {0}
IsOrdered (w ∷ ws) = AllByRecursion (Precedes w) ws × IsOrdered ws

-- the waiter is one of them
abbrev IsIn : Waiter → List Waiter → Type 0
IsIn w [] = ⊥
IsIn w (v ∷ vs) = (v ≡ w) ⊎ IsIn w vs

all_each : (P R : Waiter → Type 0) → ((x : Waiter) → P x → R x) → (xs : List Waiter) → AllByRecursion P xs → AllByRecursion R xs
all_each P R f [] h = tt
all_each P R f (x ∷ xs) h = (f x h.0, all_each P R f xs h.1)

all-insert_by : (P : Waiter → Type 0) (xs : List Waiter) (w : Waiter) → AllByRecursion P xs → P w → AllByRecursion P (insert_by precedes xs w)
all-insert_by P [] w h p = (p, tt)
all-insert_by P (v ∷ xs) w h p = go (precedes w v) (all-insert_by P xs w h.1 p)
  where
    go : (b : Bool) → AllByRecursion P (insert_by precedes xs w) → AllByRecursion P (cond b (w ∷ v ∷ xs) (v ∷ insert_by precedes xs w))
    go true rest = (p, h)
    go false rest = (h.0, rest)

-- the waiter put in its place is there, and so are the others
is_in-insert_by : (xs : List Waiter) (w x : Waiter) → (x ≡ w) ⊎ IsIn w xs → IsIn w (insert_by precedes xs x)
is_in-insert_by [] w x h = h
is_in-insert_by (v ∷ xs) w x h = go (precedes x v) h (is_in-insert_by xs w x)
  where
    go :
        (b : Bool)
        → (x ≡ w) ⊎ IsIn w (v ∷ xs)
        → ((x ≡ w) ⊎ IsIn w xs → IsIn w (insert_by precedes xs x))
        → IsIn w (cond b (x ∷ v ∷ xs) (v ∷ insert_by precedes xs x))
    go true h rest = h
    go false (inl here) rest = inr (rest (inl here))
    go false (inr (inl first)) rest = inl first
    go false (inr (inr later)) rest = inr (rest (inr later))

-- the order is kept if the tickets of the others are different
ordered-insert_by :
    (xs : List Waiter) (w : Waiter)
    → IsOrdered xs
    → AllByRecursion (λ v. w.ticket ≢ v.ticket) xs
    → IsOrdered (insert_by precedes xs w)
ordered-insert_by [] w h apart = (tt, tt)
ordered-insert_by (v ∷ xs) w h apart = go (precedes w v) refl (ordered-insert_by xs w h.1 apart.1)
  where
    behind : Precedes w v ⊎ Precedes v w → precedes w v ≡ false → Precedes v w
    behind (inl before) not_before = absurd (both_ways (precedes w v) not_before before)
    behind (inr after) not_before = after

    go : (b : Bool) → precedes w v ≡ b → IsOrdered (insert_by precedes xs w) → IsOrdered (cond b (w ∷ v ∷ xs) (v ∷ insert_by precedes xs w))
    go true before rest = ((before, all_each (Precedes v) (Precedes w) (λ x p. precedes_trans w v x before p) xs h.0), h)
    go false not_before rest = (all-insert_by (Precedes v) xs w h.0 (behind (precedes_or w v apart.0) not_before), rest)

-- what a task that waits for m shows as a waiter
pub record WaitsFor (S : State) (m t : ℕ) (w : Waiter) : Type 0 where
  pub wait : Wait
  pub waits : wait_of S t ≡ Some wait
  pub mutex : wait.mutex ≡ m
  pub task : w.task ≡ t
  pub prio : w.prio ≡ effective_priority S t
  pub ticket : w.ticket ≡ wait.ticket

pub waits_for : (S : State) (m t : ℕ) (w : Waiter) → waiter_of S m t ≡ Some w → WaitsFor S m t w
waits_for S m t w e = search rules

-- and the other way round
pub waiter_of-waits :
    (S : State) (m t : ℕ) (w : Wait)
    → wait_of S t ≡ Some w
    → w.mutex ≡ m
    → waiter_of S m t ≡ Some (record { task = t; prio = effective_priority S t; ticket = w.ticket })
waiter_of-waits S m t w e here = search rules

-- a waiter for m, from among the first n tasks
abbrev IsOf : State → ℕ → ℕ → Waiter → Type 0
IsOf S m n w = ((1 ≤ w.task) × (w.task ≤ n)) × (waiter_of S m w.task ≡ Some w)

-- what holds of the queue of the first n tasks
record HasFirst (S : State) (m n : ℕ) (q : List Waiter) : Type 0 where
  only : AllByRecursion (IsOf S m n) q
  all : (t : ℕ) (w : Waiter) → 1 ≤ t → t ≤ n → waiter_of S m t ≡ Some w → IsIn w q
  ordered : IsOrdered q

wider : (S : State) (m n : ℕ) (q : List Waiter) → AllByRecursion (IsOf S m n) q → AllByRecursion (IsOf S m (suc n)) q
wider S m n q = all_each (IsOf S m n) (IsOf S m (suc n)) (λ w h. ((h.0.0, omega (arith, h.0.1)), h.1)) q

-- one more task has a ticket that no waiter so far has
new_ticket :
    (S : State) (m n : ℕ) (w : Waiter)
    → HasOwnTickets S
    → waiter_of S m (suc n) ≡ Some w
    → (v : Waiter)
    → IsOf S m n v
    → w.ticket ≢ v.ticket
new_ticket S m n w own e v h same =
    let a = waits_for S m (suc n) w e in
    let b = waits_for S m v.task v h.1 in
    let one_task : suc n ≡ v.task = own.own (suc n) v.task a.wait b.wait a.waits b.waits (sym a.ticket ∙ same ∙ b.ticket) in
    absurd (omega (arith, one_task, h.0.1))

first_none :
    (S : State) (m n : ℕ) (q : List Waiter)
    → waiter_of S m (suc n) ≡ None
    → HasFirst S m n q
    → HasFirst S m (suc n) q
first_none S m n q e rest = grind (arith, wider)

first_some :
    (S : State) (m n : ℕ) (q : List Waiter) (w : Waiter)
    → HasOwnTickets S
    → waiter_of S m (suc n) ≡ Some w
    → HasFirst S m n q
    → HasFirst S m (suc n) (insert_by precedes q w)
first_some S m n q w own e rest = grind (arith, all-insert_by, is_in-insert_by, ordered-insert_by, all_each, new_ticket)

has_first : (S : State) (m : ℕ) → HasOwnTickets S → (n : ℕ) → HasFirst S m n (queue_upto (waiter_of S m) n)
has_first S m own zero = record { only = tt; all = λ t w low high e. absurd (omega arith); ordered = tt }
has_first S m own (suc n) = go (waiter_of S m (suc n)) refl (has_first S m own n)
  where
    q : List Waiter
    q = queue_upto (waiter_of S m) n

    go : (o : Option Waiter) → waiter_of S m (suc n) ≡ o → HasFirst S m n q → HasFirst S m (suc n) (queue_upto (waiter_of S m) (suc n))
    go None e rest =
        subst (HasFirst S m (suc n)) (sym (queue_upto-none (waiter_of S m) (suc n) n (omega arith) e)) (first_none S m n q e rest)
    go (Some w) e rest =
        subst (HasFirst S m (suc n)) (sym (queue_upto-some (waiter_of S m) (suc n) n w (omega arith) e))
        (first_some S m n q w own e rest)

Contains-from_is_in : (w : Waiter) (q : List Waiter) → IsIn w q → Contains q w
Contains-from_is_in w [] h = elim h [ ]
Contains-from_is_in w (v ∷ q) (inl here) = (0, omega arith, here)
Contains-from_is_in w (v ∷ q) (inr later) =
    let r = Contains-from_is_in w q later in (suc r.0, omega (arith, r.1), r.2)

AllPairs-from_ordered : (q : List Waiter) → IsOrdered q → AllPairs Precedes q
AllPairs-from_ordered [] h i j d less low = absurd (omega arith)
AllPairs-from_ordered (w ∷ q) h i zero d less low = absurd (omega arith)
AllPairs-from_ordered (w ∷ q) h zero (suc j) d less low = All-from_recursion (Precedes w) q h.0 j d (omega arith)
AllPairs-from_ordered (w ∷ q) h (suc i) (suc j) d less low = AllPairs-from_ordered q h.1 i j d (omega arith) (omega arith)

pub queue_law : QueueLaw
queue_law S m own =
    let first : HasFirst S m (length S.base) (queue_of S m) = has_first S m own (length S.base) in
    record {
      waiters = All-from_recursion (IsOf S m (length S.base)) (queue_of S m) first.only;
      all = λ t w task e. Contains-from_is_in w (queue_of S m) (first.all t w task.0 task.1 e);
      in_order = AllPairs-from_ordered (queue_of S m) first.ordered;
    }
