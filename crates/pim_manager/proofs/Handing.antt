-- The mutexes that a step hands over are those that are listed.
use Rattle.std.proofs.Common.{◌≡◌, ◌≢◌, ◌==◌, ◌≤◌, ◌<◌, ◌+◌, ◌-◌, ◌⊎◌, inl, inr, ℕ, zero, suc, Bool, true, false, not, cond}
use Rattle.std.proofs.Common.{◌&&◌, ◌||◌, [], ◌∷◌, List, filter, length, refl, sym, ◌∙◌, ap, ap₂, arith, fold, subst}
use Rattle.std.proofs.Common.{Option, None, Some, is_some, if◌then◌else◌, unwrap_or}
use Rattle.std.specs.List.{AllByRecursion, range_with_len, filter_map, cons_option}
use Rattle.std.proofs.lemmas.Bool.{both_ways, cases_eq, eq-eqb, ne_eqb}
use Rattle.std.proofs.lemmas.Bool.Decides.{nat_tests}
use Rattle.std.proofs.lemmas.Option.{same_Some}
use Rattle.pim_base.specs.Lists.{holds, numbers}
use Rattle.pim_base.specs.State.{State, IsMutex, count_of, owned, owner_of, wait_of, queued, relocks, with_base, with_ceiling, with_count, with_owner, with_wait}
use Rattle.pim_base.specs.Checks.{is_busy, is_owned, is_waiting, unknown_mutex, unknown_task, checks, first_checks}
use Rattle.pim_base.specs.Counts.{same_owner}
use Rattle.pim_base.specs.Queues.{first_of}
use Rattle.pim_base.specs.Steady.{IsSteady}
use Rattle.pim_base.specs.Steps.{after, after_reply, answer, granted, hand_over, hand_over_to, handed, is_kept, reply_of, served, unless}
use Rattle.pim_base.specs.declared.steps.Op.{Op}
use Rattle.pim_base.specs.declared.steps.Refusal.{Refusal}
use Rattle.pim_base.specs.declared.steps.Reply.{Reply}
use Rattle.pim_base.specs.declared.steps.Step.{Step}
use Rattle.pim_base.specs.declared.steps.Waiter.{Waiter}
use Rattle.pim_base.proofs.HandOvers.{owner_of-hand_over_other, protocol-hand_over}
use Rattle.pim_base.proofs.Kept.{idle_from_tests, kept_by_step}
use Rattle.pim_base.proofs.NoCycle.{unwrap_or-put_same}
use Rattle.pim_base.proofs.Places.{length-put, nth-put_other}
use Rattle.pim_base.proofs.Stored.{from_holds}
use Rattle.pim_sets.proofs.Members.{filter_least, filter_none}
use Rattle.pim_chain.proofs.Filters.{filter-none}
use Rattle.pim_manager.specs.Handed.{with_its_owner, handed_mutex, handed_mutexes}
use Rattle.pim_manager.specs.Released.{released_at_once, released_then, unlocked}
use Rattle.pim_manager.specs.declared.handed_mutexes.HandedMutex.{HandedMutex}
use Rattle.pim_manager.proofs.Listing.{each_passing}
use Rattle.pim_manager.proofs.Releases.{AllReleased, all_released, lost, lost_differs}

-- ---- lists
-- two ways to list some of the numbers of a range
listed_in :
    {X : Type 0} (g h : ℕ → Option X) (q : ℕ → Bool) (a n : ℕ)
    → ((k : ℕ) → a ≤ k → k < a + n → (if q k then g k else None) ≡ h k)
    → filter_map g (filter q (range_with_len a n)) ≡ filter_map h (range_with_len a n)
listed_in g h q a zero same = refl
listed_in g h q a (suc n) same =
    go (q a) (same a (omega arith) (omega arith))
    (listed_in g h q (a + 1) n (λ k low high. same k (omega (arith, low)) (omega (arith, high))))
  where
    go :
        (b : Bool)
        → (if b then g a else None) ≡ h a
        → filter_map g (filter q (range_with_len (a + 1) n)) ≡ filter_map h (range_with_len (a + 1) n)
        → filter_map g (cond b (a ∷ filter q (range_with_len (a + 1) n)) (filter q (range_with_len (a + 1) n)))
        ≡ cons_option (h a) (filter_map h (range_with_len (a + 1) n))
    go true e rest = ap₂ cons_option e rest
    go false e rest = rest ∙ ap (λ o. cons_option o (filter_map h (range_with_len (a + 1) n))) e

-- one number of a range
only : (m n : ℕ) → 1 ≤ m → m ≤ n → m ∷ [] ≡ filter (λ k. k == m) (numbers n)
only m n low high =
    ap (λ ms. m ∷ ms) (sym (filter_none (λ _. false) 1 n (λ _ _ _. refl)))
    ∙ sym (filter_least (λ k. k == m) (λ _. false) 1 n m low (omega (arith, high)) (eq-eqb m m refl)
    (λ k less. ne_eqb k m (λ e. absurd (omega (arith, less, e))))
    (λ k. each (cases_eq k m)))
  where
    each : {k : ℕ} → (k ≡ m) ⊎ (k ≢ m) → false ≡ (not (k == m) && (k == m))
    each {k} (inl e) = rw (eq-eqb k m e) refl
    each {k} (inr ne) = rw (ne_eqb k m ne) refl

-- no more are listed than there are numbers
filter_map-few : {X : Type 0} (h : ℕ → Option X) (a n : ℕ) → length (filter_map h (range_with_len a n)) ≤ n
filter_map-few h a zero = omega arith
filter_map-few {X} h a (suc n) = go (h a) (filter_map-few h (a + 1) n)
  where
    go :
        (o : Option X)
        → length (filter_map h (range_with_len (a + 1) n)) ≤ n
        → length (cons_option o (filter_map h (range_with_len (a + 1) n))) ≤ suc n
    go None few = omega (arith, few)
    go (Some x) few = omega (arith, few)

pub few_handed : (S T : State) → length (handed_mutexes S T) ≤ length S.protocol
few_handed S T = filter_map-few (handed_mutex S T) 1 (length S.protocol)

-- a step keeps the number of mutexes
pub mutexes_after : (S : State) (step : Step) → length (after S step).protocol ≡ length S.protocol
mutexes_after S step =
    kept_by_step (λ T. length T.protocol ≡ length S.protocol) (grind (arith, length-put, protocol-hand_over)) S step refl

-- ---- one mutex
if_same : {X : Type 0} (b : Bool) (x : X) → (if b then x else x) ≡ x
if_same true x = refl
if_same false x = refl

-- it is handed over if another task owned it before
handed_other :
    (S T : State) (m a : ℕ)
    → owner_of S m ≡ Some a
    → holds (owner_of T m) a ≡ false
    → with_its_owner T m ≡ handed_mutex S T m
handed_other S T m a owns lost =
    sym (ap (λ b. if is_some (owner_of S m) && b then with_its_owner T m else None)
    (lost_differs (owner_of S m) (owner_of T m) a owns lost)
    ∙ ap (λ o. if is_some o && true then with_its_owner T m else None) owns)

-- and not if its owner is the same, or if it was free, or if it is
unhanded :
    (S T : State) (m : ℕ)
    → (owner_of T m ≡ owner_of S m) ⊎ ((owner_of S m ≡ None) ⊎ (owner_of T m ≡ None))
    → None ≡ handed_mutex S T m
unhanded S T m (inl same) =
    sym (ap (λ o. if is_some (owner_of S m) && not (same_owner (owner_of S m) o) then with_its_owner T m else None) same
    ∙ go (owner_of S m) (with_its_owner T m))
  where
    go : (o : Option ℕ) (x : Option HandedMutex) → (if is_some o && not (same_owner o o) then x else None) ≡ None
    go None x = refl
    go (Some t) x = ap (λ b. if true && not b then x else None) (eq-eqb t t refl)
unhanded S T m (inr (inl free)) =
    sym (ap (λ o. if is_some o && not (same_owner o (owner_of T m)) then with_its_owner T m else None) free)
unhanded S T m (inr (inr freed)) =
    sym (ap (λ o. if is_owned S m && not (same_owner (owner_of S m) (owner_of T m)) then with_owner_as o else None) freed
    ∙ if_same (is_owned S m && not (same_owner (owner_of S m) (owner_of T m))) None)
  where
    with_owner_as : Option ℕ → Option HandedMutex
    with_owner_as None = None
    with_owner_as (Some t) = Some (record { mutex = m; task = t })

-- if no mutex is handed over, none is listed
pub none_handed :
    (S T : State)
    → ((k : ℕ) → (owner_of T k ≡ owner_of S k) ⊎ ((owner_of S k ≡ None) ⊎ (owner_of T k ≡ None)))
    → [] ≡ handed_mutexes S T
none_handed S T none =
    ap (filter_map (with_its_owner T)) (sym (filter_none (λ _. false) 1 (length S.protocol) (λ _ _ _. refl)))
    ∙ listed_in (with_its_owner T) (handed_mutex S T) (λ _. false) 1 (length S.protocol)
    (λ k _ _. unhanded S T k (none k))

pub none_handed_same : (S : State) → [] ≡ handed_mutexes S S
none_handed_same S = none_handed S S (λ k. inl refl)

-- ---- an unlock
pub handed_by_unlock :
    (S : State) (m a : ℕ)
    → IsSteady S
    → IsMutex S m
    → owner_of S m ≡ Some a
    → wait_of S a ≡ None
    → filter_map (with_its_owner (hand_over S m)) (m ∷ []) ≡ handed_mutexes S (hand_over S m)
handed_by_unlock S m a steady known owns idle =
    ap (filter_map (with_its_owner (hand_over S m))) (only m (length S.protocol) known.0 known.1)
    ∙ listed_in (with_its_owner (hand_over S m)) (handed_mutex S (hand_over S m)) (λ k. k == m) 1 (length S.protocol)
    (λ k _ _. each k (cases_eq k m))
  where
    each :
        (k : ℕ)
        → (k ≡ m) ⊎ (k ≢ m)
        → (if k == m then with_its_owner (hand_over S m) k else None) ≡ handed_mutex S (hand_over S m) k
    each k (inl is) =
        ap (λ b. if b then with_its_owner (hand_over S m) k else None) (eq-eqb k m is)
        ∙ handed_other S (hand_over S m) k a (ap (owner_of S) is ∙ owns)
        (ap (λ j. holds (owner_of (hand_over S m) j) a) is ∙ lost S m a steady.tickets idle)
    each k (inr ne) =
        ap (λ b. if b then with_its_owner (hand_over S m) k else None) (ne_eqb k m ne)
        ∙ unhanded S (hand_over S m) k (inl (owner_of-hand_over_other S m k (λ e. ne (sym e))))

-- ---- a release of all
owner_of-others :
    (S : State) (k : ℕ) (ms : List ℕ)
    → AllByRecursion (λ m. m ≢ k) ms
    → owner_of (fold hand_over S ms) k ≡ owner_of S k
owner_of-others S k [] apart = refl
owner_of-others S k (m ∷ ms) apart =
    owner_of-others (hand_over S m) k ms apart.1 ∙ owner_of-hand_over_other S m k apart.0

pub handed_by_release :
    (S : State) (a : ℕ)
    → IsSteady S
    → wait_of S a ≡ None
    → filter_map (with_its_owner (fold hand_over S (owned S a))) (owned S a)
    ≡ handed_mutexes S (fold hand_over S (owned S a))
handed_by_release S a steady idle =
    listed_in (with_its_owner T) (handed_mutex S T) (λ m. holds (owner_of S m) a) 1 (length S.protocol)
    (λ k low high. each k low (omega (arith, high)) (holds (owner_of S k) a) refl)
  where
    T : State
    T = fold hand_over S (owned S a)

    all : AllReleased S T a
    all = all_released S a (owned S a) refl idle steady

    each :
        (k : ℕ)
        → 1 ≤ k
        → k ≤ length S.protocol
        → (b : Bool)
        → holds (owner_of S k) a ≡ b
        → (if b then with_its_owner T k else None) ≡ handed_mutex S T k
    each k low high true owns =
        handed_other S T k a (from_holds (owner_of S k) a owns)
        (filter-none (λ j. holds (owner_of T j) a) 1 (length T.protocol) k all.none low
        (let same = ap length all.protocols in omega (arith, same, high)))
    each k low high false owns =
        unhanded S T k (inl (owner_of-others S k (owned S a)
        (each_passing (λ m. m ≢ k) (λ m. holds (owner_of S m) a) 1 (length S.protocol)
        (λ m there e. both_ways _ owns (ap (λ j. holds (owner_of S j) a) (sym e) ∙ there)))))

-- ---- a step
-- each test fails
abbrev AllFail : List (Bool × Refusal) → Type 0
AllFail [] = Unit {0}
AllFail (check ∷ checks) = (check.0 ≡ false) × AllFail checks

-- a refused step changes nothing
unless_all :
    (P : Reply → Type 0) (tests : List (Bool × Refusal)) (r : Reply)
    → ((e : Refusal) → P (Reply.Refused e))
    → (AllFail tests → P r)
    → P (unless tests r)
unless_all P [] r refused last = last tt
unless_all P ((true, e) ∷ tests) r refused last = refused e
unless_all P ((false, e) ∷ tests) r refused last = unless_all P tests r refused (λ f. last (refl, f))

-- what is listed once the step of the actor a has this reply
abbrev Lists : State → ℕ → Op → Reply → Type 0
Lists S a op r =
    filter_map (with_its_owner (after_reply S a op r)) (released_then (released_at_once S a op) (unlocked op) r)
    ≡ handed_mutexes S (after_reply S a op r)

abbrev by : ℕ → Op → Step
by a op = record { actor = a; op = op }

-- the replies to a step, one after another
module _ (S : State) (a : ℕ) (op : Op) (P : Reply → Type 0) (refused : (e : Refusal) → P (Reply.Refused e)) where
  each_reply :
      (AllFail (first_checks S (by a op)) → AllFail (checks S a op) → P (served S a op))
      → P (reply_of S (by a op))
  each_reply last =
      unless_all P (first_checks S (by a op)) (answer S a op) refused
      (λ may. unless_all P (checks S a op) (served S a op) refused (last may))

-- a mutex that is granted was free, or has the same owner
granted_unhanded :
    (S : State) (a m k : ℕ)
    → is_busy S a m ≡ false
    → (owner_of (granted S a m) k ≡ owner_of S k) ⊎ ((owner_of S k ≡ None) ⊎ (owner_of (granted S a m) k ≡ None))
granted_unhanded S a m k open' = go (relocks S a m) refl (cases_eq k m)
  where
    free : relocks S a m ≡ false → owner_of S m ≡ None
    free first = none_from (owner_of S m) (sym (and_true (is_owned S m)) ∙ ap (λ b. is_owned S m && not b) (sym first) ∙ open')
      where
        none_from : (o : Option ℕ) → is_some o ≡ false → o ≡ None
        none_from None e = refl
        none_from (Some t) e = cc

        and_true : (b : Bool) → (b && true) ≡ b
        and_true true = refl
        and_true false = refl

    go :
        (b : Bool)
        → relocks S a m ≡ b
        → (k ≡ m) ⊎ (k ≢ m)
        → (owner_of (if b then with_count S m (count_of S m + 1) else with_owner S m (Some a)) k ≡ owner_of S k)
        ⊎ ((owner_of S k ≡ None)
        ⊎ (owner_of (if b then with_count S m (count_of S m + 1) else with_owner S m (Some a)) k ≡ None))
    go true again at = inl refl
    go false first (inl is) = inr (inl (ap (owner_of S) is ∙ free first))
    go false first (inr ne) = inl (ap (λ o. unwrap_or o None) (nth-put_other S.owner m k (Some a) (λ e. ne (sym e))))

-- a mutex that no task waited for is free
freed_unhanded :
    (S : State) (m k : ℕ)
    → first_of S m ≡ None
    → (owner_of (hand_over S m) k ≡ owner_of S k) ⊎ ((owner_of S k ≡ None) ⊎ (owner_of (hand_over S m) k ≡ None))
freed_unhanded S m k none = go (cases_eq k m)
  where
    go :
        (k ≡ m) ⊎ (k ≢ m)
        → (owner_of (hand_over S m) k ≡ owner_of S k) ⊎ ((owner_of S k ≡ None) ⊎ (owner_of (hand_over S m) k ≡ None))
    go (inl is) =
        inr (inr (ap (owner_of (hand_over S m)) is ∙ ap (λ o. owner_of (hand_over_to S m o) m) none
        ∙ elim (unwrap_or-put_same S.owner m None) [ inl h ↦ h | inr h ↦ h ]))
    go (inr ne) = inl (owner_of-hand_over_other S m k (λ e. ne (sym e)))

known_mutex : (S : State) (m : ℕ) → unknown_mutex S m ≡ false → IsMutex S m
known_mutex S m h = grind (arith, nat_tests)

holds_owner : (S : State) (m a : ℕ) → not (holds (owner_of S m) a) ≡ false → owner_of S m ≡ Some a
holds_owner S m a h = from_holds (owner_of S m) a (go (holds (owner_of S m) a) h)
  where
    go : (b : Bool) → not b ≡ false → b ≡ true
    go true e = refl
    go false e = cc

-- the one mutex that an unlock hands over
by_unlock : (S : State) (a m : ℕ) → IsSteady S → Lists S a (Op.Unlock m) (reply_of S (by a (Op.Unlock m)))
by_unlock S a m steady =
    each_reply S a (Op.Unlock m) (Lists S a (Op.Unlock m)) (λ e. none_handed_same S)
    (λ may open'. go (is_kept S m)
    (λ o is. handed_now o is (known_mutex S m open'.0) (holds_owner S m a open'.1.0) (idle_from_tests S a may.1.0)))
  where
    handed_now :
        (o : Option Waiter)
        → first_of S m ≡ o
        → IsMutex S m
        → owner_of S m ≡ Some a
        → wait_of S a ≡ None
        → Lists S a (Op.Unlock m) (handed o)
    handed_now None is known owns idle = none_handed S (hand_over S m) (λ k. freed_unhanded S m k is)
    handed_now (Some w) is known owns idle = handed_by_unlock S m a steady known owns idle

    go :
        (b : Bool)
        → ((o : Option Waiter) → first_of S m ≡ o → Lists S a (Op.Unlock m) (handed o))
        → Lists S a (Op.Unlock m) (if b then Reply.Kept else handed (first_of S m))
    go true last = none_handed S (with_count S m (count_of S m - 1)) (λ k. inl refl)
    go false last = last (first_of S m) refl

-- all that are released
by_release : (S : State) (a : ℕ) → IsSteady S → Lists S a Op.ReleaseAll (reply_of S (by a Op.ReleaseAll))
by_release S a steady = go (unknown_task S a) (is_waiting S a) refl
  where
    reply : Bool → Bool → Reply
    reply u w =
        unless ((u, Refusal.NoTask) ∷ (w && not false, Refusal.Waiting) ∷ []) (Reply.Released (length (owned S a)))

    go :
        (u w : Bool)
        → is_waiting S a ≡ w
        → filter_map (with_its_owner (after_reply S a Op.ReleaseAll (reply u w))) (if u || w then [] else owned S a)
        ≡ handed_mutexes S (after_reply S a Op.ReleaseAll (reply u w))
    go true w is = none_handed_same S
    go false true is = none_handed_same S
    go false false is = handed_by_release S a steady (idle_from_tests S a (ap (λ b. b && not false) is))

by_op : (S : State) (a : ℕ) (op : Op) → IsSteady S → Lists S a op (reply_of S (by a op))
by_op S a (Op.Lock m) steady =
    each_reply S a (Op.Lock m) (Lists S a (Op.Lock m)) (λ e. none_handed_same S) (λ _ _. go (is_busy S a m) refl)
  where
    go : (b : Bool) → is_busy S a m ≡ b → Lists S a (Op.Lock m) (if b then Reply.Queued else Reply.Granted)
    go true busy = none_handed S (queued S a m) (λ k. inl refl)
    go false open' = none_handed S (granted S a m) (λ k. granted_unhanded S a m k open')
by_op S a (Op.Try m) steady =
    each_reply S a (Op.Try m) (Lists S a (Op.Try m)) (λ e. none_handed_same S)
    (λ _ open'. none_handed S (granted S a m) (λ k. granted_unhanded S a m k open'.1.1.1.0))
by_op S a (Op.Unlock m) steady = by_unlock S a m steady
by_op S a Op.ReleaseAll steady = by_release S a steady
by_op S a (Op.Cancel t) steady =
    each_reply S a (Op.Cancel t) (Lists S a (Op.Cancel t)) (λ e. none_handed_same S)
    (λ _ _. none_handed S (with_wait S t None) (λ k. inl refl))
by_op S a (Op.SetBase t p) steady =
    each_reply S a (Op.SetBase t p) (Lists S a (Op.SetBase t p)) (λ e. none_handed_same S)
    (λ _ _. none_handed S (with_base S t p) (λ k. inl refl))
by_op S a (Op.SetCeiling m p) steady =
    each_reply S a (Op.SetCeiling m p) (Lists S a (Op.SetCeiling m p)) (λ e. none_handed_same S)
    (λ _ _. none_handed S (with_ceiling S m p) (λ k. inl refl))

-- what is listed after a step
pub handed_by_step :
    (S : State) (step : Step)
    → IsSteady S
    → filter_map (with_its_owner (after S step))
    (released_then (released_at_once S step.actor step.op) (unlocked step.op) (reply_of S step))
    ≡ handed_mutexes S (after S step)
handed_by_step S step steady = by_op S step.actor step.op steady

-- only a known mutex is handed over by an unlock
known_op :
    (S : State) (a : ℕ) (op : Op) (m t : ℕ)
    → unlocked op ≡ Some m
    → reply_of S (by a op) ≡ Reply.Handed t
    → IsMutex S m
known_op S a (Op.Unlock k) m t is =
    subst (λ j. reply_of S (by a (Op.Unlock k)) ≡ Reply.Handed t → IsMutex S j) (same_Some k m is)
    (each_reply S a (Op.Unlock k) (λ r. r ≡ Reply.Handed t → IsMutex S k) (λ e no'. cc)
    (λ _ open' _. known_mutex S k open'.0))
known_op S a (Op.Lock k) m t is = cc
known_op S a (Op.Try k) m t is = cc
known_op S a Op.ReleaseAll m t is = cc
known_op S a (Op.Cancel u) m t is = cc
known_op S a (Op.SetBase u p) m t is = cc
known_op S a (Op.SetCeiling k p) m t is = cc

pub unlocked_known :
    (S : State) (step : Step) (m t : ℕ)
    → unlocked step.op ≡ Some m
    → reply_of S step ≡ Reply.Handed t
    → IsMutex S m
unlocked_known S step m t is handed = known_op S step.actor step.op m t is handed
