-- What each step keeps: it is enough to look at the changes of one fact.
use Rattle.std.proofs.Common.{◌≡◌, ◌==◌, ◌+◌, ◌-◌, ℕ, Bool, true, false, not, ◌&&◌, List, [], ◌∷◌, Some, None, refl, arith, fold, rules}
use Rattle.std.proofs.lemmas.Bool.Decides.{nat_tests}
use Rattle.pim_base.specs.State.{State, IsTask, wait_of, count_of, relocks, with_owner, with_count, with_wait, with_base, with_ceiling, queued}
use Rattle.pim_base.specs.Chains.{leads_back}
use Rattle.pim_base.specs.Checks.{unknown_task, is_waiting, is_owned, not_protect, first_checks, checks, withdraws_itself}
use Rattle.pim_base.specs.Steps.{is_kept, hand_over, unless, served, answer, after_reply, after}
use Rattle.pim_base.specs.declared.limits.TheConstants.{MAX_COUNT}
use Rattle.pim_base.specs.declared.steps.Op.{Op}
use Rattle.pim_base.specs.declared.steps.Step.{Step}
use Rattle.pim_base.specs.declared.steps.Refusal.{Refusal}
use Rattle.pim_base.specs.declared.steps.Reply.{Reply}

-- each change of one fact that a step makes keeps P
pub record IsKeptBySteps (P : State → Type 0) : Type 0 where
  pub grant : (S : State) (a m : ℕ) → P S → wait_of S a ≡ None → P (with_owner S m (Some a))
  pub lock_again :
      (S : State) (a m : ℕ)
      → P S
      → relocks S a m ≡ true
      → (count_of S m == MAX_COUNT) ≡ false
      → P (with_count S m (count_of S m + 1))
  pub keep : (S : State) (m : ℕ) → P S → is_kept S m ≡ true → P (with_count S m (count_of S m - 1))
  pub enqueue :
      (S : State) (a m : ℕ)
      → P S
      → IsTask S a
      → wait_of S a ≡ None
      → leads_back S a m ≡ false
      → is_owned S m ≡ true
      → P (queued S a m)
  pub hand : (S : State) (m : ℕ) → P S → P (hand_over S m)
  pub withdraw : (S : State) (t : ℕ) → P S → P (with_wait S t None)
  pub set_base : (S : State) (t p : ℕ) → P S → P (with_base S t p)
  pub set_ceiling : (S : State) (m p : ℕ) → P S → not_protect S m ≡ false → P (with_ceiling S m p)

hands_kept : (P : State → Type 0) → IsKeptBySteps P → (ms : List ℕ) (S : State) → P S → P (fold hand_over S ms)
hands_kept P kept [] S ok = ok
hands_kept P kept (m ∷ ms) S ok = hands_kept P kept ms (hand_over S m) (kept.hand S m ok)

-- each test fails
abbrev AllFail : List (Bool × Refusal) → Type 0
AllFail [] = Unit {0}
AllFail (check ∷ checks) = (check.0 ≡ false) × AllFail checks

pub idle_from_tests : (S : State) (a : ℕ) → (is_waiting S a && not false) ≡ false → wait_of S a ≡ None
idle_from_tests S a h = search rules

served_kept :
    (P : State → Type 0) (S : State) (a : ℕ) (op : Op)
    → IsKeptBySteps P
    → IsTask S a
    → (is_waiting S a && not (withdraws_itself a op)) ≡ false
    → P S
    → AllFail (checks S a op)
    → P (after_reply S a op (served S a op))
served_kept P S a op kept task h ok f = grind (arith, idle_from_tests, hands_kept)

pub known_from_tests : (S : State) (a : ℕ) → unknown_task S a ≡ false → IsTask S a
known_from_tests S a h = grind (arith, nat_tests)

-- a refused step changes nothing
unless_kept :
    (P : State → Type 0) (S : State) (a : ℕ) (op : Op) (tests : List (Bool × Refusal)) (r : Reply)
    → P S
    → (AllFail tests → P (after_reply S a op r))
    → P (after_reply S a op (unless tests r))
unless_kept P S a op [] r ok last = last tt
unless_kept P S a op ((true, e) ∷ tests) r ok last = ok
unless_kept P S a op ((false, e) ∷ tests) r ok last = unless_kept P S a op tests r ok (λ f. last (refl, f))

pub kept_by_step : (P : State → Type 0) → IsKeptBySteps P → (S : State) (step : Step) → P S → P (after S step)
kept_by_step P kept S step ok =
    let a = step.actor in
    let op = step.op in
    unless_kept P S a op (first_checks S step) (answer S a op) ok
    (λ may. unless_kept P S a op (checks S a op) (served S a op) ok
    (λ open'. served_kept P S a op kept (known_from_tests S a may.0) may.1.0 ok open'))
