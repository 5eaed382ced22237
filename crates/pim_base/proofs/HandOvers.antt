-- Mutexes handed over one after another, in ascending order.
use Rattle.std.proofs.Common.{◌≡◌, ◌≢◌, ◌⊎◌, inl, inr, ℕ, zero, suc, ◌+◌, ◌<◌, ◌≤◌, arith, sym, Bool, true, false, [], ◌∷◌, ◌++◌, filter, length, length-append, Option, Some, None, refl, ◌∙◌, ap, fold, unwrap_or, eq-or-lt_of_le, rules}
use Rattle.std.proofs.lemmas.Bool.{cases_eq}
use Rattle.std.proofs.lemmas.List.Sums.{fold-append}
use Rattle.pim_base.specs.Lists.{holds, numbers}
use Rattle.pim_base.specs.State.{State, owner_of, wait_of, with_owner, with_wait}
use Rattle.pim_base.specs.Queues.{first_of}
use Rattle.pim_base.specs.Steps.{hand_over, hand_over_to}
use Rattle.pim_base.specs.declared.steps.Waiter.{Waiter}
use Rattle.pim_base.proofs.Places.{nth-put_other}
use Rattle.pim_base.proofs.NoCycle.{idle_now}
use Rattle.pim_base.proofs.Greatest.{filter_numbers-pass, filter_numbers-fail}

-- ---- the numbers that pass a test

-- numbers that fail are left out
pub filter_numbers-until :
    (p : ℕ → Bool) (n m : ℕ)
    → n ≤ m
    → ((k : ℕ) → n < k → k ≤ m → p k ≡ false)
    → filter p (numbers m) ≡ filter p (numbers n)
filter_numbers-until p n zero le none = let is : n ≡ 0 = omega arith in rw is refl
filter_numbers-until p n (suc m) le none = elim (eq-or-lt_of_le le) [
  | inl same ↦ rw same refl
  | inr less ↦
      filter_numbers-fail p (suc m) m (omega arith) (none (suc m) (omega (arith, less)) (omega arith))
      ∙ filter_numbers-until p n m (omega (arith, less)) (λ k low high. none k low (omega (arith, high)))
]

-- ---- one hand-over

pub owner_of-hand_over_other : (S : State) (m k : ℕ) → m ≢ k → owner_of (hand_over S m) k ≡ owner_of S k
owner_of-hand_over_other S m k other = grind (arith, nth-put_other)

pub protocol-hand_over : (S : State) (m : ℕ) → (hand_over S m).protocol ≡ S.protocol
protocol-hand_over S m = search rules

pub base-hand_over : (S : State) (m : ℕ) → (hand_over S m).base ≡ S.base
base-hand_over S m = search rules

-- who doesn't wait doesn't wait then either
pub idle-hand_over : (S : State) (m t : ℕ) → wait_of S t ≡ None → wait_of (hand_over S m) t ≡ None
idle-hand_over S m t idle = go (first_of S m)
  where
    go : (o : Option Waiter) → wait_of (hand_over_to S m o) t ≡ None
    go None = idle
    go (Some w) = at (cases_eq w.task t)
      where
        at : (w.task ≡ t) ⊎ (w.task ≢ t) → wait_of (with_wait (with_owner S m (Some w.task)) w.task None) t ≡ None
        at (inl is) =
            ap (wait_of (with_wait (with_owner S m (Some w.task)) w.task None)) (sym is) ∙ idle_now (with_owner S m (Some w.task)) w.task
        at (inr ne) = ap (λ v. unwrap_or v None) (nth-put_other S.wait w.task t None ne) ∙ idle

-- ---- all that a task owns, as far as the number n

-- T is left where the actor's mutexes of S up to n are handed over, k of them; the later ones have their owners
pub record IsReleasedTo (S T : State) (a n k : ℕ) : Type 0 where
  pub state : T ≡ fold hand_over S (filter (λ m. holds (owner_of S m) a) (numbers n))
  pub count : k ≡ length (filter (λ m. holds (owner_of S m) a) (numbers n))
  pub few : k ≤ n
  pub mutexes : length T.protocol ≡ length S.protocol
  pub tasks : length T.base ≡ length S.base
  pub later : (m : ℕ) → n < m → owner_of T m ≡ owner_of S m

-- none of the next numbers, up to m, is owned by the actor
pub released_past :
    (S T : State) (a n m k : ℕ)
    → n ≤ m
    → ((j : ℕ) → n < j → j ≤ m → holds (owner_of T j) a ≡ false)
    → IsReleasedTo S T a n k
    → IsReleasedTo S T a m k
released_past S T a n m k le none before = grind (arith, filter_numbers-until)

-- the actor owns the next one, which is handed over
pub released_more :
    (S T : State) (a n m k : ℕ)
    → n + 1 ≡ m
    → holds (owner_of T m) a ≡ true
    → IsReleasedTo S T a n k
    → IsReleasedTo S (hand_over T m) a m (k + 1)
released_more S T a n m k e owns before = record {
  state =
      ap (λ U. hand_over U m) before.state ∙ sym (fold-append hand_over S (filter p (numbers n)) (m ∷ []))
      ∙ ap (fold hand_over S) (sym more);
  count = ap (λ j. j + 1) before.count ∙ sym (length-append (filter p (numbers n)) (m ∷ [])) ∙ ap length (sym more);
  few = omega (arith, before.few, e);
  mutexes = ap length (protocol-hand_over T m) ∙ before.mutexes;
  tasks = ap length (base-hand_over T m) ∙ before.tasks;
  later = λ j above.
      let other : m ≢ j = omega (arith, above) in owner_of-hand_over_other T m j other ∙ before.later j (omega (arith, e, above));
}
  where
    p : ℕ → Bool
    p j = holds (owner_of S j) a

    above : n < m
    above = omega (arith, e)

    more : filter p (numbers m) ≡ filter p (numbers n) ++ m ∷ []
    more = filter_numbers-pass p m n e (ap (λ o. holds o a) (sym (before.later m above)) ∙ owns)
