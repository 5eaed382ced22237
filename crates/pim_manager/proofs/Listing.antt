-- The tasks that are listed are those whose priority a step changed.
use Rattle.std.proofs.Common.{◌≡◌, ◌==◌, ◌≤◌, ◌<◌, ◌+◌, ℕ, zero, suc, Bool, true, false, not, cond, [], ◌∷◌}
use Rattle.std.proofs.Common.{List, filter, length, unwrap_or, refl, sym, if◌then◌else◌}
use Rattle.std.proofs.Common.{◌∙◌, ap, arith, Option, None, Some, IsSome, is_some}
use Rattle.std.specs.List.{AllByRecursion, range_with_len}
use Rattle.std.specs.Option.{option_and_then, option_map_or}
use Rattle.std.proofs.lemmas.Bool.{eq-eqb, ne_eqb}
use Rattle.pim_base.specs.Lists.{nth, numbers}
use Rattle.pim_base.specs.Counts.{count, changed_task_count, handed_mutex_count, same_owner}
use Rattle.pim_base.specs.State.{State, IsTask, owner_of}
use Rattle.pim_base.specs.Priorities.{effective_priority}
use Rattle.pim_base.specs.Reports.{changed_tasks}
use Rattle.pim_base.specs.Steps.{after}
use Rattle.pim_base.specs.declared.steps.Step.{Step}
use Rattle.pim_base.proofs.Counting.{count-length}
use Rattle.pim_base.proofs.Kept.{kept_by_step}
use Rattle.pim_base.proofs.Places.{length-put}
use Rattle.pim_sets.specs.Numbers.{has, members}
use Rattle.pim_sets.specs.Work.{Work, Noted, noted_in, noted_of, noted_tasks, AreChanged}
use Rattle.pim_sets.proofs.Members.{members_empty, members_known}
use Rattle.pim_manager.specs.Settled.{Worked}
use Rattle.pim_chain.proofs.Filters.{few_pass}
use Rattle.pim_base.proofs.HandOvers.{base-hand_over}

-- a step keeps the number of tasks
pub bases_after : (S : State) (step : Step) → length (after S step).base ≡ length S.base
bases_after S step =
    kept_by_step (λ T. length T.base ≡ length S.base) (grind (arith, length-put, base-hand_over)) S step refl

-- ---- notes
-- a task is in the set of the noted ones if it has a note
has-noted : (n : Noted) (t : ℕ) → has n.tasks t ≡ is_some (noted_in n t)
has-noted n t = go (has n.tasks t)
  where
    go : (b : Bool) → b ≡ is_some (if b then Some (unwrap_or (nth n.had t) 0) else None)
    go true = refl
    go false = refl

-- if nothing is noted, no task is
pub unnoted : (w : Work) → ((t : ℕ) → noted_of w t ≡ None) → noted_tasks w ≡ []
unnoted w none = go w.notes none
  where
    go :
        (n : Option Noted)
        → ((t : ℕ) → option_and_then (λ (m : Noted). noted_in m t) n ≡ None)
        → option_map_or (λ (m : Noted). members m.tasks) n [] ≡ []
    go None none = refl
    go (Some m) none = members_empty m.tasks (λ t. has-noted m t ∙ ap is_some (none t))

pub unnoted_changed : (k : ℕ) (f : ℕ → ℕ) (w : Work) → ((t : ℕ) → noted_of w t ≡ None) → AreChanged k f w
unnoted_changed k f w none t p is = let empty = none t in cc

-- ---- the changed tasks are noted, and no others
module _ (k : ℕ) (f : ℕ → ℕ) (w : Work) (changed : AreChanged k f w) where
  -- an unknown task isn't noted
  unknown : (t : ℕ) → (1 ≤ t → t ≤ k → ⊥) → is_some (noted_of w t) ≡ false
  unknown t apart = go (noted_of w t) refl
    where
      go : (o : Option ℕ) → noted_of w t ≡ o → is_some o ≡ false
      go None is = refl
      go (Some p) is = let at = changed t p is in absurd (apart at.0 at.1)

  -- a known one is if it has another priority than at first
  pub noted_if_changed :
      (was : ℕ → ℕ)
      → (t : ℕ)
      → unwrap_or (noted_of w t) (f t) ≡ was t
      → is_some (noted_of w t) ≡ not (was t == f t)
  noted_if_changed was t = go (noted_of w t) refl
    where
      go : (o : Option ℕ) → noted_of w t ≡ o → unwrap_or o (f t) ≡ was t → is_some o ≡ not (was t == f t)
      go None is had = ap not (sym (eq-eqb (was t) (f t) (sym had)))
      go (Some p) is had =
          ap not (sym (ne_eqb (was t) (f t) (λ e. (changed t p is).2 (had ∙ e))))

  -- so these are the noted ones
  pub noted_tasks-changed :
      (q : ℕ → Bool)
      → k < 320
      → ((t : ℕ) → 1 ≤ t → t ≤ k → is_some (noted_of w t) ≡ q t)
      → IsSome w.notes
      → noted_tasks w ≡ filter q (numbers k)
  noted_tasks-changed q few same kept = go w.notes refl kept
    where
      go :
          (n : Option Noted)
          → w.notes ≡ n
          → IsSome n
          → option_map_or (λ (m : Noted). members m.tasks) n [] ≡ filter q (numbers k)
      go None is some = cc
      go (Some m) is some =
          members_known m.tasks q k few
          (at 0 ∙ unknown 0 (λ low _. absurd (omega (arith, low))))
          (λ t low high. at t ∙ same t low high)
          (λ t past. at t ∙ unknown t (λ _ high. absurd (omega (arith, high, past))))
        where
          at : (t : ℕ) → has m.tasks t ≡ is_some (noted_of w t)
          at t =
              has-noted m t
              ∙ ap (λ o. is_some (option_and_then (λ (n : Noted). noted_in n t) o)) (sym is)

  -- they are no more than there are tasks
  pub noted_few : k < 320 → IsSome w.notes → length (noted_tasks w) ≤ k
  noted_few few kept =
      let listed = ap length (noted_tasks-changed (λ t. is_some (noted_of w t)) few (λ t _ _. refl) kept) in
      let most = few_pass (λ t. is_some (noted_of w t)) 1 k in
      omega (arith, listed, most)

-- if nothing was noted before, the noted tasks are those that changed
pub noted_tasks_of_step :
    (S T : State) (a b : Work)
    → length S.base < 320
    → Worked S a T b
    → IsSome a.notes
    → ((t : ℕ) → noted_of a t ≡ None)
    → noted_tasks b ≡ changed_tasks S T
noted_tasks_of_step S T a b few work kept none =
    noted_tasks-changed (length S.base) (effective_priority T) b changed
    (λ t. not (effective_priority S t == effective_priority T t)) few
    (λ t low high. noted_if_changed (length S.base) (effective_priority T) b changed (effective_priority S) t
    (work.noted.1 kept t low high ∙ ap (λ o. unwrap_or o (effective_priority S t)) (none t)))
    (work.noted.0 ∙ kept)
  where
    changed : AreChanged (length S.base) (effective_priority T) b
    changed = work.noted.2 (unnoted_changed (length S.base) (effective_priority S) a none)

-- ---- all that are noted are known
-- what holds of all that pass holds of those that are left
pub each_passing :
    (P : ℕ → Type 0) (p : ℕ → Bool) (a n : ℕ)
    → ((t : ℕ) → p t ≡ true → P t)
    → AllByRecursion P (filter p (range_with_len a n))
each_passing P p a zero known = tt
each_passing P p a (suc n) known = go (p a) refl (each_passing P p (a + 1) n known)
  where
    more : List ℕ
    more = filter p (range_with_len (a + 1) n)

    go : (b : Bool) → p a ≡ b → AllByRecursion P more → AllByRecursion P (cond b (a ∷ more) more)
    go true is rest = (known a is, rest)
    go false is rest = rest

pub noted_known :
    (S : State) (f : ℕ → ℕ) (w : Work)
    → AreChanged (length S.base) f w
    → AllByRecursion (IsTask S) (noted_tasks w)
unfolding members
noted_known S f w changed = go w.notes refl
  where
    go :
        (n : Option Noted)
        → w.notes ≡ n
        → AllByRecursion (IsTask S) (option_map_or (λ (m : Noted). members m.tasks) n [])
    go None is = tt
    go (Some m) is = each_passing (IsTask S) (has m.tasks) 0 320 known
      where
        known : (t : ℕ) → has m.tasks t ≡ true → IsTask S t
        known t there = with_note (noted_of w t) refl
            (ap (λ o. is_some (option_and_then (λ (n : Noted). noted_in n t) o)) is ∙ sym (has-noted m t) ∙ there)
          where
            with_note : (o : Option ℕ) → noted_of w t ≡ o → is_some o ≡ true → IsTask S t
            with_note None at some = cc
            with_note (Some p) at some = let known = changed t p at in (known.0, known.1)

-- ---- how many change
count-few : (n : ℕ) (p : ℕ → Bool) → count n p ≤ n
count-few n p = omega (arith, count-length n p, few_pass p 1 n)

pub changed_few : (S T : State) → changed_task_count S T ≤ length S.base
changed_few S T = count-few (length S.base) (λ t. not (effective_priority S t == effective_priority T t))

pub handed_few : (S T : State) → handed_mutex_count S T ≤ length S.protocol
handed_few S T = count-few (length S.protocol) (λ m. not (same_owner (owner_of S m) (owner_of T m)))
