-- The thread that has to run.
use Rattle.std.proofs.Common.{◌≡◌, ◌≢◌, ℕ, ◌==◌, ◌||◌, Bool, true, false, cond, Option, Some, None}
use Rattle.std.proofs.Common.{is_some, option_and_then, refl, sym, ◌∙◌, ap}
use Rattle.std.proofs.lemmas.Bool.{eq-eqb}
use Rattle.std.proofs.lemmas.Option.{same_Some}
use Rattle.pim_base.specs.State.{State}
use Rattle.pim_base.specs.Chains.{blocker}
use Rattle.pim_waits.specs.Waiting.{way, runner, other_end, last_item}
use Rattle.pim_waits.specs.Laws.{RunnerLaw}
use Rattle.pim_waits.proofs.Ways.{contains-last_item}

pub other_end-same : (S : State) (t u v : ℕ) → other_end S t u ≡ Some v → u ≡ v
other_end-same S t u v e = go (u == t) (is_some (blocker S u)) e
  where
    go : (a b : Bool) → cond (a || b) None (Some u) ≡ Some v → u ≡ v
    go true b h = cc
    go false true h = cc
    go false false h = same_Some u v h

other_end-other : (S : State) (t u v : ℕ) → other_end S t u ≡ Some v → u ≢ t
other_end-other S t u v e same =
    go (is_some (blocker S u))
    (ap (λ b. cond (b || is_some (blocker S u)) None (Some u)) (sym (eq-eqb u t same)) ∙ e)
  where
    go : (b : Bool) → cond (true || b) None (Some u) ≡ Some v → ⊥
    go b h = cc

other_end-free : (S : State) (t u v : ℕ) → other_end S t u ≡ Some v → blocker S u ≡ None
other_end-free S t u v e = go (u == t) (blocker S u) e
  where
    go : (a : Bool) (o : Option ℕ) → cond (a || is_some o) None (Some u) ≡ Some v → o ≡ None
    go true o h = cc
    go false None h = refl
    go false (Some x) h = cc

-- a runner is where the way ends
pub runner-last :
    (S : State) (t u : ℕ)
    → runner S t ≡ Some u
    → (last_item (way S t) ≡ Some u) × (other_end S t u ≡ Some u)
runner-last S t u e = go (last_item (way S t)) refl e
  where
    go :
        (o : Option ℕ)
        → last_item (way S t) ≡ o
        → option_and_then (other_end S t) o ≡ Some u
        → (last_item (way S t) ≡ Some u) × (other_end S t u ≡ Some u)
    go None at h = cc
    go (Some v) at h =
        let same : v ≡ u = other_end-same S t v u h in
        (at ∙ ap Some same, ap (other_end S t) (sym same) ∙ h)

pub runner_law : RunnerLaw
runner_law S t u e =
    let last = runner-last S t u e in
    record {
      on_way = contains-last_item (way S t) u last.0;
      other = other_end-other S t u u last.1;
      free = other_end-free S t u u last.1;
    }
