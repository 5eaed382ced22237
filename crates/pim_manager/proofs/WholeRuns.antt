-- Many steps are a run.
use Rattle.std.proofs.Common.{◌≡◌, List, [], ◌∷◌, ◌++◌, length, fold, refl, ap, arith}
use Rattle.std.proofs.Common.{ℕ, ◌<◌, take}
use Rattle.std.proofs.lemmas.Grind.{common_steps}
use Rattle.pim_base.specs.State.{State}
use Rattle.pim_base.specs.Steps.{reply_of, after}
use Rattle.pim_base.specs.Runs.{IsRun}
use Rattle.pim_base.specs.declared.steps.Step.{Step}
use Rattle.pim_base.specs.declared.steps.Reply.{Reply}
use Rattle.pim_manager.specs.Entries.{entries, replies_of}

-- steps with the model's replies are a run
pub is_run : (steps : List Step) (S : State) → IsRun S (entries steps (replies_of S steps)) (fold after S steps)
is_run [] S = refl
is_run (step ∷ steps) S = (refl, is_run steps (after S step))

-- a run may go on with one step more
pub run_more :
    (steps : List Step) (replies : List Reply) (S T : State) (step : Step)
    → length replies ≡ length steps
    → IsRun S (entries steps replies) T
    → IsRun S (entries (steps ++ step ∷ []) (replies ++ reply_of T step ∷ [])) (after T step)
run_more [] [] S T step same run = (ap (λ X. reply_of X step) run, ap (λ X. after X step) run)
run_more [] (r ∷ rs) S T step same run = absurd (omega (arith, same))
run_more (s ∷ ss) [] S T step same run = absurd (omega (arith, same))
run_more (s ∷ ss) (r ∷ rs) S T step same run = (run.0, run_more ss rs (after S s) T step (omega (arith, same)) run.1)

pub length-take_below : {X : Type 0} (n : ℕ) (xs : List X) → n < length xs → length (take n xs) ≡ n
length-take_below n xs below = grind (arith, common_steps)
