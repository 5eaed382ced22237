-- What is kept of the levels at which threads run: docs/ROWS.md, 'ran'.
use Rattle.std.specs.Prelude.{◌≡◌, ℕ, Bool, true, false, List, Option, Some, None, map, unwrap_or}
use Rattle.std.specs.List.{fold}
use Rattle.pim_fact_lines.specs.declared.line.Line.{Line}
use Rattle.pim_fact_lines.specs.declared.line.Line.TheVariants as lines
use Rattle.pim_world.specs.Worlds.{World}
use Rattle.pim_world.specs.After.{after, set}
use Rattle.pim_rows.specs.declared.runs.RunChange.{RunChange}
use Rattle.pim_world.specs.Standing.{runs_of}
use Rattle.pim_rows.specs.Begun.{run_apart}
use Rattle.pim_rows.specs.Runs.{AreChanges, change_of, is_runs}

-- of each thread it is kept at which level the kernel runs it and what it gets, if these are
-- different
abbrev pub AreLevels : (ℕ → Option (Option (ℕ × ℕ))) → World → Type 0
AreLevels kept w = (t : ℕ) → unwrap_or (kept t) None ≡ run_apart w t

-- what is kept with what these changes say
abbrev pub with_levels :
    (ℕ → Option (Option (ℕ × ℕ)))
    → List RunChange
    → ℕ
    → Option (Option (ℕ × ℕ))
with_levels kept cs = fold (λ kept c. set c.thread (Some c.now) kept) kept cs

-- only of these threads the line may change the levels
abbrev pub MayChange : World → Line → List ℕ → Type 0
MayChange w l ts =
    (cs : List RunChange) → cs ≡ map (change_of w (after w l)) ts → AreChanges w (after w l) ts cs

-- of no thread a level is known before the line, and the line says none
abbrev pub IsUnrun : World → Line → Type 0
IsUnrun w l = (is_runs l ≡ false) × ((t : ℕ) → runs_of w t ≡ None)

-- the line declares something, or forgets what the kernel did
abbrev pub moves_all : Line → Bool
moves_all (lines.Thread t level) = true
moves_all (lines.Mutex m is_recursive protocol) = true
moves_all (lines.Object x) = false
moves_all lines.Unseen = false
moves_all (lines.Fact time t what) = false
moves_all (lines.Lost time) = true
moves_all (lines.End time) = false
