-- A log of one task beside scripts that it is an interleaving of, and that it is not. Nothing cites these theorems:
-- they are checked with the crate, and show that the definition says what is meant.
use Rattle.std.proofs.Common.{◌≡◌, ◌≤◌, List, [], ◌∷◌, refl, arith, rules}
use Rattle.pim_base.specs.Runs.{IsInterleaving, asked_by}
use Rattle.pim_base.specs.declared.steps.Entry.{Entry}
use Rattle.pim_base.specs.declared.steps.Op.TheVariants.{Lock, Unlock, ReleaseAll}
use Rattle.pim_base.specs.declared.steps.Reply.{Reply}

-- task 1 locks mutex 1 and releases all
abbrev locked_and_released : List Entry
locked_and_released =
    record { step = record { actor = 1; op = Lock 1 }; reply = Reply.Granted }
    ∷ record { step = record { actor = 1; op = ReleaseAll }; reply = Reply.Released 1 }
    ∷ []

one_script : IsInterleaving locked_and_released ((Lock 1 ∷ []) ∷ [])
one_script = search rules

-- a line of the script is missing
missing_line : ¬ IsInterleaving locked_and_released ((Lock 1 ∷ Unlock 1 ∷ []) ∷ [])
missing_line h = let e : asked_by 1 locked_and_released ≡ Lock 1 ∷ Unlock 1 ∷ ReleaseAll ∷ [] = h.each 1 (Lock 1 ∷ Unlock 1 ∷ []) refl in cc

-- a script that releases all has one release more
missing_release : ¬ IsInterleaving locked_and_released ((Lock 1 ∷ ReleaseAll ∷ []) ∷ [])
missing_release h = let e : asked_by 1 locked_and_released ≡ Lock 1 ∷ ReleaseAll ∷ ReleaseAll ∷ [] = h.each 1 (Lock 1 ∷ ReleaseAll ∷ []) refl in cc

-- the empty script has a release alone
line_of_no_script : ¬ IsInterleaving locked_and_released ([] ∷ [])
line_of_no_script h = let e : asked_by 1 locked_and_released ≡ ReleaseAll ∷ [] = h.each 1 [] refl in cc

-- a task without a script has no step
step_of_no_task : ¬ IsInterleaving locked_and_released []
step_of_no_task h = let low : 1 ≤ 0 = (h.no_other 0 (record { step = record { actor = 1; op = Lock 1 }; reply = Reply.Granted }) (omega arith)).1 in omega (arith, low)
