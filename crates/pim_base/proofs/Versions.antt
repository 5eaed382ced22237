-- Lines and texts of both versions, as the definitions spell them and take them: which version has which line. These
-- theorems are checked with the crate, and show that the definitions say what is meant.
use Rattle.std.proofs.Common.{◌≡◌, ◌≤◌, ℕ, [], ◌∷◌, Option, Some, None, codes, refl, arith, rules}
use Rattle.std.specs.Fmt.{digits}
use Rattle.pim_base.specs.Spelling.{version_line, spelled}
use Rattle.pim_base.specs.Texts.{Trace, IsWithinLimits, spelled_lines}
use Rattle.pim_base.specs.declared.lines.Line.TheVariants as lines
use Rattle.pim_base.specs.declared.lines.StepLine.{StepLine}
use Rattle.pim_base.specs.declared.steps.Op.{Op}
use Rattle.pim_base.specs.declared.steps.Op.TheVariants.{Lock, Unlock, SetCeiling}
use Rattle.pim_base.specs.declared.steps.Protocol.{Protocol}
use Rattle.pim_base.specs.declared.steps.Refusal.{Refusal}
use Rattle.pim_base.specs.declared.steps.Reply.{Reply}
use Rattle.pim_base.specs.declared.steps.Reply.TheVariants.{Kept, Refused}

pub first_version : version_line 1 ≡ codes "pim 1"
unfolding digits
first_version = refl

pub second_version : version_line 2 ≡ codes "pim 2"
unfolding digits
second_version = refl

-- task 1 asks for this, and this reply is recorded
abbrev asks : Op → Option Reply → StepLine
asks op recorded = record { step = record { actor = 1; op = op }; recorded = recorded }

-- a task, a PROTECT mutex, and one step
abbrev text : ℕ → StepLine → Trace
text version line = record { version = version; bases = 10 ∷ []; protocols = Protocol.Protect 40 ∷ []; steps = line ∷ [] }

abbrev ceil : StepLine
ceil = asks (SetCeiling 1 30) None

abbrev recorded_not_protect : StepLine
recorded_not_protect = asks (Lock 1) (Some (Refused Refusal.NotProtect))

spelled_in_full :
    spelled_lines (text 2 ceil)
    ≡ codes "pim 2" ∷ codes "task 1 10" ∷ codes "mutex 1 protect 40" ∷ codes "1 ceil 1 30" ∷ []
unfolding digits
spelled_in_full = refl

spelled_not_protect : spelled (lines.Step recorded_not_protect) ≡ codes "1 lock 1 = refused not-protect"
unfolding digits
spelled_not_protect = refl

ceil_in_version_2 : IsWithinLimits (text 2 ceil)
ceil_in_version_2 = search rules

ceil_in_version_1 : ¬ IsWithinLimits (text 1 ceil)
ceil_in_version_1 h = let late : 2 ≤ 1 = h.belongs.1.1.0 in omega (arith, late)

not_protect_in_version_2 : IsWithinLimits (text 2 recorded_not_protect)
not_protect_in_version_2 = search rules

not_protect_in_version_1 : ¬ IsWithinLimits (text 1 recorded_not_protect)
not_protect_in_version_1 h = let late : 2 ≤ 1 = h.belongs.1.1.0 in omega (arith, late)

-- a task, a recursive mutex, and one step
abbrev recursive_text : ℕ → Trace
recursive_text version =
    let mutex = Protocol.InheritRecursive in
    record { version = version; bases = 10 ∷ []; protocols = mutex ∷ []; steps = asks (Lock 1) None ∷ [] }

abbrev recorded_kept : StepLine
recorded_kept = asks (Unlock 1) (Some Kept)

abbrev recorded_again : StepLine
recorded_again = asks (Lock 1) (Some (Refused Refusal.Again))

spelled_recursive :
    spelled_lines (recursive_text 2)
    ≡ codes "pim 2" ∷ codes "task 1 10" ∷ codes "mutex 1 inherit recursive" ∷ codes "1 lock 1" ∷ []
unfolding digits
spelled_recursive = refl

spelled_kept : spelled (lines.Step recorded_kept) ≡ codes "1 unlock 1 = kept"
unfolding digits
spelled_kept = refl

spelled_again : spelled (lines.Step recorded_again) ≡ codes "1 lock 1 = refused again"
unfolding digits
spelled_again = refl

recursive_in_version_2 : IsWithinLimits (recursive_text 2)
recursive_in_version_2 = search rules

recursive_in_version_1 : ¬ IsWithinLimits (recursive_text 1)
recursive_in_version_1 h = let late : 2 ≤ 1 = h.belongs.1.0 in omega (arith, late)

kept_and_again_in_version_2 : IsWithinLimits (text 2 recorded_kept) × IsWithinLimits (text 2 recorded_again)
kept_and_again_in_version_2 = search rules

kept_in_version_1 : ¬ IsWithinLimits (text 1 recorded_kept)
kept_in_version_1 h = let late : 2 ≤ 1 = h.belongs.1.1.0 in omega (arith, late)

again_in_version_1 : ¬ IsWithinLimits (text 1 recorded_again)
again_in_version_1 h = let late : 2 ≤ 1 = h.belongs.1.1.0 in omega (arith, late)

lock_in_both_versions : IsWithinLimits (text 1 (asks (Lock 1) None)) × IsWithinLimits (text 2 (asks (Lock 1) None))
lock_in_both_versions = search rules

version_3 : ¬ IsWithinLimits (text 3 (asks (Lock 1) None))
version_3 h = let late : 3 ≤ 2 = h.version.1 in omega (arith, late)
