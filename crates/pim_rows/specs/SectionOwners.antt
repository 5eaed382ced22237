-- Who owns a mutex during a section: docs/ROWS.md, 'section'.
use Rattle.std.specs.Prelude.{◌≡◌, ℕ, Bool, true, false, List, [], ◌∷◌, Some}
use Rattle.pim_base.specs.State.{owner_of}
use Rattle.pim_fact_lines.specs.declared.line.Line.{Line}
use Rattle.pim_world.specs.Worlds.{World}
use Rattle.pim_rows.specs.Moments.{Moment, now, began}
use Rattle.pim_rows.specs.Begun.{is_owned, grant}
use Rattle.pim_rows.specs.Rows.{moments_of}

-- this is so, if that holds
abbrev pub If : Bool → Type 0 → Type 0
If true so = so
If false so = Unit {0}

-- this is so after the newest line, and after each one before it, back to the line by which it came
-- to hold
abbrev pub Since : (World → Bool) → (World → Type 0) → List Moment → Type 0
Since holds so [] = Unit {0}
Since holds so (m ∷ ms) = so m.world × If (holds (now ms)) (Since holds so ms)

-- t has owned m since the section that lasts began, and the section is that of t
pub record IsSectionOf (m t : ℕ) (ms : List Moment) : Type 0 where
  pub since : Since (is_owned m) (λ w. owner_of w.state m ≡ Some t) ms
  pub owner : (grant m (began (is_owned m) ms)).owner ≡ t

-- A section is of the thread that owns the mutex after each line of it.
abbrev pub SectionOwnerLaw : Type 0
SectionOwnerLaw =
    (ls : List Line) (m t : ℕ)
    → owner_of (now (moments_of ls)).state m ≡ Some t
    → IsSectionOf m t (moments_of ls)
