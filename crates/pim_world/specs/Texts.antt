-- Which lines are a text of facts, what it says, and which line is the first invalid one.
use Rattle.std.specs.Prelude.{◌≡◌, ℕ, ◌-◌, ◌<◌, ◌⊎◌, List, [], ◌∷◌, take, IsSome, Option, Some}
use Rattle.std.specs.Prelude.{None, if◌then◌else◌}
use Rattle.std.specs.Option.{option_map}
use Rattle.pim_fact_lines.specs.declared.line.Line.{Line}
use Rattle.pim_fact_lines.specs.Lines.{given, line_of}
use Rattle.pim_fact_lines.specs.Texts.{is_header}
use Rattle.pim_world.specs.declared.fault.FactsFault.{FactsFault}
use Rattle.pim_world.specs.declared.fault.FactsFault.TheVariants as faults
use Rattle.pim_world.specs.Worlds.{World, no_world}
use Rattle.pim_world.specs.Following.{may_follow}
use Rattle.pim_world.specs.After.{after}

-- the line that the bytes spell, if it may follow those so far
abbrev pub line_after : World → List ℕ → Option Line
line_after w bytes = given (line_of bytes) (λ line. if may_follow w line then Some line else None)

-- the lines that all of these spell, if each may follow those before it
abbrev pub lines_after : World → List (List ℕ) → Option (List Line)
lines_after w [] = Some []
lines_after w (bytes ∷ ls) =
    given (line_after w bytes)
    (λ line. option_map (λ more. line ∷ more) (lines_after (after w line) ls))

-- the lines after the first, which is the version, if these are the lines of a text
abbrev pub lines_in : List (List ℕ) → Option (List Line)
lines_in [] = None
lines_in (first ∷ ls) = if is_header first then lines_after no_world ls else None

-- the lines are those of a text
abbrev pub IsText : List (List ℕ) → Type 0
IsText ls = IsSome (lines_in ls)

-- the lines are a text, and it says this after the first of them
abbrev pub Says : List (List ℕ) → List Line → Type 0
Says ls lines = lines_in ls ≡ Some lines

-- lines 1 to n aren't a text, but lines 1 to n - 1 are, unless n is 1
abbrev pub IsFirstInvalid : List (List ℕ) → ℕ → Type 0
IsFirstInvalid ls n = ((n ≡ 1) ⊎ IsText (take (n - 1) ls)) × (0 < n) × (IsText (take n ls) → ⊥)

-- why the lines aren't a text: the first invalid one, or out of memory
abbrev pub IsFault : List (List ℕ) → FactsFault → Type 0
IsFault ls (faults.Line n why) = IsFirstInvalid ls n
IsFault ls faults.Memory = Unit {0}
