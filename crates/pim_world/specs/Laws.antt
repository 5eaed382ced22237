-- What holds of the first invalid line of any text, so that a fault can name one line; and of the
-- world after a text.
use Rattle.std.specs.Prelude.{ℕ, ◌≡◌, List}
use Rattle.std.specs.List.{fold}
use Rattle.pim_fact_lines.specs.declared.line.Line.{Line}
use Rattle.pim_world.specs.Worlds.{no_world}
use Rattle.pim_world.specs.After.{after}
use Rattle.pim_world.specs.Texts.{IsText, IsFirstInvalid, Says}
use Rattle.pim_world.specs.Steady.{IsSteady}

-- At most one line is the first invalid one.
abbrev pub AtMostOneIsFirst : Type 0
AtMostOneIsFirst =
    (ls : List (List ℕ)) (n k : ℕ) → IsFirstInvalid ls n → IsFirstInvalid ls k → n ≡ k

-- A text has none.
abbrev pub ValidHasNone : Type 0
ValidHasNone = (ls : List (List ℕ)) (n : ℕ) → IsText ls → IsFirstInvalid ls n → ⊥

-- After each text, and so after each line of one, the world is steady.
abbrev pub SteadyLaw : Type 0
SteadyLaw =
    (bytes : List (List ℕ)) (lines : List Line)
    → Says bytes lines → IsSteady (fold after no_world lines)
