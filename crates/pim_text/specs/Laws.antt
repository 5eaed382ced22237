-- Why a fault can name one line: what holds of the first bad line of any text.
use Rattle.std.specs.Prelude.{ℕ, ◌≡◌, List}
use Rattle.pim_base.specs.Texts.{FirstBad}

-- At most one line is the first bad one.
abbrev pub AtMostOneIsFirst : (List (List ℕ) → Type 0) → Type 0
AtMostOneIsFirst Is = (ls : List (List ℕ)) (n k : ℕ) → FirstBad Is ls n → FirstBad Is ls k → n ≡ k

-- Valid lines have no first bad line.
abbrev pub ValidHasNone : (List (List ℕ) → Type 0) → Type 0
ValidHasNone Is = (ls : List (List ℕ)) (n : ℕ) → Is ls → FirstBad Is ls n → ⊥
