-- What a value of the code keeps.
use Rattle.std.specs.Prelude.{ℕ, Option, None, unwrap_or, slice_get, ◌≡◌, Bool, true, List, Some}
use Rattle.pim_rows.specs.declared.starts.Starts.{Starts}
use Rattle.pim_world.specs.Worlds.{World}
use Rattle.pim_rows.specs.Moments.{Moment, now, began}

abbrev pub kept_of : {D : Type 0} → Starts D → ℕ → Option D
kept_of s n = unwrap_or (slice_get s.starts.items n) None

-- of each number for which this holds now it is kept how it began
abbrev pub AreStarts :
    {D : Type 0}
    → (ℕ → World → Bool)
    → (ℕ → List Moment → D)
    → (ℕ → Option D)
    → List Moment
    → Type 0
AreStarts holds start kept ms =
    (n : ℕ) → holds n (now ms) ≡ true → kept n ≡ Some (start n (began (holds n) ms))
