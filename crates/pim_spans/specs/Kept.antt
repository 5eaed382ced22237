-- What is kept of spans.
use Rattle.std.specs.Prelude.{◌≡◌, ◌≤◌, ◌⊎◌, ◌++◌, ℕ, flat_map, List, [], ◌∷◌, Option, Some, None}
use Rattle.pim_base.specs.Lists.{nth}
use Rattle.std.specs.Option.{option_map}
use Rattle.pim_world.specs.Standing.{Key}
use Rattle.pim_rows.specs.Moments.{Moment}
use Rattle.pim_spans.specs.declared.track.Track.{Track}
use Rattle.pim_spans.specs.declared.kind.Kind.{Kind}
use Rattle.pim_spans.specs.Spans.{Holding, Start, Span, Window, start, ended, within, lasting}
use Rattle.pim_spans.specs.Words.{span_text}
use Rattle.pim_world.specs.Worlds.{World}

-- what holds, if something does, and the spans that ended
pub record Kept : Type 0 where
  pub lasts : Option Start
  pub spans : List Span

abbrev pub kept_of : Option Track → Kept
kept_of None = record { lasts = None; spans = [] }
kept_of (Some t) = record { lasts = t.lasts; spans = t.spans.items }

abbrev pub kept_at : List Track → ℕ → Kept
kept_at tracks n = kept_of (nth tracks n)

-- it is what these moments say
pub record IsKept (w : Window) (f : Holding) (ms : List Moment) (k : Kept) : Type 0 where
  pub lasts : k.lasts ≡ start f ms
  pub spans : k.spans ≡ within w (ended f ms)

-- it is so for each place
abbrev pub AreKept : Window → (ℕ → Holding) → List Moment → (ℕ → Kept) → Type 0
AreKept w f ms kept = (n : ℕ) → 1 ≤ n → IsKept w (f n) ms (kept n)

-- it is what was said before the newest line, or is after it
abbrev pub IsEither : Window → Holding → Moment → List Moment → Kept → Type 0
IsEither w f m ms k = IsKept w f ms k ⊎ IsKept w f (m ∷ ms) k

-- what holds since a line of this number and time
abbrev pub start_at : ℕ → ℕ → Option Key → Option Start
start_at line time said =
    option_map (λ said. record { said = said; line = line; from = time }) said

-- the item, if there is one
abbrev pub list_of : Option Span → List Span
list_of None = []
list_of (Some s) = s ∷ []

-- the text of the spans that ended, and of the one that lasts
abbrev pub all_text : Window → World → Kind → ℕ → Kept → List ℕ
all_text window w kind place k =
    flat_map (span_text w kind place) k.spans
    ++ flat_map (span_text w kind place) (within window (lasting w.clock k.lasts))
