-- Spans of what holds of a thread or a mutex: docs/ROWS.md, 'Spans'.
use Rattle.std.specs.Prelude.{ℕ, Bool, max, min, nat_lt, List, [], ◌∷◌, ◌++◌, map}
use Rattle.std.specs.Prelude.{Option, if◌then◌else◌}
use Rattle.std.specs.List.{filter}
use Rattle.std.specs.Option.{option_eq, option_map, option_map_or}
use Rattle.pim_world.specs.Standing.{Key, same_key}
use Rattle.pim_rows.specs.Moments.{Moment, number, clock}
pub use Rattle.pim_spans.specs.declared.span.Start.{Start}
pub use Rattle.pim_spans.specs.declared.span.Span.{Span}
pub use Rattle.pim_spans.specs.declared.window.Window.{Window}

-- what holds after the newest of these moments, by three numbers
abbrev pub Holding : Type 0
Holding = List Moment → Option Key

-- the same holds
abbrev pub same : Option Key → Option Key → Bool
same p q = option_eq same_key p q

-- the moments back to the line since which the same holds as now
abbrev pub since : Holding → List Moment → List Moment
since f [] = []
since f (m ∷ ms) = if same (f ms) (f (m ∷ ms)) then since f ms else m ∷ ms

-- what holds now, and since which line and time
abbrev pub start : Holding → List Moment → Option Start
start f ms =
    option_map
    (λ said. record { said = said; line = number (since f ms); from = clock (since f ms) })
    (f ms)

-- the span of what started so, up to this time
abbrev pub span_until : ℕ → Start → Span
span_until time s = record { said = s.said; line = s.line; from = s.from; until = time }

-- the same of what may have started
abbrev pub lasting : ℕ → Option Start → List Span
lasting time s = option_map_or (λ s. span_until time s ∷ []) s []

-- the spans that ended so far: one for each line by which something that held doesn't hold any more
abbrev pub ended : Holding → List Moment → List Span
ended f [] = []
ended f (m ∷ ms) =
    ended f ms ++ (if same (f ms) (f (m ∷ ms)) then [] else lasting m.world.clock (start f ms))

-- all spans of a text, with the one that lasts to its end
abbrev pub spans : Holding → List Moment → List Span
spans f ms = ended f ms ++ lasting (clock ms) (start f ms)

-- ---- in a window of time

-- the part of a span that is in the window
abbrev pub cut : Window → Span → Span
cut w s = record s { from = max s.from w.from; until = min s.until w.until }

-- it takes some time
abbrev pub takes_time : Span → Bool
takes_time s = nat_lt s.from s.until

-- the parts in the window that take some time
abbrev pub within : Window → List Span → List Span
within w ss = filter takes_time (map (cut w) ss)
