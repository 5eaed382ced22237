-- The spans of a text of facts: docs/ROWS.md, 'Spans'.
use Rattle.std.specs.Prelude.{◌≡◌, ℕ, List, ◌++◌, flat_map, length}
use Rattle.pim_base.specs.Lists.{numbers}
use Rattle.pim_fact_lines.specs.declared.line.Line.{Line}
use Rattle.pim_world.specs.Texts.{Says}
use Rattle.pim_rows.specs.Moments.{Moment, now}
use Rattle.pim_rows.specs.Rows.{moments_of}
use Rattle.pim_spans.specs.declared.kind.Kind.{Kind}
use Rattle.pim_spans.specs.declared.kind.Kind.TheVariants as kinds
use Rattle.pim_spans.specs.Spans.{Window, spans, within}
use Rattle.pim_spans.specs.Holding.{holding}
use Rattle.pim_spans.specs.Words.{span_text}

-- the spans of a kind of the thread or the mutex at a place, in the order of time
abbrev pub place_text : Window → List Moment → Kind → ℕ → List ℕ
place_text w ms kind place =
    flat_map (span_text (now ms) kind place) (within w (spans (holding kind place) ms))

-- those of all of so many places
abbrev pub kind_text : Window → List Moment → Kind → ℕ → List ℕ
kind_text w ms kind count = flat_map (place_text w ms kind) (numbers count)

-- all spans within a window
abbrev pub spans_text : Window → List Moment → List ℕ
spans_text w ms =
    let threads = length (now ms).state.base in
    kind_text w ms kinds.Gets threads
    ++ (kind_text w ms kinds.Owns (length (now ms).state.protocol)
    ++ (kind_text w ms kinds.Waits threads
    ++ (kind_text w ms kinds.Inverted threads ++ kind_text w ms kinds.Stalled threads)))

-- the lines are a text, and these bytes are its spans within the window
abbrev pub AreFound : Window → List (List ℕ) → List ℕ → Type 0
AreFound w ls bytes =
    (lines : List Line) × Says ls lines × (bytes ≡ spans_text w (moments_of lines))
