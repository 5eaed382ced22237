-- How a span is written: docs/ROWS.md, 'Spans'.
use Rattle.std.specs.Prelude.{ℕ, List, [], ◌∷◌, ◌++◌, codes, decimal, flat_map}
use Rattle.pim_world.specs.Worlds.{World}
use Rattle.pim_world.specs.Standing.{thread_number, mutex_number}
use Rattle.pim_spans.specs.declared.kind.Kind.{Kind}
use Rattle.pim_spans.specs.declared.kind.Kind.TheVariants as kinds
use Rattle.pim_spans.specs.Spans.{Span}

abbrev pub word_text : Kind → List ℕ
word_text kinds.Gets = codes "gets"
word_text kinds.Owns = codes "owns"
word_text kinds.Waits = codes "waits"
word_text kinds.Inverted = codes "inverted"
word_text kinds.Stalled = codes "stalled"

-- of the thread or the mutex at a place
abbrev pub numbers_of : World → Kind → ℕ → Span → List ℕ
numbers_of w kinds.Gets t s =
    thread_number w t ∷ s.said.0 ∷ s.said.1 ∷ s.from ∷ s.until ∷ []
numbers_of w kinds.Owns m s =
    thread_number w s.said.0 ∷ mutex_number w m ∷ s.line ∷ s.from ∷ s.until ∷ []
numbers_of w kinds.Waits t s =
    thread_number w t ∷ s.said.0 ∷ s.line ∷ s.from ∷ s.until ∷ []
numbers_of w kinds.Inverted t s = s.said.0 ∷ s.said.1 ∷ s.said.2 ∷ s.from ∷ s.until ∷ []
numbers_of w kinds.Stalled t s = s.said.0 ∷ s.said.1 ∷ s.said.2 ∷ s.from ∷ s.until ∷ []

-- a word, a space before each number, in decimal, and a newline at the end
abbrev pub line_text : Kind → List ℕ → List ℕ
line_text kind numbers = word_text kind ++ (flat_map (λ n. 32 ∷ decimal n) numbers ++ 10 ∷ [])

abbrev pub span_text : World → Kind → ℕ → Span → List ℕ
span_text w kind place s = line_text kind (numbers_of w kind place s)
