-- What is written to a stream.
use Rattle.std.specs.Prelude.{ℕ, ◌≡◌, List, [], Result, MatchResult}
use Rattle.pim_fact_lines.specs.declared.line.Line.{Line}
use Rattle.pim_fact_lines.specs.Texts.{lines_of}
use Rattle.pim_world.specs.Texts.{Says}
use Rattle.pim_rows.specs.Rows.{rows_of, moments_of, status_of, text_of}
use Rattle.pim_spans.specs.Found.{spans_text}
use Rattle.pim_spans.specs.declared.window.Window.{Window}
use Rattle.pim_page.specs.Ends.{Told, Appends, AppendsFront, Fails, Puts}
use Rattle.pim_findings.specs.declared.fault.Fault.{Fault}
use Rattle.pim_findings.specs.declared.fault.Fault.TheVariants as faults

-- a prefix of the bytes was appended before a write failed
pub record Stops (old new : Told) (bytes : List ℕ) (fault : Fault) : Type 0 where
  pub contents : AppendsFront old.contents new.contents bytes
  pub fails : Fails old new
  pub write : fault ≡ faults.Write

-- the bytes were appended, or it stopped
abbrev pub Writes : {T : Type 0} → Told → Told → List ℕ → Result T Fault → Type 0
Writes {T} old new bytes result =
    MatchResult result (λ done. Puts old new bytes []) (Stops old new bytes)

-- the bytes are a text, its rows were appended, and this is its status
abbrev pub Finds : List ℕ → Told → Told → ℕ → Type 0
Finds bytes old new status =
    (lines : List Line) × Says (lines_of bytes) lines
    × Appends old.contents new.contents (text_of (rows_of (moments_of lines)))
    × (status ≡ status_of (moments_of lines))

-- the bytes are a text, and a prefix of its rows was appended
abbrev pub FindsFront : List ℕ → Told → Told → Type 0
FindsFront bytes old new =
    (lines : List Line) × Says (lines_of bytes) lines
    × AppendsFront old.contents new.contents (text_of (rows_of (moments_of lines)))

-- the bytes are a text, and its spans within the window were appended
abbrev pub FindsSpans : Window → List ℕ → Told → Told → Type 0
FindsSpans window bytes old new =
    (lines : List Line) × Says (lines_of bytes) lines
    × Appends old.contents new.contents (spans_text window (moments_of lines))

-- the bytes are a text, and a prefix of its spans was appended
abbrev pub FindsSpansFront : Window → List ℕ → Told → Told → Type 0
FindsSpansFront window bytes old new =
    (lines : List Line) × Says (lines_of bytes) lines
    × AppendsFront old.contents new.contents (spans_text window (moments_of lines))
