-- The results of reading a text, one line after another.
use Rattle.std.specs.Prelude.{ℕ, ◌≡◌, ◌+◌, ◌<◌, ◌≤◌, ◌==◌, List, [], ◌∷◌, ◌++◌, length}
use Rattle.std.specs.Prelude.{Option, Some, None, MatchOption, Bool}
use Rattle.std.specs.Bool.{MatchBool}
use Rattle.std.specs.List.{slice_split}
use Rattle.std.specs.Borrow.{Bor}
use Rattle.pim_base.specs.Spelling.{SPACE, IsLine, words_of, spelled}
use Rattle.pim_base.specs.declared.limits.TheConstants.{MAX_TASKS, MAX_MUTEXES, MAX_STEPS, LAST_VERSION}
use Rattle.pim_base.specs.Texts.{Trace}
use Rattle.pim_base.specs.declared.lines.Line.{Line}
use Rattle.pim_base.specs.declared.lines.Line.TheVariants as lines
use Rattle.pim_text.specs.declared.text.Text.{Text}

-- the version of a text, what it declares, and its steps, wherever they are in memory
abbrev pub trace_of : Text → Trace
trace_of text = record {
  version = text.version;
  bases = text.bases.items;
  protocols = text.protocols.items;
  steps = text.lines.items;
}

-- the parts of what follows a separator, or no parts if there was no separator
abbrev pub pieces : ℕ → Option (Bor (List ℕ)) → List (List ℕ)
pieces separator None = []
pieces separator (Some rest) = slice_split (λ b. b == separator) rest.now

-- the words of these bytes
abbrev pub words : List ℕ → List (List ℕ)
words bytes = slice_split (λ b. b == SPACE) bytes

-- what a word, words or bytes spell, or None if they spell none of those
abbrev pub ReadsAs : {X Y : Type 0} → (X → Type 0) → (X → Y) → Y → Option X → Type 0
ReadsAs {X} Is spelling y result =
    MatchOption result ((x : X) → Is x → y ≡ spelling x → ⊥) (λ x. Is x × (y ≡ spelling x))

-- the line that these words spell
abbrev pub Reads : List (List ℕ) → Option Line → Type 0
Reads ws result = ReadsAs IsLine words_of ws result

-- the line that these bytes spell
abbrev pub ReadsBytes : List ℕ → Option Line → Type 0
ReadsBytes bytes result = ReadsAs IsLine spelled bytes result

-- one of the versions of the format
abbrev pub IsVersion : ℕ → Type 0
IsVersion version = (1 ≤ version) × (version ≤ LAST_VERSION)

-- the text of the version line alone
abbrev pub empty_of : ℕ → Trace
empty_of version = record { version = version; bases = []; protocols = []; steps = [] }

-- one more line at the end of a text
abbrev pub with_line : Trace → Line → Trace
with_line t (lines.Task n base) = record t { bases = t.bases ++ base ∷ [] }
with_line t (lines.Mutex n protocol) = record t { protocols = t.protocols ++ protocol ∷ [] }
with_line t (lines.Step step) = record t { steps = t.steps ++ step ∷ [] }

-- the line may follow those of the text, in a version that has it
abbrev pub MayFollow : Trace → Line → Type 0
MayFollow t (lines.Task n base) =
    (length t.bases < MAX_TASKS) × (n ≡ length t.bases + 1) × (t.protocols ≡ []) × (t.steps ≡ [])
MayFollow t (lines.Mutex n protocol) =
    (length t.protocols < MAX_MUTEXES) × (n ≡ length t.protocols + 1) × (t.steps ≡ [])
MayFollow t (lines.Step step) = length t.steps < MAX_STEPS

-- the line was added to the text if it may follow, and else is refused
abbrev pub IsAddedTo : Trace → Line → Trace → Bool → Type 0
IsAddedTo t line u added = MatchBool added (MayFollow t line × (u ≡ with_line t line)) (MayFollow t line → ⊥)
