-- What each reason says of an invalid line and of the lines before it.
use Rattle.std.specs.Prelude.{ℕ, ◌≡◌, ◌≢◌, ◌+◌, ◌-◌, ◌<◌, ◌≤◌, ◌⊎◌, List, [], ◌∷◌, ◌++◌, length, slice_index}
use Rattle.std.specs.Prelude.{Option, Some, None, codes, decimal}
use Rattle.pim_base.specs.Spelling.{SPACE, IsNumber, IsPrio, version_line}
use Rattle.pim_base.specs.Texts.{Trace, Spells}
use Rattle.pim_base.specs.declared.limits.TheConstants.{MAX_TASKS, MAX_MUTEXES, MAX_STEPS}
use Rattle.pim_text.specs.Reading.{IsVersion}
use Rattle.pim_text.specs.Words.{IsWord, Misspells}
use Rattle.pim_text.specs.declared.kind.Kind.{Kind}
use Rattle.pim_text.specs.declared.kind.Kind.TheVariants.{Script}
use Rattle.pim_text.specs.declared.explaining.reason.NewWord.{NewWord}
use Rattle.pim_text.specs.declared.explaining.reason.NewWord.TheVariants as new_words
use Rattle.pim_text.specs.declared.explaining.reason.Reason.{Reason}
use Rattle.pim_text.specs.declared.explaining.reason.Reason.TheVariants as reasons

-- ---- bytes and words

-- byte k of the line is this one
abbrev pub IsByte : List ℕ → ℕ → ℕ → Type 0
IsByte line k byte = (k < length line) × (slice_index line k ≡ byte)

-- the line has this byte
abbrev pub Has : List ℕ → ℕ → Type 0
Has line byte = (k : ℕ) × IsByte line k byte

-- the line begins with the number of a task
abbrev pub IsStep : List ℕ → Type 0
IsStep line = (n : ℕ) × IsNumber n × IsWord line 0 (decimal n)

-- word k is a number, and not this one
abbrev pub IsOther : List ℕ → ℕ → ℕ → Type 0
IsOther line k n = (m : ℕ) × IsWord line k (decimal m) × (m ≢ n)

-- the words that version 2 added
abbrev pub last_of : NewWord → List ℕ
last_of new_words.Recursive = codes "recursive"
last_of new_words.Ceil = codes "ceil"
last_of new_words.Kept = codes "kept"
last_of new_words.NotProtect = codes "not-protect"
last_of new_words.Again = codes "again"

-- the line has this word
abbrev pub HasWord : List ℕ → List ℕ → Type 0
HasWord line word = (k : ℕ) × IsWord line k word

-- ---- the reasons

-- there are lines before, and what they say has this property
abbrev pub After : Option Trace → (Trace → Type 0) → Type 0
After None Has = ⊥
After (Some t) Has = Has t

-- the reason is true of a line in a text of this kind, after what the lines before it say, if there are any
abbrev pub Says : Kind → Option Trace → List ℕ → Reason → Type 0
Says kind before line reasons.Version = (before ≡ None) × ((v : ℕ) → IsVersion v → line ≡ version_line v → ⊥)
Says kind before line reasons.EmptyLine = line ≡ []
Says kind before line reasons.Comment = IsByte line 0 35
Says kind before line reasons.Tab = Has line 9
Says kind before line reasons.CarriageReturn = Has line 13
Says kind before line (reasons.OtherByte b) = Has line b × (b < 32 ⊎ 126 < b)
Says kind before line reasons.SpaceBefore = IsByte line 0 SPACE
Says kind before line reasons.SpaceAfter = IsByte line (length line - 1) SPACE
Says kind before line reasons.TwoSpaces = (k : ℕ) × IsByte line k SPACE × IsByte line (k + 1) SPACE
Says kind before line reasons.FirstWord =
    (IsWord line 0 (codes "task") → ⊥) × (IsWord line 0 (codes "mutex") → ⊥) × Misspells IsNumber line 0
Says kind before line (reasons.Number k) = (0 < k) × Misspells IsNumber line (k - 1)
Says kind before line reasons.LateTask =
    IsWord line 0 (codes "task") × After before (λ t. (t.protocols ≢ []) ⊎ (t.steps ≢ []))
Says kind before line reasons.LateMutex = IsWord line 0 (codes "mutex") × After before (λ t. t.steps ≢ [])
Says kind before line reasons.TooManyTasks =
    IsWord line 0 (codes "task") × After before (λ t. MAX_TASKS ≤ length t.bases)
Says kind before line reasons.TooManyMutexes =
    IsWord line 0 (codes "mutex") × After before (λ t. MAX_MUTEXES ≤ length t.protocols)
Says kind before line reasons.TooManySteps = IsStep line × After before (λ t. MAX_STEPS ≤ length t.steps)
Says kind before line (reasons.TaskNumber n) =
    IsWord line 0 (codes "task") × IsOther line 1 n × After before (λ t. n ≡ length t.bases + 1)
Says kind before line (reasons.MutexNumber n) =
    IsWord line 0 (codes "mutex") × IsOther line 1 n × After before (λ t. n ≡ length t.protocols + 1)
Says kind before line reasons.Priority = IsWord line 0 (codes "task") × Misspells IsPrio line 2
Says kind before line reasons.Ceiling =
    IsWord line 0 (codes "mutex") × IsWord line 2 (codes "protect") × Misspells IsPrio line 3
Says kind before line (reasons.New word) = HasWord line (last_of word) × After before (λ t. t.version ≡ 1)
Says kind before line reasons.Recorded = (kind ≡ Script) × IsStep line × HasWord line (codes "=")
Says kind before line (reasons.Undeclared a) =
    (kind ≡ Script) × IsWord line 0 (decimal a) × After before (λ t. length t.bases < a)
Says kind before line reasons.Task = IsWord line 0 (codes "task")
Says kind before line reasons.Mutex = IsWord line 0 (codes "mutex")
Says kind before line reasons.Step = IsStep line
Says kind before line reasons.Extra = IsStep line
Says kind before line reasons.Reply = IsStep line
Says kind before line reasons.Other = Unit {0}

-- ---- the line of a text

-- line n comes after these lines; after the last line there is an empty one
pub record IsLineAt (ls : List (List ℕ)) (n : ℕ) (before : List (List ℕ)) (line : List ℕ) : Type 0 where
  pub number : n ≡ length before + 1
  pub there : ((after : List (List ℕ)) × (ls ≡ before ++ line ∷ after)) ⊎ ((ls ≡ before) × (line ≡ []))

-- the lines before spell this trace, if there are any
abbrev pub SpellsBefore : List (List ℕ) → Option Trace → Type 0
SpellsBefore ls None = ls ≡ []
SpellsBefore ls (Some t) = Spells ls t

-- the reason is true of line n, or the general one
abbrev pub Explains : Kind → List (List ℕ) → ℕ → Reason → Type 0
Explains kind ls n reason = (reason ≡ reasons.Other) ⊎ ((before : List (List ℕ)) × (line : List ℕ) × (t : Option Trace)
    × IsLineAt ls n before line × SpellsBefore before t × Says kind t line reason)
