-- A text with one line more, or one less.
use Rattle.std.proofs.lemmas.Grind.{common_steps}
use Rattle.std.proofs.Common.{◌≡◌, ℕ, ◌+◌, ◌<◌, ◌⊎◌, inl, inr, List, [], ◌∷◌, ◌++◌, arith, refl, ap, sym, ◌∙◌}
use Rattle.std.proofs.Common.{subst, length, map, append_assoc, Result, Ok, Err, IfOk, Bool, true, false, None}
use Rattle.std.specs.Bool.{MatchBool}
use Rattle.std.specs.List.{AllByRecursion}
use Rattle.std.proofs.lemmas.List.{length_push, map-append, append-nil}
use Rattle.pim_base.specs.declared.steps.Protocol.{Protocol}
use Rattle.pim_base.specs.declared.lines.StepLine.{StepLine}
use Rattle.pim_base.specs.declared.lines.Line.{Line}
use Rattle.pim_base.specs.declared.lines.Line.TheVariants as lines
use Rattle.pim_base.specs.Spelling.{version_line, IsLine, BelongsTo, spelled}
use Rattle.pim_base.specs.Texts.{Trace, declared, IsWithinLimits, spelled_lines, Spells}
use Rattle.pim_text.specs.Reading.{ReadsBytes, empty_of, with_line, MayFollow}
use Rattle.pim_base.specs.Scripts.{StandsInScript}
use Rattle.pim_text.specs.declared.kind.Kind.{Kind}
use Rattle.pim_text.specs.declared.kind.Kind.TheVariants as kinds
use Rattle.pim_text.specs.Kinds.{Allows, Obeys, SpellsAs, IsOf}
use Rattle.pim_text.proofs.SpellingLemmas.{all_append, spelled_same}
use Rattle.pim_text.proofs.TraceLemmas.{declared-with_line, spelled_once}

-- ---- the last line of a trace

record Snoc {A : Type 0} (xs : List A) : Type 0 where
  front : List A
  last : A
  whole : xs ≡ front ++ last ∷ []

snoc : {A : Type 0} (x : A) (xs : List A) → Snoc (x ∷ xs)
snoc x [] = record { front = []; last = x; whole = refl }
snoc x (y ∷ ys) =
    let rest = snoc y ys in record { front = x ∷ rest.front; last = rest.last; whole = ap (λ zs. x ∷ zs) rest.whole }

same_snoc : {A : Type 0} (xs ys : List A) (x y : A) → xs ++ x ∷ [] ≡ ys ++ y ∷ [] → (xs ≡ ys) × (x ≡ y)
same_snoc xs ys x y e = grind (arith, common_steps)

-- the trace is another one with a line that may follow there
record Grown (u : Trace) : Type 0 where
  before : Trace
  line : Line
  whole : u ≡ with_line before line
  may : MayFollow before line

abbrev made : ℕ → List ℕ → List Protocol → List StepLine → Trace
made v bs ps ss = record { version = v; bases = bs; protocols = ps; steps = ss }

grown :
    (v : ℕ) (bs : List ℕ) (ps : List Protocol) (ss : List StepLine) (u : Trace)
    → u ≡ made v bs ps ss
    → IsWithinLimits u
    → (u ≡ empty_of v) ⊎ Grown u
grown v [] [] [] u e is = inl e
grown v (b ∷ bs) [] [] u e is = let s = snoc b bs in inr (record {
  before = record { version = v; bases = s.front; protocols = []; steps = [] };
  line = lines.Task (length s.front + 1) s.last;
  whole =
      e
      ∙ ap (λ (bs : List ℕ). made v bs [] []) s.whole;
  may =
      let size : length u.bases ≡ length (b ∷ bs) = ap (λ (t : Trace). length t.bases) e in
      (omega (arith, is.tasks, size, ap length s.whole, length_push s.front s.last), refl, refl, refl);
})
grown v bs (p ∷ ps) [] u e is = let s = snoc p ps in inr (record {
  before = record { version = v; bases = bs; protocols = s.front; steps = [] };
  line = lines.Mutex (length s.front + 1) s.last;
  whole =
      e
      ∙ ap (λ (ps : List Protocol). made v bs ps []) s.whole;
  may =
      let size : length u.protocols ≡ length (p ∷ ps) = ap (λ (t : Trace). length t.protocols) e in
      (omega (arith, is.mutexes, size, ap length s.whole, length_push s.front s.last), refl, refl);
})
grown v bs ps (l ∷ ss) u e is = let s = snoc l ss in inr (record {
  before = record { version = v; bases = bs; protocols = ps; steps = s.front };
  line = lines.Step s.last;
  whole =
      e
      ∙ ap (λ (ss : List StepLine). made v bs ps ss) s.whole;
  may = omega (arith, is.steps, ap (λ (t : Trace). length t.steps) e, ap length s.whole, length_push s.front s.last);
})

-- ---- a valid text with one more line

all_front :
    {A : Type 0} (P : A → Type 0) (xs : List A) (x : A)
    → AllByRecursion P (xs ++ x ∷ [])
    → AllByRecursion P xs × P x
all_front P [] x h = (tt, h.0)
all_front P (y ∷ ys) x h = let rest = all_front P ys x h.1 in ((h.0, rest.0), rest.1)

within :
    (t : Trace) (m : Line)
    → IsWithinLimits t
    → MayFollow t m
    → AllByRecursion IsLine (declared (with_line t m))
    → AllByRecursion (BelongsTo t.version) (declared (with_line t m))
    → IsWithinLimits (with_line t m)
within t m is may each belongs = grind (arith, common_steps)

-- a valid text with one more line that may follow is valid
grows :
    (ls : List (List ℕ)) (t : Trace) (m : Line)
    → Spells ls t
    → IsLine m
    → BelongsTo t.version m
    → MayFollow t m
    → Spells (ls ++ spelled m ∷ []) (with_line t m)
grows ls t m spells is belongs may = grind (arith, declared-with_line, all_append, within, map-append)

-- ---- the rules of a kind, line by line

obeys_more :
    (kind : Kind) (t : Trace) (m : Line)
    → MayFollow t m
    → Allows kind t m
    → Obeys kind t
    → Obeys kind (with_line t m)
obeys_more kind t m may allowed h = grind (arith, common_steps)

obeys_parts :
    (kind : Kind) (t : Trace) (m : Line)
    → MayFollow t m
    → Obeys kind (with_line t m)
    → Obeys kind t × Allows kind t m
obeys_parts kinds.Trace t m may h = (tt, tt)
obeys_parts kinds.Script t (lines.Task n p) may h = (rw may.3 tt, tt)
obeys_parts kinds.Script t (lines.Mutex n p) may h = (h, tt)
obeys_parts kinds.Script t (lines.Step s) may h = all_front (StandsInScript (length t.bases)) t.steps s h

-- without its last line a trace is within the limits
within_before :
    (t : Trace) (m : Line)
    → IsWithinLimits (with_line t m)
    → AllByRecursion IsLine (declared t)
    → AllByRecursion (BelongsTo t.version) (declared t)
    → IsWithinLimits t
within_before t m is each belongs = grind (arith, common_steps)

-- with one line more it is of the same version
version-with_line : (t : Trace) (m : Line) → (with_line t m).version ≡ t.version
version-with_line t (lines.Task n p) = refl
version-with_line t (lines.Mutex n p) = refl
version-with_line t (lines.Step s) = refl

-- the last line of a text that has others, and the lines before it
record Shrunk (kind : Kind) (ls : List (List ℕ)) (bytes : List ℕ) : Type 0 where
  before : Trace
  line : Line
  is : IsLine line
  spells : SpellsAs kind ls before
  last : bytes ≡ spelled line
  may : MayFollow before line
  belongs : BelongsTo before.version line
  allowed : Allows kind before line

shrinks :
    (kind : Kind) (ls : List (List ℕ)) (bytes : List ℕ)
    → 0 < length ls
    → IsOf kind (ls ++ bytes ∷ [])
    → Shrunk kind ls bytes
shrinks kind ls bytes some valid =
    let u : Trace = valid.0 in
    elim (grown u.version u.bases u.protocols u.steps u refl valid.1.0.0) [
      | inl e ↦ absurd (let only : ls ++ bytes ∷ [] ≡ version_line u.version ∷ [] = valid.1.0.1 ∙ ap spelled_lines e in
          omega (arith, some, length_push ls bytes, ap length only))
      | inr g ↦
          let t : Trace = g.before in
          let m : Line = g.line in
          let limits : IsWithinLimits (with_line t m) = subst IsWithinLimits g.whole valid.1.0.0 in
          let first : List ℕ = version_line t.version in
          let more = declared-with_line t m g.may in
          let each = all_front IsLine (declared t) m (subst (AllByRecursion IsLine) more limits.each) in
          let belongs : AllByRecursion (BelongsTo t.version) (declared (with_line t m)) =
          subst (λ v. AllByRecursion (BelongsTo v) (declared (with_line t m))) (version-with_line t m) limits.belongs in
          let parts =
          all_front (BelongsTo t.version) (declared t) m (subst (AllByRecursion (BelongsTo t.version)) more belongs) in
          let obeys = obeys_parts kind t m g.may (subst (Obeys kind) g.whole valid.1.1) in
          let both = same_snoc ls (spelled_lines t) bytes (spelled m)
          (valid.1.0.1 ∙ ap spelled_lines g.whole
          ∙ ap (λ v. version_line v ∷ map spelled (declared (with_line t m))) (version-with_line t m)
          ∙ ap (λ ls. first ∷ map spelled ls) more
          ∙ ap (λ ls. first ∷ ls) (map-append spelled (declared t) (m ∷ []))) in
          record {
            before = t;
            line = m;
            is = each.1;
            spells = ((within_before t m limits each.0 parts.0, both.0), obeys.0);
            last = both.1;
            may = g.may;
            belongs = parts.1;
            allowed = obeys.1;
          }
    ]

-- the lines of a text begin with those of one
pub front_is : (kind : Kind) (ls rest : List (List ℕ)) → 0 < length ls → IsOf kind (ls ++ rest) → IsOf kind ls
front_is kind ls [] some valid = subst (IsOf kind) (append-nil ls) valid
front_is kind ls (l ∷ rest) some valid =
    let more : IsOf kind (ls ++ l ∷ []) =
    front_is kind (ls ++ l ∷ []) rest (omega (arith, length_push ls l))
    (subst (IsOf kind) (sym (append_assoc ls (l ∷ []) rest)) valid) in
    let shrunk = shrinks kind ls l some more in (shrunk.before, shrunk.spells)

-- if no line that may follow is spelled so, there is no valid text
stops :
    (kind : Kind) (ls : List (List ℕ)) (t : Trace) (bytes : List ℕ)
    → Spells ls t
    → ((m : Line) → IsLine m → BelongsTo t.version m → MayFollow t m → Allows kind t m → bytes ≡ spelled m → ⊥)
    → IsOf kind (ls ++ bytes ∷ []) → ⊥
stops kind ls t bytes spells none valid =
    let shrunk = shrinks kind ls bytes (omega (arith, ap length spells.1)) valid in
    let same : shrunk.before ≡ t =
    spelled_once shrunk.before t shrunk.spells.0.0 spells.0 (sym shrunk.spells.0.1 ∙ spells.1) in
    none shrunk.line shrunk.is
    (subst (λ (t : Trace). BelongsTo t.version shrunk.line) same shrunk.belongs)
    (subst (λ t. MayFollow t shrunk.line) same shrunk.may)
    (subst (λ t. Allows kind t shrunk.line) same shrunk.allowed)
    shrunk.last

-- ---- what the reading of a line adds

pub adds_line :
    {E : Type 0} (kind : Kind) (t u : Trace) (bytes : List ℕ) (m : Line) (r : Result Bool E)
    → IsLine m × (bytes ≡ spelled m)
    → BelongsTo t.version m
    → Allows kind t m
    → IfOk r (λ added. MatchBool added (MayFollow t m × (u ≡ with_line t m)) (MayFollow t m → ⊥))
    → IfOk r (λ added.
    (ls : List (List ℕ))
    → SpellsAs kind ls t
    → MatchBool added (SpellsAs kind (ls ++ bytes ∷ []) u) (IsOf kind (ls ++ bytes ∷ []) → ⊥))
adds_line kind t u bytes m (Err e) read belongs allowed h = tt
adds_line kind t u bytes m (Ok true) read belongs allowed h =
    λ ls spells. rw (h.1, read.1) ((grows ls t m spells.0 read.0 belongs h.0, obeys_more kind t m h.0 allowed spells.1))
adds_line kind t u bytes m (Ok false) read belongs allowed h =
    λ ls spells. stops kind ls t bytes spells.0 (λ l is of_version may allowed e.
    let same : l ≡ m = spelled_same l m is read.0 (sym e ∙ read.1) in h (subst (MayFollow t) same may))

-- a line of a later version
pub later_line :
    (kind : Kind) (t : Trace) (bytes : List ℕ) (m : Line)
    → IsLine m × (bytes ≡ spelled m)
    → (BelongsTo t.version m → ⊥)
    → (ls : List (List ℕ)) → SpellsAs kind ls t → IsOf kind (ls ++ bytes ∷ []) → ⊥
later_line kind t bytes m read none ls spells =
    stops kind ls t bytes spells.0 (λ l is of_version may allowed e.
    let same : l ≡ m = spelled_same l m is read.0 (sym e ∙ read.1) in
    none (subst (BelongsTo t.version) same of_version))

-- a line that the kind doesn't allow
pub not_allowed :
    (kind : Kind) (t : Trace) (bytes : List ℕ) (m : Line)
    → IsLine m × (bytes ≡ spelled m)
    → (Allows kind t m → ⊥)
    → (ls : List (List ℕ)) → SpellsAs kind ls t → IsOf kind (ls ++ bytes ∷ []) → ⊥
not_allowed kind t bytes m read none ls spells =
    stops kind ls t bytes spells.0 (λ l is of_version may allowed e.
    let same : l ≡ m = spelled_same l m is read.0 (sym e ∙ read.1) in none (subst (Allows kind t) same allowed))

pub no_line_read :
    (kind : Kind) (t : Trace) (bytes : List ℕ) (ls : List (List ℕ))
    → ReadsBytes bytes None
    → SpellsAs kind ls t
    → IsOf kind (ls ++ bytes ∷ [])
    → ⊥
no_line_read kind t bytes ls none spells =
    stops kind ls t bytes spells.0 (λ m is of_version may allowed e. none m is e)
