-- The lines of the bytes, one after another, and the first invalid one.
use Rattle.std.proofs.lemmas.Grind.{common_steps}
use Rattle.std.proofs.Common.{◌≡◌, ℕ, zero, suc, ◌+◌, ◌-◌, ◌<◌, ◌≤◌, List, [], ◌∷◌, ◌++◌, arith, refl, ap}
use Rattle.std.proofs.Common.{sym, ◌∙◌, subst, length, length-append, append_assoc, take, Bool, true, false}
use Rattle.std.proofs.Common.{Option, Some, None, IfSome, Bor, eqb, inl, inr, unwrap_or, codes, rules}
use Rattle.std.specs.Bool.{MatchBool}
use Rattle.std.specs.List.{slice_split, join_with_byte}
use Rattle.std.proofs.lemmas.List.Splits.{length-slice_split, join_with_byte-slice_split}
use Rattle.pim_base.specs.declared.limits.TheConstants.{MAX_TASKS, MAX_MUTEXES, MAX_STEPS}
use Rattle.pim_base.specs.Spelling.{NEWLINE, version_line}
use Rattle.pim_base.specs.Texts.{Trace, FirstBad, spelled_lines, without_empty_last, lines_of}
use Rattle.pim_text.specs.Reading.{pieces, ReadsAs, IsVersion, empty_of}
use Rattle.pim_text.specs.declared.kind.Kind.{Kind}
use Rattle.pim_text.specs.Kinds.{SpellsAs, IsOf}
use Rattle.pim_base.proofs.Versions.{first_version, second_version}
use Rattle.pim_text.proofs.TraceLemmas.{length_valid}

abbrev parts : List ℕ → List (List ℕ)
parts bytes = slice_split (λ b. eqb b NEWLINE) bytes

-- the last line is the bytes
lines_of-last : (b : ℕ) (bytes line : List ℕ) → parts (b ∷ bytes) ≡ line ∷ [] → lines_of (b ∷ bytes) ≡ line ∷ []
lines_of-last b bytes [] cut =
    absurd (empty (sym (join_with_byte-slice_split NEWLINE (b ∷ bytes)) ∙ ap (join_with_byte NEWLINE) cut))
  where
    empty : b ∷ bytes ≡ [] → ⊥
    empty e = cc
lines_of-last b bytes (x ∷ line) cut = ap without_empty_last cut

-- there are more parts behind this one
lines_of-more : (bytes line rest : List ℕ) → parts bytes ≡ line ∷ parts rest → lines_of bytes ≡ line ∷ lines_of rest
lines_of-more bytes line rest cut =
    ap without_empty_last cut ∙ go (parts rest) (omega (arith, length-slice_split (λ b. eqb b NEWLINE) rest)) line
  where
    go :
        (ps : List (List ℕ))
        → 0 < length ps
        → (line : List ℕ)
        → without_empty_last (line ∷ ps) ≡ line ∷ without_empty_last ps
    go [] some line = absurd (omega arith)
    go (p ∷ ps) some [] = refl
    go (p ∷ ps) some (x ∷ line) = refl

-- the lines of the bytes, by the first and those of the rest
pub lines_are :
    (bytes line : List ℕ) (o : Option (Bor (List ℕ))) (d : Bor (List ℕ))
    → d.now ≡ []
    → 0 < length bytes
    → parts bytes ≡ line ∷ pieces NEWLINE o
    → lines_of bytes ≡ line ∷ lines_of (unwrap_or o d).now
lines_are [] line o d none some cut = absurd (omega arith)
lines_are (b ∷ bytes) line None d none some cut =
    lines_of-last b bytes line cut ∙ ap (λ (rest : List ℕ). line ∷ lines_of rest) (sym none)
lines_are (b ∷ bytes) line (Some r) d none some cut = lines_of-more (b ∷ bytes) line r.now cut

pub rest_shorter :
    (bytes : List ℕ) (o : Option (Bor (List ℕ))) (d : Bor (List ℕ))
    → d.now ≡ []
    → 0 < length bytes
    → IfSome o (λ rest. length rest.now < length bytes)
    → length (unwrap_or o d).now < length bytes
rest_shorter bytes o d none some short = search rules

-- ---- the first bad line

-- the `count` lines before `rest` are those of the text so far
pub record Halfway (kind : Kind) (all rest : List (List ℕ)) (t : Trace) (count : ℕ) : Type 0 where
  pub done : List (List ℕ)
  pub whole : all ≡ done ++ rest
  pub spells : SpellsAs kind done t
  pub many : length done ≡ count

take_done : (done rest : List (List ℕ)) → take (length done) (done ++ rest) ≡ done
take_done done rest = grind (arith, common_steps)

-- the line behind a valid text that no valid text goes on with
pub bad_next :
    {kind : Kind} {all left : List (List ℕ)} {t : Trace} {count : ℕ}
    (added : Bool) (P : List (List ℕ) → Type 0) (line : List ℕ) (rest : List (List ℕ))
    → left ≡ line ∷ rest
    → Halfway kind all left t count
    → added ≡ false
    → ((ls : List (List ℕ)) → SpellsAs kind ls t → MatchBool added (P ls) (IsOf kind (ls ++ line ∷ []) → ⊥))
    → FirstBad (IsOf kind) all (count + 1)
bad_next {kind} {all} {left} {t} {count} added P line rest next half refused add =
    let whole : all ≡ half.done ++ line ∷ rest = half.whole ∙ ap (λ ls. half.done ++ ls) next in
    let stops =
    subst (λ (b : Bool). MatchBool b (P half.done) (IsOf kind (half.done ++ line ∷ []) → ⊥)) refused
    (add half.done half.spells) in
    let longer : all ≡ (half.done ++ line ∷ []) ++ rest = whole ∙ sym (append_assoc half.done (line ∷ []) rest) in
    let size : length (half.done ++ line ∷ []) ≡ count + 1 =
    omega (arith, length-append half.done (line ∷ []), half.many) in
    let before : take (count + 1 - 1) all ≡ half.done =
    ap (λ k. take k all) (let k : count + 1 - 1 ≡ length half.done = omega (arith, half.many) in k)
    ∙ ap (take (length half.done)) whole ∙ take_done half.done (line ∷ rest) in
    let upto : take (count + 1) all ≡ half.done ++ line ∷ [] =
    ap (λ k. take k all) (sym size)
    ∙ ap (take (length (half.done ++ line ∷ []))) longer
    ∙ take_done (half.done ++ line ∷ []) rest in
    (inr (subst (IsOf kind) (sym before) (t, half.spells)), omega arith, λ valid. stops (subst (IsOf kind) upto valid))

-- the text with that line
pub goes_on :
    {kind : Kind} {all left : List (List ℕ)} {t : Trace} {count : ℕ}
    (added : Bool) (u : Trace) (Q : List (List ℕ) → Type 0) (line : List ℕ) (rest : List (List ℕ))
    → left ≡ line ∷ rest
    → Halfway kind all left t count
    → added ≡ true
    → ((ls : List (List ℕ)) → SpellsAs kind ls t → MatchBool added (SpellsAs kind (ls ++ line ∷ []) u) (Q ls))
    → Halfway kind all rest u (count + 1)
goes_on {kind} {all} {left} {t} {count} added u Q line rest next half taken add = record {
  done = half.done ++ line ∷ [];
  whole = half.whole ∙ ap (λ ls. half.done ++ ls) next ∙ sym (append_assoc half.done (line ∷ []) rest);
  spells =
      subst (λ (b : Bool). MatchBool b (SpellsAs kind (half.done ++ line ∷ []) u) (Q half.done)) taken
      (add half.done half.spells);
  many = omega (arith, length-append half.done (line ∷ []), half.many);
}

-- they are few
pub count_small :
    {kind : Kind} {all rest : List (List ℕ)} {t : Trace} {count : ℕ}
    → Halfway kind all rest t count
    → count ≤ 1 + MAX_TASKS + MAX_MUTEXES + MAX_STEPS
count_small {kind} {all} {rest} {t} {count} half = omega (arith, half.many, length_valid half.done t half.spells.0)

-- the first line is the version
pub begins :
    (kind : Kind) (all : List (List ℕ)) (first : List ℕ) (rest : List (List ℕ)) (v : ℕ) (t : Trace)
    → all ≡ first ∷ rest
    → IsVersion v × (first ≡ version_line v)
    → t ≡ empty_of v
    → Halfway kind all rest t 1
begins kind all first rest v t e version new = search rules

-- bytes that name neither version name none
pub other_version :
    (line : List ℕ)
    → (line ≡ codes "pim 1" → ⊥)
    → (line ≡ codes "pim 2" → ⊥)
    → ReadsAs IsVersion version_line line None
other_version line first second zero is e = omega (arith, is.0)
other_version line first second (suc zero) is e = first (e ∙ first_version)
other_version line first second (suc (suc zero)) is e = second (e ∙ second_version)
other_version line first second (suc (suc (suc v))) is e = omega (arith, is.1)

-- a line that names none is no first line
pub no_version :
    (kind : Kind) (all : List (List ℕ)) (first : List ℕ) (rest : List (List ℕ))
    → all ≡ first ∷ rest
    → ReadsAs IsVersion version_line first None
    → FirstBad (IsOf kind) all 1
no_version kind all first rest e none = (
  inl refl,
  omega arith,
  λ valid. none valid.0.version valid.1.0.0.version
      (let same : first ∷ [] ≡ spelled_lines valid.0 = sym (ap (take 1) e) ∙ valid.1.0.1 in cc),
)
