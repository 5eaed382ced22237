-- The lines of a text, before and behind a place where a line begins.
use Rattle.std.proofs.lemmas.Grind.{common_steps}
use Rattle.std.proofs.Common.{◌≡◌, ◌∙◌, ◌⊎◌, ℕ, ◌+◌, ◌-◌, ◌<◌, ◌≤◌, List, [], ◌∷◌, ◌++◌, length, length-append, append_assoc}
use Rattle.std.proofs.Common.{Bool, true, false, Option, Some, None, Bor, arith, refl, sym, ap, subst, eqb, take, inl, inr}
use Rattle.std.specs.List.{slice_split, onto_first, join_with_byte}
use Rattle.std.proofs.lemmas.List.{append-nil}
use Rattle.std.proofs.lemmas.List.Splits.{slice_split-cons_yes, slice_split-cons_no, length-slice_split}
use Rattle.std.proofs.lemmas.List.Splits.{join_with_byte-slice_split}
use Rattle.pim_base.specs.Spelling.{NEWLINE}
use Rattle.pim_base.specs.Texts.{without_empty_last, lines_of}
use Rattle.pim_text.specs.Reading.{pieces}
use Rattle.pim_text.specs.Explains.{IsLineAt}

abbrev parts : List ℕ → List (List ℕ)
parts bytes = slice_split (λ b. eqb b NEWLINE) bytes

some_parts : (bytes : List ℕ) → 0 < length (parts bytes)
some_parts bytes = omega (arith, length-slice_split (λ b. eqb b NEWLINE) bytes)

-- ---- the parts of bytes, and of those behind a newline

onto_front : (x : ℕ) (ps qs : List (List ℕ)) → 0 < length ps → onto_first x (ps ++ qs) ≡ onto_first x ps ++ qs
onto_front x [] qs some = absurd (omega arith)
onto_front x (p ∷ ps) qs some = refl

one_more :
    (x : ℕ) (q r : List ℕ)
    → parts (q ++ NEWLINE ∷ r) ≡ parts q ++ parts r
    → (b : Bool)
    → eqb x NEWLINE ≡ b
    → parts (x ∷ (q ++ NEWLINE ∷ r)) ≡ parts (x ∷ q) ++ parts r
one_more x q r before true e =
    slice_split-cons_yes _ x (q ++ NEWLINE ∷ r) e
    ∙ ap (λ ps. [] ∷ ps) before
    ∙ sym (ap (λ ps. ps ++ parts r) (slice_split-cons_yes _ x q e))
one_more x q r before false e =
    slice_split-cons_no _ x (q ++ NEWLINE ∷ r) e
    ∙ ap (onto_first x) before
    ∙ onto_front x (parts q) (parts r) (some_parts q)
    ∙ sym (ap (λ ps. ps ++ parts r) (slice_split-cons_no _ x q e))

parts-newline : (q r : List ℕ) → parts (q ++ NEWLINE ∷ r) ≡ parts q ++ parts r
parts-newline [] r = slice_split-cons_yes _ NEWLINE r refl
parts-newline (x ∷ q) r = one_more x q r (parts-newline q r) (eqb x NEWLINE) refl

-- ---- lines

not_last : (p : List ℕ) (ps : List (List ℕ)) → 0 < length ps → without_empty_last (p ∷ ps) ≡ p ∷ without_empty_last ps
not_last p [] some = absurd (omega arith)
not_last [] (q ∷ ps) some = refl
not_last (x ∷ p) (q ∷ ps) some = refl

without_last-append :
    (ps qs : List (List ℕ)) → 0 < length qs → without_empty_last (ps ++ qs) ≡ ps ++ without_empty_last qs
without_last-append [] qs some = refl
without_last-append (p ∷ ps) qs some =
    not_last p (ps ++ qs) (omega (arith, length-append ps qs, some))
    ∙ ap (λ ls. p ∷ ls) (without_last-append ps qs some)

lines-newline : (q r : List ℕ) → lines_of (q ++ NEWLINE ∷ r) ≡ parts q ++ lines_of r
lines-newline q r =
    ap without_empty_last (parts-newline q r) ∙ without_last-append (parts q) (parts r) (some_parts r)

-- bytes that end with a newline, or none
abbrev pub IsWhole : List ℕ → Type 0
IsWhole bytes = (bytes ≡ []) ⊎ ((q : List ℕ) × (bytes ≡ q ++ NEWLINE ∷ []))

ended : (q : List ℕ) → lines_of (q ++ NEWLINE ∷ []) ≡ parts q
ended q = lines-newline q [] ∙ append-nil (parts q)

lines-whole : (p r : List ℕ) → IsWhole p → lines_of (p ++ r) ≡ lines_of p ++ lines_of r
lines-whole p r (inl e) = subst (λ p. lines_of (p ++ r) ≡ lines_of p ++ lines_of r) (sym e) refl
lines-whole p r (inr (q, e)) =
    subst (λ p. lines_of (p ++ r) ≡ lines_of p ++ lines_of r) (sym e)
    (ap lines_of (append_assoc q (NEWLINE ∷ []) r)
    ∙ lines-newline q r
    ∙ ap (λ ls. ls ++ lines_of r) (sym (ended q)))

-- ---- from one line to the next

-- `rest` is what is left of the text behind its first lines
pub record Reached (text rest : List ℕ) (number : ℕ) : Type 0 where
  pub before : List ℕ
  pub all : text ≡ before ++ rest
  pub whole : IsWhole before
  pub count : length (lines_of before) + 1 ≡ number

pub at_first : (text : List ℕ) → Reached text text 1
at_first text = record { before = []; all = refl; whole = inl refl; count = refl }

-- bytes that were cut, put together again
joined :
    (bytes line rest : List ℕ) → parts bytes ≡ line ∷ parts rest → bytes ≡ line ++ NEWLINE ∷ rest
joined bytes line rest cut =
    sym (join_with_byte-slice_split NEWLINE bytes)
    ∙ ap (join_with_byte NEWLINE) cut
    ∙ behind (parts rest) (some_parts rest)
    ∙ ap (λ t. line ++ NEWLINE ∷ t) (join_with_byte-slice_split NEWLINE rest)
  where
    behind :
        (ps : List (List ℕ))
        → 0 < length ps
        → join_with_byte NEWLINE (line ∷ ps) ≡ line ++ NEWLINE ∷ join_with_byte NEWLINE ps
    behind [] some = absurd (omega arith)
    behind (p ∷ ps) some = refl

whole_line : (p line : List ℕ) → IsWhole (p ++ (line ++ NEWLINE ∷ []))
whole_line p line = inr (p ++ line, sym (append_assoc p line (NEWLINE ∷ [])))

-- a line that was cut off has no newline, so it is one part
one_part : (bytes line rest : List ℕ) → parts bytes ≡ line ∷ parts rest → length (parts line) ≡ 1
one_part bytes line rest cut =
    let same : parts line ++ parts rest ≡ line ∷ parts rest =
    sym (parts-newline line rest) ∙ ap parts (sym (joined bytes line rest cut)) ∙ cut in
    omega (arith, ap length same, length-append (parts line) (parts rest))

pub next :
    (text bytes line rest : List ℕ) (number : ℕ)
    → Reached text bytes number
    → parts bytes ≡ line ∷ parts rest
    → Reached text rest (number + 1)
next text bytes line rest number here cut =
    let end : List ℕ = line ++ NEWLINE ∷ [] in
    let more : bytes ≡ end ++ rest = joined bytes line rest cut ∙ sym (append_assoc line (NEWLINE ∷ []) rest) in
    let size : length (lines_of (here.before ++ end)) ≡ length (lines_of here.before) + 1 =
    ap length (lines-whole here.before end here.whole ∙ ap (λ ls. lines_of here.before ++ ls) (ended line))
    ∙ length-append (lines_of here.before) (parts line)
    ∙ ap (λ n. length (lines_of here.before) + n) (one_part bytes line rest cut) in
    record {
      before = here.before ++ end;
      all = here.all ∙ ap (λ t. here.before ++ t) more ∙ sym (append_assoc here.before end rest);
      whole = whole_line here.before line;
      count = omega (arith, size, here.count);
    }

-- ---- the line that was reached

take_done : (done rest : List ℕ) → take (length done) (done ++ rest) ≡ done
take_done done rest = grind (arith, common_steps)

pub within : (text rest : List ℕ) (number : ℕ) → Reached text rest number → length rest ≤ length text
within text rest number here = omega (arith, ap length here.all, length-append here.before rest)

front :
    (text rest : List ℕ) (number : ℕ) (here : Reached text rest number)
    → take (length text - length rest) text ≡ here.before
front text rest number here =
    let size : length text ≡ length here.before + length rest = ap length here.all ∙ length-append here.before rest in
    let count : length text - length rest ≡ length here.before = omega (arith, size) in
    ap (λ n. take n text) count ∙ ap (take (length here.before)) here.all ∙ take_done here.before rest

first_of : List (List ℕ) → List ℕ
first_of [] = []
first_of (p ∷ ps) = p

first_line :
    (rest line : List ℕ) (o : Option (Bor (List ℕ)))
    → parts rest ≡ line ∷ pieces NEWLINE o
    → ((after : List (List ℕ)) × (lines_of rest ≡ line ∷ after)) ⊎ ((rest ≡ []) × (line ≡ []))
unfolding first_of
first_line [] line o cut = inr (refl, sym (ap first_of cut))
first_line (b ∷ bytes) line (Some r) cut =
    inl (lines_of r.now, ap without_empty_last cut ∙ not_last line (parts r.now) (some_parts r.now))
first_line (b ∷ bytes) [] None cut =
    let none : b ∷ bytes ≡ [] =
    sym (join_with_byte-slice_split NEWLINE (b ∷ bytes)) ∙ ap (join_with_byte NEWLINE) cut in
    absurd (let bad : ⊥ = cc in bad)
first_line (b ∷ bytes) (x ∷ line) None cut = inl ([], ap without_empty_last cut)

pub at_line :
    (text rest before line : List ℕ) (o : Option (Bor (List ℕ))) (number : ℕ)
    → Reached text rest number
    → before ≡ take (length text - length rest) text
    → parts rest ≡ line ∷ pieces NEWLINE o
    → IsLineAt (lines_of text) number (lines_of before) line
at_line text rest before line o number here is cut =
    let same : before ≡ here.before = is ∙ front text rest number here in
    let whole : lines_of text ≡ lines_of before ++ lines_of rest =
    ap lines_of here.all
    ∙ lines-whole here.before rest here.whole
    ∙ ap (λ b. lines_of b ++ lines_of rest) (sym same) in
    record {
      number = sym (ap (λ b. length (lines_of b) + 1) same ∙ here.count);
      there =
          elim (first_line rest line o cut) [
            | inl h ↦ inl (h.0, whole ∙ ap (λ ls. lines_of before ++ ls) h.1)
            | inr h ↦ inr (whole ∙ ap (λ r. lines_of before ++ lines_of r) h.0 ∙ append-nil (lines_of before), h.1)
          ];
    }

pub no_lines : (bytes : List ℕ) → length bytes ≡ 0 → lines_of bytes ≡ []
no_lines [] none = refl
no_lines (b ∷ bytes) none = absurd (omega (arith, none))
