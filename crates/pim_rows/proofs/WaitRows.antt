-- The text of the rows of a wait.
use Rattle.std.proofs.Common.{◌≡◌, ℕ, List, ◌∷◌, ◌++◌, sym, ◌∙◌, ap, map, append_assoc, Result}
use Rattle.std.specs.Prelude.{IfOk, Ok, Err}
use Rattle.std.proofs.lemmas.List.Concat.{flat_map-append}
use Rattle.pim_rows.specs.Moments.{Moment}
use Rattle.pim_rows.specs.Begun.{WaitStart}
use Rattle.pim_rows.specs.Tallies.{Tally}
use Rattle.pim_rows.specs.Rows.{wait_row, wait_rows, inverted_row, stalled_row, meanwhile_row}
use Rattle.pim_rows.specs.Rows.{text_of, Row, row, row_text}
use Rattle.pim_rows.specs.declared.row.Word.TheVariants as words

pub if_ok :
    {T E : Type 0} {P Q : T → Type 0} (r : Result T E)
    → ((x : T) → P x → Q x)
    → IfOk r P
    → IfOk r Q
if_ok (Ok x) f p = f x p
if_ok (Err e) f p = p

-- a row and three lists of rows that were appended one after another
pub joined :
    (o : List ℕ) (r : Row) (a b c : List Row)
    → o ++ row_text r ++ text_of a ++ text_of b ++ text_of c ≡ o ++ text_of (r ∷ (a ++ b ++ c))
joined o r a b c =
    append_assoc (o ++ row_text r ++ text_of a) (text_of b) (text_of c)
    ∙ append_assoc (o ++ row_text r) (text_of a) (text_of b ++ text_of c)
    ∙ append_assoc o (row_text r) (text_of a ++ (text_of b ++ text_of c))
    ∙ ap (λ l. o ++ (row_text r ++ l))
    (sym (append_assoc (text_of a) (text_of b) (text_of c))
    ∙ ap (λ l. l ++ text_of c) (sym (flat_map-append row_text a b))
    ∙ sym (flat_map-append row_text (a ++ b) c))

pub wait_text :
    (s : WaitStart)
    (ms : List Moment) (until : ℕ) (times : Tally) (numbers o o1 o2 o3 o4 : List ℕ) (line : ℕ)
    → numbers ≡ (wait_row s ms until times).numbers
    → s.line ≡ line
    → o1 ≡ o ++ row_text (row words.Wait numbers)
    → o2 ≡ o1 ++ text_of (map (inverted_row line) times.inverted)
    → o3 ≡ o2 ++ text_of (map (stalled_row line) times.stalled)
    → o4 ≡ o3 ++ text_of (map (meanwhile_row line) times.meanwhile)
    → o4 ≡ o ++ text_of (wait_rows s ms until times)
wait_text s ms until times numbers o o1 o2 o3 o4 line n same a b c d =
    let inverted = map (inverted_row line) times.inverted in
    let stalled = map (stalled_row line) times.stalled in
    let meanwhile = map (meanwhile_row line) times.meanwhile in
    d
    ∙ ap (λ l. l ++ text_of meanwhile)
    (c ∙ ap (λ l. l ++ text_of stalled)
    (b ∙ ap (λ l. l ++ text_of inverted) (a ∙ ap (λ n. o ++ row_text (row words.Wait n)) n)))
    ∙ joined o (wait_row s ms until times) inverted stalled meanwhile
    ∙ ap
    (λ line. o ++ text_of (wait_row s ms until times ∷ (map (inverted_row line) times.inverted
    ++ map (stalled_row line) times.stalled ++ map (meanwhile_row line) times.meanwhile)))
    (sym same)
