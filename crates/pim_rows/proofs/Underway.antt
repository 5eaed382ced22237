-- One line more, and the first invalid one.
use Rattle.std.proofs.Common.{◌≡◌, ℕ, suc, ◌+◌, ◌-◌, length, List, [], ◌∷◌, ◌++◌, take, Bool}
use Rattle.std.proofs.Common.{true, false, if◌then◌else◌, ◌==◌, arith, refl, sym, ap, ◌∙◌, inr}
use Rattle.std.proofs.Common.{Option, Some, None, is_some, MatchOption}
use Rattle.std.specs.Option.{option_map}
use Rattle.std.proofs.lemmas.List.{append_assoc, append-nil}
use Rattle.std.proofs.lemmas.List.Sums.{fold-append}
use Rattle.pim_fact_lines.specs.declared.line.Line.{Line}
use Rattle.pim_fact_lines.specs.Lines.{given, line_of}
use Rattle.pim_fact_lines.specs.Texts.{is_header, lines_of}
use Rattle.pim_world.specs.Worlds.{World, no_world}
use Rattle.pim_world.specs.After.{after}
use Rattle.pim_world.specs.Following.{may_follow}
use Rattle.pim_world.specs.Texts.{line_after, lines_after, lines_in, Says, IsFirstInvalid}
use Rattle.pim_rows.specs.Moments.{Moment, now, first_moments, followed_by}
use Rattle.pim_rows.specs.Rows.{moments_of, status_of}

-- The first `count` lines of text `all` say `lines`, which have these moments, and `rest` is left:
-- what all of it says, and what each longer front says, is that and what the rest may add.
pub record Underway (all rest : List (List ℕ)) (ms : List Moment) (count : ℕ) : Type 0 where
  pub lines : List Line
  pub moments : ms ≡ moments_of lines
  pub whole : lines_in all ≡ option_map (λ more. lines ++ more) (lines_after (now ms) rest)
  pub front :
      (k : ℕ)
      → lines_in (take (count + k) all)
      ≡ option_map (λ more. lines ++ more) (lines_after (now ms) (take k rest))

nothing_before :
    (o : Option (List Line))
    → o ≡ option_map (λ more. [] ++ more) o
nothing_before None = refl
nothing_before (Some more) = refl

-- the first line is the version
pub starts :
    (all : List (List ℕ)) (first : List ℕ) (rest : List (List ℕ))
    → all ≡ first ∷ rest
    → is_header first ≡ true
    → Underway all rest first_moments 1
starts all first rest e is = rw e (record {
  lines = [];
  moments = refl;
  whole = rw is (nothing_before (lines_after no_world rest));
  front = λ k.
      let more : 1 + k ≡ suc k = omega arith in
      rw (more, is) (nothing_before (lines_after no_world (take k rest)));
})

-- the line that the next bytes spell is one of those before what is left
one_more :
    (w : World) (bytes : List ℕ) (ls : List (List ℕ)) (lines : List Line) (line : Line)
    → line_after w bytes ≡ Some line
    → option_map (λ more. lines ++ more) (lines_after w (bytes ∷ ls))
    ≡ option_map (λ more. (lines ++ line ∷ []) ++ more) (lines_after (after w line) ls)
one_more w bytes ls lines line is = rw is (go (lines_after (after w line) ls))
  where
    go :
        (o : Option (List Line))
        → option_map (λ more. lines ++ more) (option_map (λ more. line ∷ more) o)
        ≡ option_map (λ more. (lines ++ line ∷ []) ++ more) o
    go None = refl
    go (Some more) = ap Some (sym (append_assoc lines (line ∷ []) more))

pub next :
    {all left : List (List ℕ)} {ms : List Moment} {count : ℕ}
    (bytes : List ℕ) (rest : List (List ℕ)) (line : Line)
    → left ≡ bytes ∷ rest
    → Underway all left ms count
    → line_after (now ms) bytes ≡ Some line
    → Underway all rest (followed_by ms line) (count + 1)
next {all} {left} {ms} {count} bytes rest line e way is = record {
  lines = way.lines ++ line ∷ [];
  moments =
      ap (λ ms. followed_by ms line) way.moments
      ∙ sym (fold-append followed_by first_moments way.lines (line ∷ []));
  whole =
      way.whole ∙ ap (λ ls. option_map (λ more. way.lines ++ more) (lines_after (now ms) ls)) e
      ∙ one_more (now ms) bytes rest way.lines line is;
  front = λ k.
      let more : count + 1 + k ≡ count + suc k = omega arith in
      rw more (way.front (suc k))
      ∙ ap (λ ls. option_map (λ more. way.lines ++ more) (lines_after (now ms) (take (suc k) ls))) e
      ∙ one_more (now ms) bytes (take k rest) way.lines line is;
}

-- the line after valid ones that can't follow them
pub bad_next :
    {all left : List (List ℕ)} {ms : List Moment} {count : ℕ}
    (bytes : List ℕ) (rest : List (List ℕ))
    → left ≡ bytes ∷ rest
    → Underway all left ms count
    → line_after (now ms) bytes ≡ None
    → IsFirstInvalid all (count + 1)
bad_next {all} {left} {ms} {count} bytes rest e way refused =
    let before : count + 1 - 1 ≡ count + 0 = omega arith in
    let none : lines_in (take (count + 1) all) ≡ None =
    way.front 1
    ∙ ap (λ ls. option_map (λ more. way.lines ++ more) (lines_after (now ms) (take 1 ls))) e
    ∙ rw refused refl in (
      inr (rw before (ap is_some (way.front 0))),
      omega arith,
      λ valid. let bad : false ≡ true = sym (ap is_some none) ∙ valid in cc,
    )

-- a line that the bytes spell may follow
pub may :
    (w : World) (bytes : List ℕ) (line : Line)
    → line_after w bytes ≡ Some line
    → may_follow w line ≡ true
may w bytes line = spelled (line_of bytes)
  where
    allowed :
        (l : Line) (b : Bool) → may_follow w l ≡ b
        → (if b then Some l else None) ≡ Some line
        → may_follow w line ≡ true
    allowed l false is e = cc
    allowed l true is e = let same : line ≡ l = cc in ap (may_follow w) same ∙ is

    spelled :
        (o : Option Line)
        → given o (λ l. if may_follow w l then Some l else None) ≡ Some line
        → may_follow w line ≡ true
    spelled None e = cc
    spelled (Some l) e = allowed l (may_follow w l) refl e

-- no bytes are left: the text says the lines so far
pub ended :
    {all : List (List ℕ)} {ms : List Moment} {count : ℕ} (rest : List ℕ)
    → length rest ≡ 0
    → (way : Underway all (lines_of rest) ms count)
    → Says all way.lines
ended [] empty way = way.whole ∙ ap Some (append-nil way.lines)
ended (b ∷ rest) empty way = absurd (omega arith)

-- ---- the status, of whether it is 1

abbrev bit : Bool → ℕ
bit b = if b then 1 else 0

pub one : (ms : List Moment) (r : Bool) → r ≡ (status_of ms == 1) → r ≡ true → status_of ms ≡ 1
one ms r e t = go _ e t
  where
    go : (b : Bool) → r ≡ (bit b == 1) → r ≡ true → bit b ≡ 1
    go true e t = refl
    go false e t = cc

pub none : (ms : List Moment) (r : Bool) → r ≡ (status_of ms == 1) → r ≡ false → status_of ms ≡ 0
none ms r e f = go _ e f
  where
    go : (b : Bool) → r ≡ (bit b == 1) → r ≡ false → bit b ≡ 0
    go true e f = cc
    go false e f = refl

-- ---- whether a line was taken

pub refused :
    {T : Type 0} (why : Option T) (P Q : Type 0) (x : T)
    → why ≡ Some x
    → MatchOption why P (λ _. Q)
    → Q
refused None P Q x e h = cc
refused (Some y) P Q x e h = h

pub taken :
    {T : Type 0} (why : Option T) (P Q : Type 0)
    → why ≡ None
    → MatchOption why P (λ _. Q)
    → P
taken None P Q e h = h
taken (Some y) P Q e h = cc
