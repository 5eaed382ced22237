-- What was written of what lasts.
use Rattle.std.proofs.Common.{◌≡◌, ◌≤◌, ◌<◌, ◌+◌, ◌-◌, ℕ, Bool, true, false, List, [], ◌∷◌, ◌++◌}
use Rattle.std.proofs.Common.{refl, sym, ◌∙◌, ap, arith, map, length, get_or, take, append_assoc}
use Rattle.std.proofs.Common.{append-nil, Option, None, unwrap_or, cond}
use Rattle.std.specs.Prelude.{flat_map, count_by, nat_lt}
use Rattle.std.proofs.lemmas.List.Concat.{flat_map-append}
use Rattle.std.proofs.lemmas.List.Sums.{sum_by-cons, sum_by-append}
use Rattle.std.proofs.lemmas.List.{take_more}
use Rattle.pim_base.specs.Lists.{nth}
use Rattle.pim_base.proofs.Places.{nth-get_or}
use Rattle.pim_rows.specs.Moments.{Moment}
use Rattle.pim_rows.specs.Begun.{WaitStart}
use Rattle.pim_rows.specs.Tallies.{Tally, total}
use Rattle.pim_rows.proofs.NoWaits.{twelfth, wait_that}
use Rattle.pim_rows.specs.Rows.{Row, row_text, wait_row, wait_rows, wait_with, inverted_row}
use Rattle.pim_rows.specs.Rows.{stalled_row, meanwhile_row, text_of}
use Rattle.pim_rows.specs.Ending.{Puts}

-- what was kept at a number
pub taken :
    {X : Type 0} (xs : List (Option X)) (n m : ℕ) (r s : Option X)
    → m ≡ n
    → 1 ≤ m
    → m ≤ length xs
    → r ≡ s
    → s ≡ get_or xs (m - 1) s
    → r ≡ unwrap_or (nth xs n) None
taken xs n m r s same least most r_is s_is =
    r_is ∙ s_is
    ∙ sym (ap (λ o. unwrap_or o None) (nth-get_or xs n (m - 1) s (omega arith) (omega arith)))

-- ---- rows after rows

pub text_more :
    (xs ys : List Row) (o o1 o2 : List ℕ)
    → o1 ≡ o ++ text_of xs → o2 ≡ o1 ++ text_of ys → o2 ≡ o ++ text_of (xs ++ ys)
text_more xs ys o o1 o2 p q =
    q ∙ ap (λ l. l ++ text_of ys) p ∙ append_assoc o (text_of xs) (text_of ys)
    ∙ ap (λ l. o ++ l) (sym (flat_map-append row_text xs ys))

one_more :
    {X : Type 0} (f : X → List Row) (xs : List X) (i : ℕ) (x : X)
    → i < length xs
    → x ≡ get_or xs i x
    → flat_map f (take i xs) ++ f x ≡ flat_map f (take (i + 1) xs)
one_more f xs i x lt is =
    ap (λ y. flat_map f (take i xs) ++ f y) is
    ∙ ap (λ l. flat_map f (take i xs) ++ l) (sym (append-nil (f (get_or xs i x))))
    ∙ sym
    (ap (flat_map f) (take_more xs i x lt) ∙ flat_map-append f (take i xs) (get_or xs i x ∷ []))

-- the text of the rows of one item more
pub text_of_one_more :
    {X : Type 0} (f : X → List Row) (xs : List X) (i : ℕ) (x : X) (o o1 o2 : List ℕ)
    → i < length xs → x ≡ get_or xs i x
    → o1 ≡ o ++ text_of (flat_map f (take i xs)) → o2 ≡ o1 ++ text_of (f x)
    → o2 ≡ o ++ text_of (flat_map f (take (i + 1) xs))
text_of_one_more f xs i x o o1 o2 lt is p q =
    text_more (flat_map f (take i xs)) (f x) o o1 o2 p q
    ∙ ap (λ rows. o ++ text_of rows) (one_more f xs i x lt is)

pub puts_none : (o : List ℕ) → Puts [] o o 0 0
puts_none o = record { text = sym (append-nil o); waits = refl; inverted = refl }

counts_more :
    (p : Row → Bool) (xs ys : List Row) (a b : ℕ)
    → a ≡ count_by p xs
    → b ≡ count_by p ys
    → a + b ≡ count_by p (xs ++ ys)
counts_more p xs ys a b is_a is_b =
    ap (λ n. n + b) is_a
    ∙ ap (λ n. count_by p xs + n) is_b ∙ sym (sum_by-append (λ x. cond (p x) 1 0) xs ys)

pub puts_more :
    (xs ys : List Row) (o o1 o2 : List ℕ) (a b c d : ℕ)
    → Puts xs o o1 a b → Puts ys o1 o2 c d → Puts (xs ++ ys) o o2 (a + c) (b + d)
puts_more xs ys o o1 o2 a b c d p q = record {
  text = text_more xs ys o o1 o2 p.text q.text;
  waits = counts_more (wait_with (λ n. true)) xs ys a c p.waits q.waits;
  inverted = counts_more (wait_with (λ n. nat_lt 0 n)) xs ys b d p.inverted q.inverted;
}

-- the rows of one item more
pub puts_one_more :
    {X : Type 0} (f : X → List Row) (xs : List X) (i : ℕ) (x : X) (o o1 o2 : List ℕ) (a b c d : ℕ)
    → i < length xs → x ≡ get_or xs i x
    → Puts (flat_map f (take i xs)) o o1 a b → Puts (f x) o1 o2 c d
    → Puts (flat_map f (take (i + 1) xs)) o o2 (a + c) (b + d)
puts_one_more f xs i x o o1 o2 a b c d lt is p q =
    rw (sym (one_more f xs i x lt is))
    (puts_more (flat_map f (take i xs)) (f x) o o1 o2 a b c d p q)

-- ---- how many rows are of waits

pub none_counted :
    {X : Type 0} (p : Row → Bool) (g : X → Row)
    → ((x : X) → p (g x) ≡ false) → (xs : List X) → count_by p (map g xs) ≡ 0
none_counted p g never [] = refl
none_counted p g never (x ∷ xs) =
    let rest = none_counted p g never xs in
    sum_by-cons (λ r. cond (p r) 1 0) (g x) (map g xs)
    ∙ ap (λ b. cond b 1 0 + count_by p (map g xs)) (never x) ∙ omega arith

-- only the first row of a wait is of a wait
pub count-wait_rows :
    (h : Row → Bool) (s : WaitStart) (ms : List Moment) (until : ℕ) (times : Tally)
    → count_by (wait_that h) (wait_rows s ms until times) ≡ cond (h (wait_row s ms until times)) 1 0
count-wait_rows h s ms until times =
    let f : Row → ℕ = λ r. cond (wait_that h r) 1 0 in
    let a = map (inverted_row s.line) times.inverted in
    let b = map (stalled_row s.line) times.stalled in
    let c = map (meanwhile_row s.line) times.meanwhile in
    let first : count_by (wait_that h) (wait_rows s ms until times)
    ≡ cond (h (wait_row s ms until times)) 1 0 + count_by (wait_that h) (a ++ b ++ c) =
    sum_by-cons f (wait_row s ms until times) (a ++ b ++ c) in
    let abc : count_by (wait_that h) (a ++ b ++ c)
    ≡ count_by (wait_that h) (a ++ b) + count_by (wait_that h) c = sum_by-append f (a ++ b) c in
    let ab : count_by (wait_that h) (a ++ b) ≡ count_by (wait_that h) a + count_by (wait_that h) b =
    sum_by-append f a b in
    let no_a : count_by (wait_that h) a ≡ 0 =
    none_counted (wait_that h) (inverted_row s.line) (λ x. refl) times.inverted in
    let no_b : count_by (wait_that h) b ≡ 0 =
    none_counted (wait_that h) (stalled_row s.line) (λ x. refl) times.stalled in
    let no_c : count_by (wait_that h) c ≡ 0 =
    none_counted (wait_that h) (meanwhile_row s.line) (λ x. refl) times.meanwhile in
    let rest : count_by (wait_that h) (a ++ b ++ c) ≡ 0 = omega arith in
    first ∙ ap (λ n. cond (h (wait_row s ms until times)) 1 0 + n) rest ∙ omega arith

-- the rows of a wait were appended
pub puts_wait :
    (s : WaitStart) (ms : List Moment) (until : ℕ) (times : Tally) (o o1 : List ℕ)
    → o1 ≡ o ++ text_of (wait_rows s ms until times)
    → Puts (wait_rows s ms until times) o o1 1 (cond (nat_lt 0 (total times.inverted)) 1 0)
puts_wait s ms until times o o1 text = record {
  text = text;
  waits = sym (count-wait_rows (twelfth (λ n. true)) s ms until times);
  inverted = sym (count-wait_rows (twelfth (λ n. nat_lt 0 n)) s ms until times);
}
