-- Rows of which none is of a wait for a mutex.
use Rattle.std.proofs.Common.{◌≡◌, ◌∙◌, ℕ, ◌+◌, Bool, true, false, List, [], ◌∷◌, refl, zero-add}
use Rattle.std.proofs.Common.{ap, Option, Some, None, if◌then◌else◌, cond}
use Rattle.std.specs.Prelude.{flat_map, count_by, nat_lt, slice_get, ◌&&◌}
use Rattle.std.specs.Option.{option_map_or}
use Rattle.std.proofs.lemmas.List.Sums.{sum_by-append}
use Rattle.pim_fact_lines.specs.declared.line.Ended.TheVariants as ends
use Rattle.pim_rows.specs.Moments.{Moment, now, number, clock, began}
use Rattle.pim_rows.specs.Begun.{RunStart, run_start, block, is_blocked, is_run_apart, run_apart}
use Rattle.pim_rows.specs.Rows.{Row, is_wait, blocked_row, ran_row, ran_rows, ended_run}
use Rattle.pim_rows.specs.Rows.{lasting_block, lasting_run}

-- this holds of none of the rows of any item
pub count-flat_map :
    {X : Type 0} (p : Row → Bool) (f : X → List Row)
    → ((x : X) → count_by p (f x) ≡ 0) → (xs : List X)
    → count_by p (flat_map f xs) ≡ 0
count-flat_map p f never [] = refl
count-flat_map p f never (x ∷ xs) =
    sum_by-append (λ r. cond (p r) 1 0) (f x) (flat_map f xs)
    ∙ ap (λ n. n + count_by p (flat_map f xs)) (never x)
    ∙ zero-add (count_by p (flat_map f xs)) ∙ count-flat_map p f never xs

-- the twelfth number of a row passes
abbrev pub twelfth : (ℕ → Bool) → Row → Bool
twelfth h r = option_map_or h (slice_get r.numbers 11) false

-- the row is that of a wait, and passes
abbrev pub wait_that : (Row → Bool) → Row → Bool
wait_that h r = is_wait r.word && h r

module _ (h : Row → Bool) where
  one_or_none :
      (r : Row) (b : Bool)
      → wait_that h r ≡ false
      → count_by (wait_that h) (if b then r ∷ [] else []) ≡ 0
  one_or_none r true no_wait = ap (λ b. 0 + cond b 1 0) no_wait
  one_or_none r false no_wait = refl

  pub count-lasting_block :
      (ms : List Moment) (t : ℕ)
      → count_by (wait_that h) (lasting_block ms t) ≡ 0
  count-lasting_block ms t =
      one_or_none (blocked_row (block t (began (is_blocked t) ms)) ms 0 ends.Unknown)
      (is_blocked t (now ms)) refl

  pub count-ran_rows :
      (start : RunStart) (time until : ℕ)
      → count_by (wait_that h) (ran_rows start time until) ≡ 0
  count-ran_rows start time until =
      one_or_none (ran_row start time until) (nat_lt start.from time) refl

  of_option :
      {X : Type 0} (f : X → List Row)
      → ((x : X) → count_by (wait_that h) (f x) ≡ 0) → (o : Option X)
      → count_by (wait_that h) (option_map_or f o []) ≡ 0
  of_option f never None = refl
  of_option f never (Some x) = never x

  pub count-lasting_run : (ms : List Moment) (t : ℕ) → count_by (wait_that h) (lasting_run ms t) ≡ 0
  count-lasting_run ms t =
      of_option (λ both. ran_rows (run_start t both (began (is_run_apart t both) ms)) (clock ms) 0)
      (λ both. count-ran_rows (run_start t both (began (is_run_apart t both) ms)) (clock ms) 0)
      (run_apart (now ms) t)

  none_or :
      (rs : List Row) (b : Bool)
      → count_by (wait_that h) rs ≡ 0
      → count_by (wait_that h) (if b then [] else rs) ≡ 0
  none_or rs true none = refl
  none_or rs false none = none

  pub count-ended_run :
      (ms before : List Moment) (t : ℕ)
      → count_by (wait_that h) (ended_run ms before t) ≡ 0
  count-ended_run ms before t =
      of_option
      (λ both. if is_run_apart t both (now ms) then []
      else ran_rows (run_start t both (began (is_run_apart t both) before)) (clock ms) (number ms))
      (λ both. none_or
      (ran_rows (run_start t both (began (is_run_apart t both) before)) (clock ms) (number ms))
      (is_run_apart t both (now ms))
      (count-ran_rows
      (run_start t both (began (is_run_apart t both) before)) (clock ms) (number ms)))
      (run_apart (now before) t)
