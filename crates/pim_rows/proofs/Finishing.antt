-- The rows of a text, written part by part.
use Rattle.std.proofs.Common.{◌≡◌, ◌<◌, ◌≤◌, inl, inr, ℕ, ◌+◌, ◌==◌, Bool, true, false, ◌||◌, List}
use Rattle.std.proofs.Common.{[], ◌∷◌, ◌++◌, map, refl, sym, ◌∙◌, ap, append_assoc, arith, nat_lt}
use Rattle.std.proofs.Common.{flat_map, count_by, cond, length, if◌then◌else◌}
use Rattle.std.proofs.lemmas.Bool.Decides.{leb_tells}
use Rattle.std.proofs.lemmas.List.{append-nil}
use Rattle.std.proofs.lemmas.List.Sums.{sum_by-append}
use Rattle.pim_rows.specs.Moments.{Moment, now, number, clock}
use Rattle.pim_rows.specs.Found.{all_sections, nests}
use Rattle.pim_rows.specs.Rows.{Row, row, row_text, text_of, rows_of, all_rows, ended_rows}
use Rattle.pim_rows.specs.Rows.{lasting_rows, lasting_wait, lasting_block, lasting_run, by_number}
use Rattle.pim_rows.specs.Rows.{section_row, nests_row, deadlock_rows, end_row, wait_with}
use Rattle.pim_rows.specs.Rows.{status_of, was_inverted}
use Rattle.pim_rows.specs.declared.row.Word.TheVariants as words
use Rattle.pim_rows.proofs.NoWaits.{count-flat_map, count-lasting_block, count-lasting_run}
use Rattle.pim_rows.proofs.NoWaits.{wait_that}

text-append : (xs ys : List Row) → text_of (xs ++ ys) ≡ text_of xs ++ text_of ys
text-append [] ys = refl
text-append (x ∷ xs) ys =
    rw (text-append xs ys) (sym (append_assoc (row_text x) (text_of xs) (text_of ys)))

text-one : (r : Row) → text_of (r ∷ []) ≡ row_text r
text-one r = append-nil (row_text r)

-- the parts of a text that are written one after another
parts : (ended waits blocks runs sections nests deadlocks : List Row) (end : Row) →
    ((((((text_of ended ++ text_of waits) ++ text_of blocks) ++ text_of runs) ++ text_of sections)
    ++ text_of nests) ++ text_of deadlocks) ++ row_text end
    ≡ text_of ((ended ++ (waits ++ blocks ++ runs)) ++ sections ++ nests ++ deadlocks ++ end ∷ [])
parts ended waits blocks runs sections nests deadlocks end =
    simp (text-append, text-one, append_assoc) refl

pub some_bad : (n d : ℕ) → 0 < n → nat_lt 0 n ≡ (nat_lt 0 n || nat_lt 0 d)
some_bad n d some =
    elim (leb_tells 1 n) [ inl (h, _) ↦ rw h refl | inr (_, less) ↦ absurd (omega arith) ]

pub none_bad : (n d : ℕ) → n ≤ 0 → nat_lt 0 d ≡ (nat_lt 0 n || nat_lt 0 d)
none_bad n d none =
    elim (leb_tells 1 n) [ inl (_, le) ↦ absurd (omega arith) | inr (h, _) ↦ rw h refl ]

module _ (ms : List Moment) where
  -- the rows of what ended, and of the waits that last, are all that are of waits
  pub all_counted :
      (h : Row → Bool) (a b : ℕ) → a ≡ count_by (wait_that h) (ended_rows ms)
      → b ≡ count_by (wait_that h) (flat_map (lasting_wait ms) (by_number (now ms)))
      → a + b ≡ count_by (wait_that h) (all_rows ms)
  all_counted h a b is_a is_b =
      let p = wait_that h in
      let f : Row → ℕ = λ r. cond (p r) 1 0 in
      let ts = by_number (now ms) in
      let ws = flat_map (lasting_wait ms) ts in
      let bs = flat_map (lasting_block ms) ts in
      let rs = flat_map (lasting_run ms) ts in
      let all : count_by p (all_rows ms) ≡ count_by p (ended_rows ms)
      + count_by p (ws ++ bs ++ rs) = sum_by-append f (ended_rows ms) (lasting_rows ms) in
      let last : count_by p (ws ++ bs ++ rs) ≡ count_by p (ws ++ bs) + count_by p rs =
      sum_by-append f (ws ++ bs) rs in
      let first : count_by p (ws ++ bs) ≡ count_by p ws + count_by p bs = sum_by-append f ws bs in
      let no_b : count_by p bs ≡ 0 =
      count-flat_map p (lasting_block ms) (count-lasting_block h ms) ts in
      let no_r : count_by p rs ≡ 0 =
      count-flat_map p (lasting_run ms) (count-lasting_run h ms) ts in
      omega arith

  pub ended_with : (n time a b d : ℕ) → n ≡ number ms → time ≡ clock ms
      → a ≡ count_by (wait_with (λ n. true)) (all_rows ms)
      → b ≡ count_by (wait_with (λ n. nat_lt 0 n)) (all_rows ms)
      → d ≡ length (deadlock_rows (now ms))
      → row words.End (n ∷ time ∷ a ∷ b ∷ d ∷ [])
      ≡ end_row ms (all_rows ms) (deadlock_rows (now ms))
  ended_with n time a b d is_n is_time is_a is_b is_d =
      rw is_n (rw is_time (rw is_a (rw is_b (rw is_d refl))))

  pub all_written : (o0 o1 o2 o3 o4 o5 o6 o7 : List ℕ) (end : Row)
      → o0 ≡ text_of (ended_rows ms)
      → o1 ≡ o0 ++ text_of (flat_map (lasting_wait ms) (by_number (now ms)))
      → o2 ≡ o1 ++ text_of (flat_map (lasting_block ms) (by_number (now ms)))
      → o3 ≡ o2 ++ text_of (flat_map (lasting_run ms) (by_number (now ms)))
      → o4 ≡ o3 ++ text_of (map section_row (all_sections ms))
      → o5 ≡ o4 ++ text_of (map nests_row (nests ms))
      → o6 ≡ o5 ++ text_of (deadlock_rows (now ms))
      → o7 ≡ o6 ++ row_text end
      → end ≡ end_row ms (all_rows ms) (deadlock_rows (now ms))
      → o7 ≡ text_of (rows_of ms)
  all_written o0 o1 o2 o3 o4 o5 o6 o7 end e0 e1 e2 e3 e4 e5 e6 e7 is_end =
      let ts = by_number (now ms) in
      e7 ∙ ap (λ r. o6 ++ row_text r) is_end
      ∙ ap (λ o. o ++ row_text (end_row ms (all_rows ms) (deadlock_rows (now ms))))
      (e6 ∙ ap (λ o. o ++ text_of (deadlock_rows (now ms)))
      (e5 ∙ ap (λ o. o ++ text_of (map nests_row (nests ms)))
      (e4 ∙ ap (λ o. o ++ text_of (map section_row (all_sections ms)))
      (e3 ∙ ap (λ o. o ++ text_of (flat_map (lasting_run ms) ts))
      (e2 ∙ ap (λ o. o ++ text_of (flat_map (lasting_block ms) ts))
      (e1 ∙ ap (λ o. o ++ text_of (flat_map (lasting_wait ms) ts)) e0))))))
      ∙ parts (ended_rows ms) (flat_map (lasting_wait ms) ts) (flat_map (lasting_block ms) ts)
      (flat_map (lasting_run ms) ts) (map section_row (all_sections ms)) (map nests_row (nests ms))
      (deadlock_rows (now ms)) (end_row ms (all_rows ms) (deadlock_rows (now ms)))

  one_if : (b : Bool) → b ≡ ((if b then 1 else 0) == 1)
  one_if true = refl
  one_if false = refl

  pub status_is :
      (b d : ℕ)
      → b ≡ count_by was_inverted (all_rows ms)
      → d ≡ length (deadlock_rows (now ms))
      → (nat_lt 0 b || nat_lt 0 d) ≡ (status_of ms == 1)
  status_is b d is_b is_d =
      ap (λ n. nat_lt 0 n || nat_lt 0 d) is_b
      ∙ ap (λ n. nat_lt 0 (count_by was_inverted (all_rows ms)) || nat_lt 0 n) is_d
      ∙ one_if (nat_lt 0 (count_by was_inverted (all_rows ms))
      || nat_lt 0 (length (deadlock_rows (now ms))))
