-- What a tracker has written after one line more.
use Rattle.std.proofs.Common.{◌≡◌, ℕ, ◌+◌, List, [], ◌++◌, sym, subst, add-zero, flat_map, true}
use Rattle.std.proofs.Common.{nat_lt}
use Rattle.pim_fact_lines.specs.declared.line.Line.{Line}
use Rattle.pim_rows.specs.Moments.{Moment, now, followed_by}
use Rattle.pim_rows.specs.Rows.{ended_rows, ended_run, by_number, wait_with, text_of, Row}
use Rattle.pim_rows.specs.Ending.{Puts, ArePut, ended_of}
use Rattle.pim_rows.specs.declared.ended_rows.EndedWaits.{EndedWaits}
use Rattle.pim_rows.proofs.Appended.{puts_more}
use Rattle.pim_rows.proofs.NoWaits.{count-ended_run, count-flat_map, twelfth}

module _ (ms : List Moment) (l : Line) where
  abbrev runs_ended : List Row
  runs_ended = flat_map (ended_run (followed_by ms l) ms) (by_number (now ms))

  runs_put : (o o1 : List ℕ) → o1 ≡ o ++ text_of runs_ended → Puts runs_ended o o1 0 0
  runs_put o o1 text = record {
    text = text;
    waits =
        sym (count-flat_map (wait_with (λ n. true)) (ended_run (followed_by ms l) ms)
        (count-ended_run (twelfth (λ n. true)) (followed_by ms l) ms) (by_number (now ms)));
    inverted =
        sym (count-flat_map (wait_with (λ n. nat_lt 0 n)) (ended_run (followed_by ms l) ms)
        (count-ended_run (twelfth (λ n. nat_lt 0 n)) (followed_by ms l) ms) (by_number (now ms)));
  }

  pub written_after :
      (o o1 o2 : List ℕ) (a b : ℕ) (counts : EndedWaits)
      → Puts (ended_rows ms) [] o a b
      → ArePut (ended_of ms l) o o1 counts
      → o2 ≡ o1 ++ text_of runs_ended
      → Puts (ended_rows (followed_by ms l)) [] o2 (a + counts.waits) (b + counts.inverted)
  written_after o o1 o2 a b counts before put text =
      let first : Puts (ended_of ms l) o o1 counts.waits counts.inverted =
      record { text = put.text; waits = put.counted.waits; inverted = put.counted.inverted } in
      let both = puts_more (ended_of ms l) runs_ended o o1 o2 counts.waits counts.inverted 0 0 first
      (runs_put o1 o2 text) in
      let all = puts_more (ended_rows ms) (ended_of ms l ++ runs_ended) [] o o2 a b
      (counts.waits + 0) (counts.inverted + 0) before both in
      let P : ℕ → Type 0 =
      λ n. Puts (ended_rows (followed_by ms l)) [] o2 (a + n) (b + (counts.inverted + 0)) in
      let Q : ℕ → Type 0 =
      λ n. Puts (ended_rows (followed_by ms l)) [] o2 (a + counts.waits) (b + n) in
      subst Q (add-zero counts.inverted) (subst P (add-zero counts.waits) all)
