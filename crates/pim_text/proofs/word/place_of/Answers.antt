use Rattle.std.proofs.Common.{arith, sym, eqb, eq-eqb, ◌∙◌}
use Rattle.std.proofs.lemmas.Simd.{none_from_empty_mask}
use Rattle.pim_text.proofs.SeparatorLemmas.{none_further, first_marked, found_at, found_nowhere}
use Rattle.pim_text.proofs.word.place_of.Goals as goal

pub returns-then-marks-ne0 : goal.returns-then-marks-ne0
returns-then-marks-ne0 c =
    first_marked (λ b. eqb b c.args.separator) c.args.bytes.now c.looks.place c.marks_at-marks.result
    (omega arith) c.looks.invariant.passed
    c.marks_at-marks.ensures (λ zero. omega arith)

pub looks-preserved : goal.looks-preserved
looks-preserved c = record {
  inside = omega arith;
  passed =
      none_further (λ b. eqb b c.args.separator) c.args.bytes.now c.looks.place _ c.looks.invariant.passed
      (none_from_empty_mask (λ b. eqb b c.args.separator) c.args.bytes.now c.looks.place 16 0 (omega arith)
      (sym c.marks_at-marks.ensures ∙ c.if-marks-ne0.false));
}

pub returns-then-bytes-place : goal.returns-then-bytes-place
returns-then-bytes-place c =
    found_at (λ b. eqb b c.args.separator) c.args.bytes.now c.steps.place (omega arith) c.steps.invariant.passed
    (eq-eqb _ _ c.if-bytes-place.true)

pub returns : goal.returns
returns c =
    found_nowhere (λ b. eqb b c.args.separator) c.args.bytes.now c.steps.place (omega arith) c.steps.invariant.passed
