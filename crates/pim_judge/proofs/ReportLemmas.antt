-- What a step shows, and the report from a line on.
use Rattle.std.proofs.Common.{◌≡◌, ◌≤◌, ◌<◌, ◌+◌, ◌-◌, ℕ, suc, Bool, arith, List, [], ◌∷◌, ◌++◌, length}
use Rattle.std.proofs.Common.{drop, get_or, Result, ◌∙◌, ap, sym, subst, drop-cons, add-one, if◌then◌else◌}
use Rattle.std.specs.List.{flat_map}
use Rattle.std.proofs.lemmas.List.{drop_all, append-nil}
use Rattle.std.proofs.lemmas.List.Folds.{flat_map-map}
use Rattle.pim_base.specs.State.{State}
use Rattle.pim_base.specs.Steps.{after, reply_of}
use Rattle.pim_base.specs.Reports.{agrees, reply_line, rejection_lines, step_lines, change_line}
use Rattle.pim_base.specs.Reports.{changed_tasks, accepted, report_from, verdict_from}
use Rattle.pim_base.specs.declared.steps.Reply.{Reply}
use Rattle.pim_base.specs.declared.lines.StepLine.{StepLine}
use Rattle.pim_base.specs.declared.lines.Verdict.{Verdict}
use Rattle.pim_base.specs.declared.lines.Verdict.TheVariants as verdicts
use Rattle.pim_page.specs.Ends.{Told}
use Rattle.pim_page.specs.Printed.{changed_line}
use Rattle.pim_judge.specs.Printed.{line_of, shown_lines}
use Rattle.pim_judge.specs.Taken.{Takes}
use Rattle.pim_judge.specs.declared.fault.Fault.{Fault}
use Rattle.pim_judge.specs.declared.printer.Printer.{Printer}
use Rattle.pim_manager.specs.Changed.{TrackedState, changed_task, listed, stepped}

-- ---- what a step shows

-- what is listed of a task has the line of that task
lines_are : (S : State) (ts : List ℕ) → flat_map line_of (listed S ts) ≡ flat_map (change_line S) ts
unfolding change_line changed_line
lines_are S ts = flat_map-map line_of (changed_task S) ts

-- with the reply and the changes of a step these are its lines
shown_is :
    (k : ℕ) (h g : TrackedState) (line : StepLine) (reply : Reply)
    → reply ≡ reply_of h.state line.step
    → g ≡ stepped h line.step
    → shown_lines k reply line.recorded g.changed ≡ step_lines k h.state line
unfolding shown_lines
shown_is k h g line reply is next =
    let T = after h.state line.step in let changed = changed_tasks h.state T in
    let shown : List ℕ → Reply → List ℕ = λ bytes r.
    if agrees line.recorded r then reply_line k r ++ bytes else rejection_lines k r line.recorded in
    ap (λ (t : TrackedState). shown (flat_map line_of t.changed) reply) next
    ∙ ap (λ bytes. shown bytes reply) (lines_are T changed)
    ∙ ap (shown (flat_map (change_line T) changed)) is

-- so the report has what the step shows
pub takes_step :
    {W X : Type 0} (told : W → Told) (a b : Printer W) (r : Result X Fault)
    (k : ℕ) (h g : TrackedState) (line : StepLine) (reply : Reply)
    → Takes told a b (shown_lines k reply line.recorded g.changed) r
    → reply ≡ reply_of h.state line.step
    → g ≡ stepped h line.step
    → Takes told a b (step_lines k h.state line) r
takes_step told a b r k h g line reply takes is next =
    subst (λ bytes. Takes told a b bytes r) (shown_is k h g line reply is next) takes

-- ---- the lines from one on

from_line :
    (ls : List StepLine) (i : ℕ) (line : StepLine)
    → i < length ls
    → line ≡ get_or ls i line
    → drop i ls ≡ line ∷ drop (i + 1) ls
from_line ls i line inside at =
    drop-cons ls i line inside
    ∙ ap (λ (l : StepLine). l ∷ drop (suc i) ls) (sym at)
    ∙ ap (λ j. line ∷ drop j ls) (sym (add-one i))

module _ (k : ℕ) (S T : State) (ls : List StepLine) (i : ℕ) (line : StepLine) (goes_on : Bool)
    (inside : i < length ls) (at : line ≡ get_or ls i line) (next : T ≡ after S line.step)
    (says : goes_on ≡ agrees line.recorded (reply_of S line.step)) where
  -- the report goes on if the reply agrees, and is finished if it doesn't
  pub report_next :
      report_from k S (drop i ls)
      ≡ step_lines k S line ++ (if goes_on then report_from (k + 1) T (drop (i + 1) ls) else [])
  report_next =
      let shown : Bool → State → List ℕ = λ b U.
      step_lines k S line ++ (if b then report_from (k + 1) U (drop (i + 1) ls) else []) in
      ap (report_from k S) (from_line ls i line inside at)
      ∙ ap (λ b. shown b (after S line.step)) (sym says)
      ∙ ap (shown goes_on) (sym next)

  pub verdict_next :
      verdict_from k S (drop i ls)
      ≡ (if goes_on then verdict_from (k + 1) T (drop (i + 1) ls) else verdicts.Rejected k)
  verdict_next =
      let judged : Bool → State → Verdict = λ b U.
      if b then verdict_from (k + 1) U (drop (i + 1) ls) else verdicts.Rejected k in
      ap (verdict_from k S) (from_line ls i line inside at)
      ∙ ap (λ b. judged b (after S line.step)) (sym says)
      ∙ ap (judged goes_on) (sym next)

-- after the last line
pub report_end :
    (S : State) (ls : List StepLine) (i : ℕ)
    → i ≡ length ls
    → report_from (i + 1) S (drop i ls) ≡ accepted (length ls) ++ []
report_end S ls i e =
    ap (report_from (i + 1) S) (let over : length ls ≤ i = omega arith in drop_all i ls over)
    ∙ ap accepted (let less : (i + 1) - 1 ≡ length ls = omega arith in less) ∙ sym (append-nil (accepted (length ls)))
