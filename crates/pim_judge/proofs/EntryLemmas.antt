-- The verdict of entries, from one on.
use Rattle.std.proofs.Common.{◌≡◌, ◌<◌, ◌≤◌, ◌+◌, ◌-◌, if◌then◌else◌, ℕ, Bool, List}
use Rattle.std.proofs.Common.{length, map, drop, get_or, Some, ◌∙◌, ap, sym, arith}
use Rattle.std.proofs.lemmas.List.{length-map, get_or-map, drop_all}
use Rattle.pim_base.specs.State.{State}
use Rattle.pim_base.specs.Steps.{after, reply_of}
use Rattle.pim_base.specs.Recordings.{entry_line}
use Rattle.pim_base.specs.Reports.{agrees, verdict_from}
use Rattle.pim_base.specs.declared.steps.Entry.{Entry}
use Rattle.pim_base.specs.declared.steps.Reply.{Reply}
use Rattle.pim_base.specs.declared.lines.Verdict.TheVariants as verdicts
use Rattle.pim_judge.proofs.ReportLemmas.{verdict_next}

-- the verdict of the entries from one on
pub entry_verdict :
    (k : ℕ) (S T : State) (es : List Entry) (i : ℕ) (e : Entry) (reply : Reply) (goes_on : Bool)
    → i < length es
    → e ≡ get_or es i e
    → T ≡ after S e.step
    → reply ≡ reply_of S e.step
    → goes_on ≡ agrees (Some e.reply) reply
    → verdict_from k S (drop i (map entry_line es))
    ≡ (if goes_on then verdict_from (k + 1) T (drop (i + 1) (map entry_line es)) else verdicts.Rejected k)
entry_verdict k S T es i e reply goes_on inside at next replied says =
    verdict_next k S T (map entry_line es) i (entry_line e) goes_on
    (omega (arith, length-map es entry_line))
    (ap entry_line at ∙ sym (get_or-map entry_line es i e (entry_line e) inside))
    next
    (says ∙ ap (agrees (Some e.reply)) replied)

-- after the last entry
pub end_verdict :
    (S : State) (es : List Entry) (i : ℕ)
    → i ≡ length es
    → verdict_from (i + 1) S (drop i (map entry_line es)) ≡ verdicts.Accepted (length es)
end_verdict S es i e =
    let over : length (map entry_line es) ≤ i = omega (arith, length-map es entry_line) in
    ap (verdict_from (i + 1) S) (drop_all i (map entry_line es) over)
    ∙ ap verdicts.Accepted (let less : (i + 1) - 1 ≡ length es = omega arith in less)
