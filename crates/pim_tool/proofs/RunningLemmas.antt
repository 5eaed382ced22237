-- What a run of a script writes and returns.
use Rattle.std.proofs.Common.{◌≡◌, ◌<◌, ◌+◌, ◌-◌, ◌^◌, ℕ, List, []}
use Rattle.std.proofs.Common.{length, map, Option, Some, None, Result, Ok, Err}
use Rattle.std.proofs.Common.{IfOk, IfErr, IfSome, ◌∙◌, ap, sym, subst, inl, inr, arith}
use Rattle.pim_base.specs.State.{State, start}
use Rattle.pim_base.specs.Steps.{after}
use Rattle.pim_base.specs.Texts.{Trace, lines_of}
use Rattle.pim_base.specs.Runs.{IsRun, IsInterleaving}
use Rattle.pim_base.specs.Scripts.{scripts_of}
use Rattle.pim_base.specs.Recordings.{IsRunOf, entry_line}
use Rattle.pim_base.specs.Reports.{verdict_from}
use Rattle.pim_base.specs.declared.steps.Entry.{Entry}
use Rattle.pim_base.specs.declared.steps.Op.{Op}
use Rattle.pim_base.specs.declared.lines.Verdict.{Verdict}
use Rattle.pim_base.specs.declared.lines.Verdict.TheVariants as verdicts
use Rattle.pim_base.proofs.Recorded.{recording_law}
use Rattle.pim_shared.specs.Gathered.{IsLogOf}
use Rattle.pim_shared.specs.Logs.{History}
use Rattle.pim_page.specs.Ends.{Puts, Appends, AppendsFront}
use Rattle.pim_judge.specs.Prints.{Stops, Prints}
use Rattle.pim_tool.specs.Running.{IsRunnable, SpellsRunnable, run_length, IsVerdictOfRun}
use Rattle.pim_tool.specs.Running.{Call, Wrote, WroteFront, StandsAfter}
use Rattle.pim_judge.specs.declared.fault.Fault.{Fault}
use Rattle.pim_judge.proofs.PrintingLemmas.{puts_whole, stops_front}

-- a run is accepted
pub run_verdict :
    (script : Trace) (es : List Entry) (S : State) (verdict : Verdict)
    → IsRunnable script
    → IsRunOf script es
    → S ≡ start script.bases script.protocols 1
    → verdict ≡ verdict_from 1 S (map entry_line es)
    → verdict ≡ verdicts.Accepted (run_length script)
run_verdict script es S verdict runnable run begins says =
    let law = recording_law script es runnable.limits runnable.rules run in
    says ∙ ap (λ (T : State). verdict_from 1 T (map entry_line es)) begins ∙ law.1 ∙ ap verdicts.Accepted law.0

-- the log of the scripts is a run of the script
pub gathered_run :
    (script : Trace) (log gathered : History) (S end : State) (scripts : List (List Op))
    → (gathered ≡ log) × IsLogOf S scripts log
    → S ≡ start script.bases script.protocols 1
    → scripts ≡ scripts_of script
    → IsRun log.start log.entries end
    → IsRunOf script gathered.entries
gathered_run script log gathered S end scripts (same, is) begins asked run =
    subst (λ (l : History). IsRunOf script l.entries) (sym same) (record {
      run = (end, subst (λ T. IsRun T log.entries end) (is.begins ∙ begins) run);
      interleaving = subst (IsInterleaving log.entries) asked is.interleaved;
    })

pub few_entries : (script : Trace) (es : List Entry) → IsRunnable script → IsRunOf script es → length es < 2 ^ 32
few_entries script es runnable run =
    let long : length es ≡ length script.steps + length script.bases =
    (recording_law script es runnable.limits runnable.rules run).0 in
    omega (arith, runnable.limits.steps, runnable.few)

-- ---- what is written

-- all of it was
pub put_ok :
    (Is : Trace → List ℕ → Type 0) (c : Call) (script : Trace) (out : List ℕ)
    → IfSome c.bytes (λ bytes. SpellsRunnable (lines_of bytes) script)
    → Is script out
    → Puts c.before c.after out []
    → Wrote Is c
put_ok Is c script out spells is put = go c.bytes spells
  where
    go :
        (o : Option (List ℕ))
        → IfSome o (λ bytes. SpellsRunnable (lines_of bytes) script)
        → IfSome o (λ bytes. (s : Trace) × (bs : List ℕ) × SpellsRunnable (lines_of bytes) s × Is s bs
        × Appends c.before.contents c.after.contents bs)
    go None h = tt
    go (Some bytes) h = (script, out, h, is, puts_whole c.before c.after out put)

-- a prefix of it was
front_written :
    (Is : Trace → List ℕ → Type 0) (c : Call) (script : Trace) (out : List ℕ) (f : Fault)
    → IfSome c.bytes (λ bytes. SpellsRunnable (lines_of bytes) script)
    → Is script out
    → Stops c.before c.after out f
    → WroteFront Is c
front_written Is c script out f spells is stopped = go c.bytes spells
  where
    go :
        (o : Option (List ℕ))
        → IfSome o (λ bytes. SpellsRunnable (lines_of bytes) script)
        → IfSome o (λ bytes. (s : Trace) × (bs : List ℕ) × SpellsRunnable (lines_of bytes) s × Is s bs
        × AppendsFront c.before.contents c.after.contents bs)
    go None h = tt
    go (Some bytes) h = (script, out, h, is, stops_front c.before c.after out f stopped)

pub stopped_err :
    (Is : Trace → List ℕ → Type 0) (c : Call) (script : Trace) (out : List ℕ) (f : Fault)
    → IfSome c.bytes (λ bytes. SpellsRunnable (lines_of bytes) script)
    → Is script out
    → Stops c.before c.after out f
    → StandsAfter Is c f
stopped_err Is c script out f spells is stopped =
    let front = front_written Is c script out f spells is stopped in
    elim stopped.others as (λ _. StandsAfter Is c f) [
      | inl e ↦ subst (λ (g : Fault). StandsAfter Is c g) (sym e) (stopped.write e, front)
      | inr e ↦ subst (λ (g : Fault). StandsAfter Is c g) (sym e) (inr front)
    ]

-- all of it or a prefix, by the result of the printing
pub printed_ok :
    {T : Type 0} (Is : Trace → List ℕ → Type 0) (c : Call) (script : Trace) (out : List ℕ) (r : Result T Fault)
    → IfSome c.bytes (λ bytes. SpellsRunnable (lines_of bytes) script)
    → Is script out
    → Prints c.before c.after out [] r
    → IfOk r (λ _. Wrote Is c)
printed_ok Is c script out (Ok x) spells is put = put_ok Is c script out spells is put
printed_ok Is c script out (Err f) spells is put = tt

pub printed_err :
    {T : Type 0} (Is : Trace → List ℕ → Type 0) (c : Call) (script : Trace) (out : List ℕ) (r : Result T Fault)
    → IfSome c.bytes (λ bytes. SpellsRunnable (lines_of bytes) script)
    → Is script out
    → Prints c.before c.after out [] r
    → IfErr r (StandsAfter Is c)
printed_err Is c script out (Ok x) spells is put = tt
printed_err Is c script out (Err f) spells is stopped = stopped_err Is c script out f spells is stopped

-- the verdict is that of the script that was read
pub verdict_ok :
    (script : Trace) (read : Option (List ℕ)) (verdict : Verdict)
    → IfSome read (λ bytes. SpellsRunnable (lines_of bytes) script)
    → verdict ≡ verdicts.Accepted (run_length script)
    → IfSome read (λ bytes. IsVerdictOfRun (lines_of bytes) verdict)
verdict_ok script None verdict spells is = tt
verdict_ok script (Some bytes) verdict spells is = (script, spells, is)
