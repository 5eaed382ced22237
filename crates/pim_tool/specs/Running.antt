-- What a call that runs a script reads, writes and returns.
use Rattle.std.specs.Prelude.{ℕ, ◌≡◌, ◌+◌, ◌<◌, ◌≤◌, ◌⊎◌, List, length, Option, IfSome}
use Rattle.pim_base.specs.Texts.{Trace, IsWithinLimits, lines_of}
use Rattle.pim_base.specs.Scripts.{KeepsScriptRules, SpellsScript, FirstBadScriptLine}
use Rattle.pim_base.specs.Recordings.{IsRunOf, recording, text_of}
use Rattle.pim_base.specs.Reports.{accepted}
use Rattle.pim_base.specs.declared.limits.TheConstants.{MAX_WORKERS}
use Rattle.pim_base.specs.declared.lines.Verdict.{Verdict}
use Rattle.pim_base.specs.declared.lines.Verdict.TheVariants as verdicts
use Rattle.pim_base.specs.declared.steps.Entry.{Entry}
use Rattle.pim_page.specs.Ends.{Told, Happened, Fails, Appends, AppendsFront}
use Rattle.pim_judge.specs.declared.fault.Fault.{Fault}
use Rattle.pim_judge.specs.declared.fault.Fault.TheVariants as faults

-- ---- scripts

-- the trace is a script with at most MAX_WORKERS tasks
pub record IsRunnable (script : Trace) : Type 0 where
  pub limits : IsWithinLimits script
  pub rules : KeepsScriptRules script
  pub few : length script.bases ≤ MAX_WORKERS

-- the lines spell a script with at most MAX_WORKERS tasks
pub record SpellsRunnable (ls : List (List ℕ)) (script : Trace) : Type 0 where
  pub spells : SpellsScript ls script
  pub few : length script.bases ≤ MAX_WORKERS

-- the lines spell a script with more than MAX_WORKERS tasks
abbrev pub HasTooManyTasks : List (List ℕ) → Type 0
HasTooManyTasks ls = (script : Trace) × SpellsScript ls script × (MAX_WORKERS < length script.bases)

-- how many entries a run of the script has: its steps, and a release for each task
abbrev pub run_length : Trace → ℕ
run_length script = length script.steps + length script.bases

-- ---- outputs

-- the bytes are the trace of a run of the script
abbrev pub IsTraceOfRun : Trace → List ℕ → Type 0
IsTraceOfRun script bytes = (es : List Entry) × IsRunOf script es × (bytes ≡ text_of (recording script es))

-- the bytes are the last line of the report of the trace of a run
abbrev pub IsEndOfReport : Trace → List ℕ → Type 0
IsEndOfReport script bytes = bytes ≡ accepted (run_length script)

-- the verdict is that of the report of a run of the script that the lines spell
abbrev pub IsVerdictOfRun : List (List ℕ) → Verdict → Type 0
IsVerdictOfRun ls verdict =
    (script : Trace) × SpellsRunnable ls script × (verdict ≡ verdicts.Accepted (run_length script))

-- ---- calls

-- a call on a reader and a writer: the bytes that were read, if they are known, how many reads had failed before and
-- after it, and what is known of the writer before and after it
pub record Call : Type 0 where
  pub bytes : Option (List ℕ)
  pub failures_before : ℕ
  pub failures_after : ℕ
  pub before : Told
  pub after : Told

-- the call with these streams, before and after it
abbrev pub call : {R W : Type 0} → (R → Option (List ℕ)) → (R → ℕ) → (W → Told) → R → R → W → W → Call
call remaining failures told old_reader new_reader old_writer new_writer = record {
  bytes = remaining old_reader;
  failures_before = failures old_reader;
  failures_after = failures new_reader;
  before = told old_writer;
  after = told new_writer;
}

-- nothing was written
abbrev pub WroteNothing : Call → Type 0
WroteNothing c = c.after.contents ≡ c.before.contents

-- the bytes that were read are a script, and an output of it was written and nothing else
abbrev pub Wrote : (Trace → List ℕ → Type 0) → Call → Type 0
Wrote Is c =
    IfSome c.bytes (λ bytes.
    (script : Trace) × (out : List ℕ) × SpellsRunnable (lines_of bytes) script × Is script out
    × Appends c.before.contents c.after.contents out)

-- the bytes that were read are a script, and a prefix of an output of it was written
abbrev pub WroteFront : (Trace → List ℕ → Type 0) → Call → Type 0
WroteFront Is c =
    IfSome c.bytes (λ bytes.
    (script : Trace) × (out : List ℕ) × SpellsRunnable (lines_of bytes) script × Is script out
    × AppendsFront c.before.contents c.after.contents out)

-- the bytes that were read are a script that can be run
abbrev pub ReadRunnable : Option (List ℕ) → Type 0
ReadRunnable read = IfSome read (λ bytes. (script : Trace) × SpellsRunnable (lines_of bytes) script)

-- what a fault says if the script isn't read, or has too many tasks
abbrev pub Unread : Option (List ℕ) → ℕ → ℕ → Fault → Type 0
Unread read before after (faults.Line n) = IfSome read (λ bytes. FirstBadScriptLine (lines_of bytes) n)
Unread read before after faults.Read = Happened before after
Unread read before after faults.Write = ⊥
Unread read before after faults.Memory = Unit {0}
Unread read before after (faults.Shared f) = ⊥
Unread read before after faults.TooManyWorkers = IfSome read (λ bytes. HasTooManyTasks (lines_of bytes))

-- a fault of a run alone
abbrev pub IsOfRun : Fault → Type 0
IsOfRun (faults.Line n) = ⊥
IsOfRun faults.Read = ⊥
IsOfRun faults.Write = ⊥
IsOfRun faults.Memory = Unit {0}
IsOfRun (faults.Shared f) = Unit {0}
IsOfRun faults.TooManyWorkers = ⊥

-- what holds after each fault of a call that reads a script, runs it, and writes an output of it
abbrev pub StandsAfter : (Trace → List ℕ → Type 0) → Call → Fault → Type 0
StandsAfter Is c (faults.Line n) = IfSome c.bytes (λ bytes. FirstBadScriptLine (lines_of bytes) n) × WroteNothing c
StandsAfter Is c faults.Read = Happened c.failures_before c.failures_after × WroteNothing c
StandsAfter Is c faults.Write = Fails c.before c.after × WroteFront Is c
StandsAfter Is c faults.Memory = WroteNothing c ⊎ WroteFront Is c
StandsAfter Is c (faults.Shared f) = ReadRunnable c.bytes × WroteNothing c
StandsAfter Is c faults.TooManyWorkers = IfSome c.bytes (λ bytes. HasTooManyTasks (lines_of bytes)) × WroteNothing c
