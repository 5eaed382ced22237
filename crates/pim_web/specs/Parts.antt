-- The parts of a text, as numbers for the host.
use Rattle.std.specs.Prelude.{ℕ, ◌≡◌, List, map, length}
use Rattle.pim_base.specs.Texts.{Trace, Spells, lines_of}
use Rattle.pim_base.specs.declared.steps.Op.{Op}
use Rattle.pim_base.specs.declared.lines.StepLine.{StepLine}
use Rattle.pim_ffi.specs.Copied.{copied}
use Rattle.pim_ffi.specs.Protocols.{c_protocol}
use Rattle.pim_ffi.specs.declared.protocol.CProtocol.{CProtocol}
use Rattle.pim_web.specs.declared.numbers.TheConstants.{INVALID, NO_MEMORY, LOCK, TRY, UNLOCK, RELEASE, CANCEL, BASE, CEILING}
use Rattle.pim_web.specs.declared.parts.CStep.{CStep}
use Rattle.pim_web.specs.declared.reading.CRead.{CRead}

-- a base priority is its own number
abbrev pub c_base : ℕ → ℕ
c_base base = base

-- the operation of a task, with 0 for what it doesn't name
abbrev pub c_op : ℕ → Op → CStep
c_op t (Op.Lock m) = record { actor = t; op = LOCK; first = m; second = 0 }
c_op t (Op.Try m) = record { actor = t; op = TRY; first = m; second = 0 }
c_op t (Op.Unlock m) = record { actor = t; op = UNLOCK; first = m; second = 0 }
c_op t Op.ReleaseAll = record { actor = t; op = RELEASE; first = 0; second = 0 }
c_op t (Op.Cancel u) = record { actor = t; op = CANCEL; first = u; second = 0 }
c_op t (Op.SetBase u p) = record { actor = t; op = BASE; first = u; second = p }
c_op t (Op.SetCeiling m p) = record { actor = t; op = CEILING; first = m; second = p }

-- the step of a line, without the recorded reply
abbrev pub c_step : StepLine → CStep
c_step line = c_op line.step.actor line.step.op

-- the bytes spell a trace, and the buffers have its parts, as far as they fit; each pair is a buffer before and after
abbrev pub IsRead : List ℕ → CRead → (List ℕ × List ℕ) → (List CProtocol × List CProtocol) → (List CStep × List CStep) → Type 0
IsRead bytes read bases protocols steps =
    (t : Trace) × Spells (lines_of bytes) t × (read.line ≡ 0)
    × (read.tasks ≡ length t.bases) × (read.mutexes ≡ length t.protocols) × (read.steps ≡ length t.steps)
    × (bases.1 ≡ copied (map c_base t.bases) bases.0)
    × (protocols.1 ≡ copied (map c_protocol t.protocols) protocols.0)
    × (steps.1 ≡ copied (map c_step t.steps) steps.0)

-- the text's first invalid line is n
abbrev pub invalid : ℕ → CRead
invalid n = record { kind = INVALID; line = n; tasks = 0; mutexes = 0; steps = 0 }

-- an allocation failed
abbrev pub unread : CRead
unread = record { kind = NO_MEMORY; line = 0; tasks = 0; mutexes = 0; steps = 0 }
