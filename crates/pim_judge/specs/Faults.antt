-- Which faults a call can have.
use Rattle.std.specs.Prelude.{ℕ, List}
use Rattle.pim_base.specs.Texts.{FirstBad}
use Rattle.pim_text.specs.declared.fault.TextFault.{TextFault}
use Rattle.pim_text.specs.declared.fault.TextFault.TheVariants as text_faults
use Rattle.pim_judge.specs.declared.fault.Fault.{Fault}
use Rattle.pim_judge.specs.declared.fault.Fault.TheVariants as faults

-- the fault of this crate for that of the text
abbrev pub fault_of : TextFault → Fault
fault_of (text_faults.Line n) = faults.Line n
fault_of text_faults.Memory = faults.Memory

-- why the lines aren't read: the first invalid one, or out of memory
abbrev pub IsParseFault : (List (List ℕ) → Type 0) → List (List ℕ) → Fault → Type 0
IsParseFault Is ls (faults.Line n) = FirstBad Is ls n
IsParseFault Is ls faults.Memory = Unit {0}
IsParseFault Is ls faults.Read = ⊥
IsParseFault Is ls faults.Write = ⊥
IsParseFault Is ls (faults.Shared f) = ⊥
IsParseFault Is ls faults.TooManyWorkers = ⊥

-- a fault of a text, of a stream or of memory: none of the workers
abbrev pub IsWorkerless : Fault → Type 0
IsWorkerless (faults.Line n) = Unit {0}
IsWorkerless faults.Read = Unit {0}
IsWorkerless faults.Write = Unit {0}
IsWorkerless faults.Memory = Unit {0}
IsWorkerless (faults.Shared f) = ⊥
IsWorkerless faults.TooManyWorkers = ⊥
