-- Which faults a call can have.
use Rattle.pim_world.specs.declared.fault.FactsFault.{FactsFault}
use Rattle.pim_world.specs.declared.fault.FactsFault.TheVariants as of_text
use Rattle.pim_findings.specs.declared.fault.Fault.{Fault}
use Rattle.pim_findings.specs.declared.fault.Fault.TheVariants as faults

-- the fault of this crate for that of the text
abbrev pub fault_of : FactsFault → Fault
fault_of (of_text.Line n why) = faults.Line n why
fault_of of_text.Memory = faults.Memory
