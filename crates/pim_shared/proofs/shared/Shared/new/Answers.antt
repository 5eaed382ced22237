use Rattle.std.proofs.Common.{◌≡◌, ◌⊎◌, inl, [], ap, ◌∙◌, rules}
use Rattle.std.specs.Prelude.{Result, Ok, Err, IfErr}
use Rattle.std.specs.Result.{IsErrAnd}
use Rattle.pim_base.specs.State.{State}
use Rattle.pim_manager.specs.declared.shared_fault.SharedFault.{SharedFault}
use Rattle.pim_shared.proofs.shared.Shared.new.Goals as goal

memory_or :
    {T : Type 0} (r : Result T SharedFault)
    → IsErrAnd r (λ fault. fault ≡ SharedFault.Memory)
    → IfErr r (λ fault. (fault ≡ SharedFault.Memory) ⊎ (fault ≡ SharedFault.NoPlace))
memory_or (Ok x) h = tt
memory_or (Err f) h = inl h

pub returns-in_err-entries-clause-refused : goal.returns-in_err-entries-clause-refused
returns-in_err-entries-clause-refused g c = memory_or _ c.from_residual-in_err-entries.ensures.1
