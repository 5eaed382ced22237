use Rattle.std.proofs.Common.{◌≡◌, ◌⊎◌, inl, subst, IfOk, rules}
use Rattle.std.specs.Prelude.{Result, Ok, Err, IfErr}
use Rattle.std.specs.Result.{IsErrAnd}
use Rattle.pim_base.specs.State.{State}
use Rattle.pim_manager.specs.declared.shared_fault.SharedFault.{SharedFault}
use Rattle.pim_shared.specs.Lookers.{HaveSeenNothing}
use Rattle.pim_shared.proofs.shared.started.Goals as goal

memory_or :
    {T : Type 0} (r : Result T SharedFault)
    → IsErrAnd r (λ fault. fault ≡ SharedFault.Memory)
    → IfErr r (λ fault. (fault ≡ SharedFault.Memory) ⊎ (fault ≡ SharedFault.NoPlace))
memory_or (Ok x) h = tt
memory_or (Err f) h = inl h

pub returns-in_err-publisher-clause-refused : goal.returns-in_err-publisher-clause-refused
returns-in_err-publisher-clause-refused g c = memory_or _ c.from_residual-in_err-publisher.ensures.1

pub returns-clause-lookers : goal.returns-clause-lookers
returns-clause-lookers g c =
    let start : c.in_ok-publisher.publisher.start ≡ c.args.manager = search rules in
    subst (λ (S : State). IfOk c.with_lookers.result (λ made. HaveSeenNothing S made.1.items)) start c.with_lookers.ensures.lookers
