use Rattle.std.proofs.Common.{◌≡◌, ℕ, false, is_some, Option, Some, None, refl, sym, ◌∙◌, ap}
use Rattle.pim_base.specs.State.{State, owner_of}
use Rattle.pim_base.specs.Priorities.{effective_priority}
use Rattle.pim_base.proofs.OtherProtocol.{effective_priority-same}
use Rattle.pim_chain.specs.Views.{View}
use Rattle.pim_manager.proofs.manager.Manager.set_protocol.Goals as goal

none_from : (o : Option ℕ) → is_some o ≡ false → o ≡ None
none_from None e = refl
none_from (Some t) e = cc

pub returns-clause-priorities : goal.returns-clause-priorities
returns-clause-priorities c task =
    let free : owner_of c.self.inside.tables.state c.args.mutex ≡ None =
    sym c.known_owner.ensures ∙ none_from c.known_owner.result (sym c.is_some.ensures ∙ c.if-is_some.false) in
    ap (λ (v : View). effective_priority v.state task) c.put_protocol.ensures.state
    ∙ effective_priority-same c.self.inside.tables.state c.args.mutex c.args.protocol free task
    ∙ ap (λ (S : State). effective_priority S task) c.self.view_is
