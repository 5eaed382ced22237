use Rattle.std.proofs.Common.{◌≡◌, false, rules, sym, ap, subst, ◌∙◌}
use Rattle.std.specs.Prelude.{is_some}
use Rattle.std.specs.Option.{option_flatten}
use Rattle.pim_base.specs.Checks.{is_waiting}
use Rattle.pim_base.specs.Lists.{holds}
use Rattle.pim_base.specs.State.{State, IsState, owner_of}
use Rattle.pim_manager.proofs.Known.{owner_shown, is_waiting_shown}
use Rattle.pim_shared.proofs.book.Book.settled.Goals as goal

pub returns-else-eq : goal.returns-else-eq
returns-else-eq c =
    let S : State = c.manager-manager.result.now in
    let P : State → Type 0 = λ z. IsState z in
    let lists : IsState S = subst P (sym c.manager-manager.ensures.manager) c.manager-manager.ensures.steady.sound.lists in
    let waits : is_waiting S c.args.task ≡ false =
    sym (c.is_some-waits.ensures ∙ ap is_some (c.flatten.ensures ∙ ap option_flatten c.waits_for.ensures.waits) ∙ is_waiting_shown S c.args.task lists) ∙ c.if-waits.false in
    let owner : c.flatten-owner.result ≡ owner_of S c.args.mutex = c.flatten-owner.ensures ∙ ap option_flatten c.owner.ensures ∙ owner_shown S c.args.mutex lists in
    let shown : holds c.flatten-owner.result c.args.task ≡ false = search rules in
    let other : holds (owner_of S c.args.mutex) c.args.task ≡ false = ap (λ o. holds o c.args.task) (sym owner) ∙ shown in
    search rules
