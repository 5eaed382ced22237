use Rattle.std.proofs.Common.{◌≡◌, Bool, true, false, not, length, eqb-true, sym, ◌∙◌, ap, arith}
use Rattle.pim_base.specs.Lists.{contains}
use Rattle.pim_waits.specs.Awaited.{awaited_of}
use Rattle.pim_waits.specs.Groups.{group_of}
use Rattle.pim_waits.proofs.Lists.{contains_at}
use Rattle.pim_waits.proofs.facts.Facts.is_awaited.Goals as goal

no_not : (b : Bool) → not b ≡ false → b ≡ true
no_not b h = grind arith

pub returns : goal.returns
returns c h t e =
    let members = c.of.result.now in
    let listed : contains members t ≡ true =
    ap (λ ts. contains ts t) (c.of.ensures ∙ ap (group_of c.self.inside.waiting) c.mutex.view_is)
    ∙ c.self.invariant.waiting t c.args.mutex (ap (λ T. awaited_of T t) c.self.view_is ∙ e) in
    let at = contains_at members t listed in
    let none : length members ≡ 0 =
    eqb-true (length members) 0 (sym c.is_empty.ensures ∙ no_not c.is_empty.result h) in
    absurd (omega (arith, at.1, none))
