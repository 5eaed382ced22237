use Rattle.std.proofs.Common.{◌≡◌, suc, ◌+◌, ◌-◌, length, sym, ◌∙◌, ap, arith}
use Rattle.pim_base.specs.State.{State}
use Rattle.pim_base.specs.Chains.{blocker}
use Rattle.pim_waits.proofs.Ways.{last_item-end, last_item-next}
use Rattle.pim_waits.proofs.waits.Waits.end_of_way.Goals as goal

pub returns-in-None : goal.returns-in-None
returns-in-None c =
    let S = c.args.self.now in
    sym (c.loop-hop.invariant ∙ last_item-end
    (blocker S) (length S.base - c.loop-hop._hop) c.loop-hop.last (sym c.in-None.ensures))

pub loop-hop-preserved : goal.loop-hop-preserved
loop-hop-preserved c =
    let S = c.args.self.now in
    let i = c.loop-hop._hop in
    let more : length S.base - i ≡ suc (length S.base - (i + 1)) =
    omega (
      arith,
      c.loop-hop-test.true,
      c.threads-hop-end.ensures.count,
      ap (λ (T : State). length T.base) c.self.view_is,
    ) in
    c.loop-hop.invariant
    ∙ last_item-next (blocker S) (length S.base - i)
    (length S.base - (i + 1)) c.loop-hop.last c.in-Some.blocker more (sym c.in-Some.ensures)
