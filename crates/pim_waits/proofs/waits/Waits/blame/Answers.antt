use Rattle.std.proofs.Common.{◌≡◌, suc, ◌+◌, ◌-◌, None, length, sym, ◌∙◌, ap, arith}
use Rattle.pim_base.specs.State.{State}
use Rattle.pim_base.specs.Chains.{blocker}
use Rattle.pim_waits.specs.Waiting.{passes_less}
use Rattle.pim_waits.proofs.Ways.{first-here, first-end, first-next}
use Rattle.pim_waits.proofs.waits.Waits.blame.Goals as goal

pub returns-in-Some : goal.returns-in-Some
returns-in-Some c =
    let S = c.args.self.now in
    sym (c.loop-hop.invariant
    ∙ first-here (passes_less S c.gets-level.result) (blocker S)
    (length S.base - c.loop-hop._hop) c.loop-hop.at c.in-Some.mutex (sym c.in-Some.ensures))

pub returns-in_err-at : goal.returns-in_err-at
returns-in_err-at c =
    let S = c.args.self.now in
    let p = passes_less S c.gets-level.result in
    let none : p c.loop-hop.at ≡ None = sym c.passes_less.ensures ∙ c.in_default.is in
    c.from_residual.ensures
    ∙ sym (c.loop-hop.invariant
    ∙ first-end p
    (blocker S) (length S.base - c.loop-hop._hop) c.loop-hop.at none (sym c.in_err-at.ensures))

pub loop-hop-preserved : goal.loop-hop-preserved
loop-hop-preserved c =
    let S = c.args.self.now in
    let i = c.loop-hop._hop in
    let p = passes_less S c.gets-level.result in
    let more : length S.base - i ≡ suc (length S.base - (i + 1)) =
    omega (
      arith,
      c.loop-hop-test.true,
      c.threads-hop-end.ensures.count,
      ap (λ (T : State). length T.base) c.self.view_is,
    ) in
    let none : p c.loop-hop.at ≡ None = sym c.passes_less.ensures ∙ c.in_default.is in
    c.loop-hop.invariant
    ∙ first-next p (blocker S) (length S.base - i)
    (length S.base - (i + 1)) c.loop-hop.at c.in_ok-at.at more none (sym c.in_ok-at.ensures)
