use Rattle.std.proofs.Common.{◌∙◌, arith, rules, sym}
use Rattle.pim_base.proofs.Hops.{contains-chain_here, contains-chain_next, contains-chain_last}
use Rattle.pim_plain.proofs.plain_manager.PlainManager.has_on_chain.Goals as goal

pub returns-then-eq : goal.returns-then-eq
returns-then-eq g c h computes =
    sym (c.loop-hop.invariant h computes ∙ contains-chain_here h _ c.loop-hop.at c.args.task (search rules))

pub returns-in-None : goal.returns-in-None
returns-in-None g c h computes =
    sym (c.loop-hop.invariant h computes
    ∙ contains-chain_last h _ c.loop-hop.at c.args.task (search rules) (sym (computes c.loop-hop.at c.hop.result c.hop.ensures) ∙ c.in-None.is))

pub loop-hop-preserved : goal.loop-hop-preserved
loop-hop-preserved g c h computes =
    c.loop-hop.invariant h computes
    ∙ contains-chain_next h _ _ c.loop-hop.at c.args.task c.in-Some.next (omega (arith, c.loop-hop-test.true)) (search rules)
    (sym (computes c.loop-hop.at c.hop.result c.hop.ensures) ∙ c.in-Some.is)
