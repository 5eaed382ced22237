use Rattle.std.proofs.Common.{◌≡◌, length, ◌∙◌, sym, arith}
use Rattle.pim_judge.proofs.EntryLemmas.{entry_verdict, end_verdict}
use Rattle.pim_judge.proofs.entries.judge_entries.Goals as goal

pub returns-then-not-is_recorded : goal.returns-then-not-is_recorded
returns-then-not-is_recorded c =
    let says = sym c.if-not-is_recorded.true ∙ c.is_recorded.ensures in
    let next =
    entry_verdict _ _ _ c.args.entries.now c.loop-index.index _ _ _ c.loop-index-test.true c.index-entries-index.is
    c.step-reply.ensures.state c.step-reply.ensures.reply says in
    sym next ∙ c.loop-index.invariant

pub loop-index-preserved : goal.loop-index-preserved
loop-index-preserved c =
    let says = sym c.if-not-is_recorded.false ∙ c.is_recorded.ensures in
    let next =
    entry_verdict _ _ _ c.args.entries.now c.loop-index.index _ _ _ c.loop-index-test.true c.index-entries-index.is
    c.step-reply.ensures.state c.step-reply.ensures.reply says in
    sym next ∙ c.loop-index.invariant

pub returns : goal.returns
returns c =
    let done : c.loop-index.index ≡ length c.args.entries.now = omega arith in
    sym (end_verdict _ c.args.entries.now c.loop-index.index done) ∙ c.loop-index.invariant
