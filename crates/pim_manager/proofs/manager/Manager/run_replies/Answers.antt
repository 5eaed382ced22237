use Rattle.std.proofs.Common.{◌≡◌, ◌<◌, ◌+◌, ◌++◌, [], ◌∷◌, ◌∙◌, ap, sym, arith, length, length-append, take}
use Rattle.std.proofs.Common.{cond, is_ok}
use Rattle.std.proofs.lemmas.List.{take_more}
use Rattle.pim_manager.proofs.WholeRuns.{length-take_below, run_more}
use Rattle.pim_manager.proofs.manager.Manager.run_replies.Goals as goal

pub loop-step-preserved : goal.loop-step-preserved
loop-step-preserved c =
    let i = c.loop-step.step-index in
    let before = take i c.args.steps.now in
    let below : i < length c.args.steps.now = c.loop-step-test.true in
    let items : c.push.new.self.items ≡ c.loop-step.replies.items ++ c.step-reply.result.reply ∷ [] =
    c.push.ensures.items ∙ ap
    (λ r. cond (is_ok r) (c.loop-step.replies.items ++ c.step-reply.result.reply ∷ []) c.loop-step.replies.items)
    c.unwrap.ensures in
    let more : take (i + 1) c.args.steps.now ≡ before ++ c.step-item.result ∷ [] =
    take_more c.args.steps.now i c.step-item.result below ∙ ap (λ s. before ++ s ∷ []) (sym c.step-item.is) in
    let same : length c.loop-step.replies.items ≡ length before =
    c.loop-step.invariant.count ∙ sym (length-take_below i c.args.steps.now below) in
    record {
      run =
          rw (more, items, c.step-reply.ensures.reply, c.step-reply.ensures.state)
          (run_more before c.loop-step.replies.items c.args.self.now c.loop-step.self c.step-item.result same
          c.loop-step.invariant.run);
      count =
          (let longer = length-append c.loop-step.replies.items (c.step-reply.result.reply ∷ []) in
          rw items (omega (arith, longer, c.loop-step.invariant.count)));
      room = (let room = c.loop-step.invariant.room in let kept = c.push.ensures.capacity in omega (arith, room, kept));
    }
