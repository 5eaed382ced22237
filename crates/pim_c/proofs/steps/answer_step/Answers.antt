use Rattle.std.proofs.Common.{◌≡◌, ◌∙◌, Option, Some, None, ap, arith, length, refl, subst, sym}
use Rattle.std.specs.Option.{option_map_or}
use Rattle.std.proofs.lemmas.List.{length-map}
use Rattle.pim_base.specs.Counts.{changed_task_count}
use Rattle.pim_base.specs.Reports.{changed_tasks}
use Rattle.pim_base.specs.State.{State}
use Rattle.pim_base.specs.Steps.{after}
use Rattle.pim_base.specs.declared.steps.Step.{Step}
use Rattle.pim_base.proofs.Counting.{changed_count_law}
use Rattle.pim_manager.specs.Changed.{TrackedState, changed_task, listed, stepped}
use Rattle.pim_manager.specs.Kernel.{after_kernel, kernel_stepped}
use Rattle.pim_manager.specs.declared.kernel_op.KernelOp.{KernelOp}
use Rattle.pim_c.specs.Answers.{IsAnswer}
use Rattle.pim_c.specs.Kernel.{c_after, c_stepped, kernel_op}
use Rattle.pim_c.specs.Numbers.{reply_number, reply_refusal, reply_detail}
use Rattle.pim_c.specs.declared.answer.CAnswer.{CAnswer}
use Rattle.pim_c.proofs.steps.answer_step.Goals as goal

-- the tasks that are listed after a step, of a task or of the kernel
listed_then :
    (h : TrackedState) (step : Step)
    → (c_stepped h step).changed ≡ listed (c_after h.state step) (changed_tasks h.state (c_after h.state step))
listed_then h step = go (kernel_op step)
  where
    go :
        (o : Option KernelOp)
        → (option_map_or (kernel_stepped h) o (stepped h step)).changed
        ≡ listed (option_map_or (after_kernel h.state) o (after h.state step))
        (changed_tasks h.state (option_map_or (after_kernel h.state) o (after h.state step)))
    go None = refl
    go (Some k) = refl

pub returns-then-visits-gt0-clause-answer : goal.returns-then-visits-gt0-clause-answer
returns-then-visits-gt0-clause-answer c =
    let S : State = c.args.held.now.state in
    let T : State = c_after S c.args.step in
    let done = c.step_of-reply.ensures in
    let listed : c.changed_count.result ≡ length (changed_tasks S T) =
    c.changed_count.ensures
    ∙ ap (λ (h : TrackedState). length h.changed) done.state
    ∙ ap length (listed_then c.args.held.now c.args.step)
    ∙ length-map (changed_tasks S T) (changed_task T) in
    subst (λ (a : CAnswer). IsAnswer S c.args.step (record a { changed = c.changed_count.result }))
    (sym c.of-answer.ensures) (record {
      kind = ap reply_number done.reply;
      refusal = ap reply_refusal done.reply;
      number = ap reply_detail done.reply;
      least = done.least;
      most = done.most;
      changed = listed ∙ sym (changed_count_law S T);
      listed = listed;
    })

-- without a visit no priority changed
pub returns-else-visits-gt0-clause-answer : goal.returns-else-visits-gt0-clause-answer
returns-else-visits-gt0-clause-answer c =
    let S : State = c.args.held.now.state in
    let T : State = c_after S c.args.step in
    let done = c.step_of-reply.ensures in
    let least = done.least in
    let none : 0 ≡ changed_task_count S T = omega (arith, least, c.if-visits-gt0.false) in
    subst (IsAnswer S c.args.step) (sym c.of-answer.ensures) (record {
      kind = ap reply_number done.reply;
      refusal = ap reply_refusal done.reply;
      number = ap reply_detail done.reply;
      least = done.least;
      most = done.most;
      changed = none;
      listed = none ∙ changed_count_law S T;
    })
