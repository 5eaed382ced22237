use Rattle.std.proofs.Common.{◌≡◌, sym, subst, arith, fold}
use Rattle.std.proofs.lemmas.Grind.{common_steps}
use Rattle.pim_base.specs.Steps.{after}
use Rattle.pim_base.specs.Runs.{IsRun}
use Rattle.pim_manager.specs.Entries.{entries, replies_of}
use Rattle.pim_manager.proofs.WholeRuns.{is_run}
use Rattle.pim_manager.proofs.manager.Manager.run.Goals as goal

pub returns : goal.returns
returns c =
    let S = c.args.self.now in let steps = c.args.steps.now in
    let all : c.loop-step.self ≡ fold after S steps = grind (arith, common_steps, c.loop-step.invariant) in record {
      state = all;
      run = subst (IsRun S (entries steps (replies_of S steps))) (sym all) (is_run steps S);
      no_cycle = c.tasks-steady.ensures.steady.sound.no_cycle;
    }
