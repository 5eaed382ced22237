use Rattle.std.proofs.Common.{◌≡◌, ◌≤◌, length, take, vec_capacity}
use Rattle.pim_base.specs.Runs.{IsRun}
use Rattle.pim_manager.specs.Entries.{entries}
use Rattle.pim_manager.proofs.manager.Manager.run_replies.Given as goal

-- the steps so far are a run, and there is room for the replies to come
abbrev pub invariant-loop-step : goal.invariant-loop-step
invariant-loop-step l = record {
  run : IsRun l.fn.self (entries (take l.step-index l.steps) l.replies.items) l.self;
  count : length l.replies.items ≡ l.step-index;
  room : length l.steps ≤ vec_capacity l.replies;
}
