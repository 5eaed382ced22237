use Rattle.std.proofs.Common.{◌≡◌, ◌≤◌, ℕ, true}
use Rattle.pim_base.specs.Lists.{contains}
use Rattle.pim_rows.proofs.affected.put_all_threads.Given as goal

-- the threads so far are there
abbrev pub invariant-loop-index : goal.invariant-loop-index
invariant-loop-index l = (t : ℕ) → 1 ≤ t → t ≤ l.index → contains l.threads.items t ≡ true
