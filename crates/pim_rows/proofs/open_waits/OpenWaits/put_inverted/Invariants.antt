use Rattle.std.proofs.Common.{◌≡◌, ◌≤◌, ℕ, false}
use Rattle.pim_base.specs.Lists.{nth, contains}
use Rattle.pim_rows.specs.AllOpen.{IsCalm}
use Rattle.pim_rows.proofs.open_waits.OpenWaits.put_inverted.Given as goal

-- the inverted waits so far
abbrev pub invariant-loop-index : goal.invariant-loop-index
invariant-loop-index l =
    (t : ℕ) → t ≤ l.index → contains l.threads.items t ≡ false → IsCalm (nth l.self.opens.items t)
