use Rattle.std.proofs.Common.{◌≡◌, ◌-◌, ℕ, Option, length}
use Rattle.pim_base.specs.Lists.{contains}
use Rattle.pim_base.specs.Chains.{chain}
use Rattle.pim_plain.proofs.plain_manager.PlainManager.has_on_chain.Given as goal

-- the rest of the chain has the task exactly if the whole chain has it
abbrev pub invariant-loop-hop : goal.invariant-loop-hop
invariant-loop-hop g l =
    (h : ℕ → Option ℕ)
    → ((t : ℕ) (o : Option ℕ) → goal.F-post g l.hop t o → o ≡ h t)
    → contains (chain h (length l.fn.self.base) l.fn.from) l.task ≡ contains (chain h (length l.self.base - l._hop) l.at) l.task
