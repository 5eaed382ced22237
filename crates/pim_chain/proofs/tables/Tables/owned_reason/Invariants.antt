use Rattle.std.proofs.Common.{◌≡◌, length}
use Rattle.std.specs.List.{AllByRecursion}
use Rattle.pim_base.specs.State.{IsMutex, owned}
use Rattle.pim_chain.specs.Owned.{owned_reason}
use Rattle.pim_chain.proofs.tables.Tables.owned_reason.Given as goal

-- the mutexes that are left give the same reason as all, and each is known
abbrev pub invariant-loop-mutex : goal.invariant-loop-mutex
invariant-loop-mutex l = record {
  tells : owned_reason l.self l.level l.owned ≡ owned_reason l.self l.level (owned l.self.state l.fn.task);
  known : AllByRecursion (IsMutex l.self.state) l.owned;
}

abbrev pub decreases-loop-mutex : goal.decreases-loop-mutex
decreases-loop-mutex l = length l.owned
