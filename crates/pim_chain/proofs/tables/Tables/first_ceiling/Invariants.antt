use Rattle.std.proofs.Common.{◌≡◌, ◌==◌, length}
use Rattle.std.specs.List.{find, AllByRecursion}
use Rattle.pim_base.specs.State.{IsMutex}
use Rattle.pim_base.specs.Priorities.{ceiling_of}
use Rattle.pim_chain.proofs.tables.Tables.first_ceiling.Given as goal

-- the first with the ceiling is among the mutexes that are left, and each is known
abbrev pub invariant-loop-mutex : goal.invariant-loop-mutex
invariant-loop-mutex l = record {
  found :
      find (λ m. ceiling_of l.self.state m == l.level) l.mutexes ≡ find (λ m. ceiling_of l.self.state m == l.level) l.fn.mutexes;
  known : AllByRecursion (IsMutex l.self.state) l.mutexes;
}

abbrev pub decreases-loop-mutex : goal.decreases-loop-mutex
decreases-loop-mutex l = length l.mutexes
