use Rattle.std.proofs.Common.{◌≡◌, ℕ, Bool, ◌==◌, ◌||◌, length, count_by, nat_lt}
use Rattle.pim_waits.specs.Flow.{Flows, level_at}
use Rattle.pim_waits.proofs.settle.pass_on.Given as goal

-- the level is still to be passed on from the last thread that was raised to it
abbrev pub invariant-loop-heir : goal.invariant-loop-heir
invariant-loop-heir l = record {
  len : length l.gets.items ≡ length l.fn.gets.items;
  level : level_at l.gets.items l.from ≡ l.level;
  flows :
      (pending : ℕ → Bool)
      → Flows l.facts (level_at l.fn.gets.items) (λ t. t == l.fn.thread || pending t)
      → Flows l.facts (level_at l.gets.items) (λ t. t == l.from || pending t);
}

abbrev pub decreases-loop-heir : goal.decreases-loop-heir
decreases-loop-heir l = count_by (λ level. nat_lt level l.level) l.gets.items
