-- Levels that are passed on, from each thread to its heir.
use Rattle.std.specs.Prelude.{◌≡◌, ◌≤◌, ◌<◌, ℕ, Bool, true, false, List, length, Some, unwrap_or}
use Rattle.pim_base.specs.Lists.{nth, contains}
use Rattle.pim_base.specs.State.{State, IsTask}
use Rattle.pim_base.specs.Chains.{chain, heir}
use Rattle.pim_base.specs.Priorities.{own_priority}

-- the level of a thread, 0 of an unknown one
abbrev pub level_at : List ℕ → ℕ → ℕ
level_at levels t = unwrap_or (nth levels t) 0

-- a thread from which the level of t comes: heirs lead from it to t
pub record ComesFrom (S : State) (level : ℕ → ℕ) (t : ℕ) : Type 0 where
  pub from : ℕ
  pub task : IsTask S from
  pub hops : ℕ
  pub leads : contains (chain (heir S) hops from) t ≡ true
  pub own : own_priority S from ≡ level t

-- Each thread has at least its own level, none has less than a thread whose heir it is, unless that
-- one is pending, and each level comes from a thread.
pub record Flows (S : State) (level : ℕ → ℕ) (pending : ℕ → Bool) : Type 0 where
  pub least : (t : ℕ) → IsTask S t → own_priority S t ≤ level t
  pub passed : (t u : ℕ) → heir S t ≡ Some u → pending t ≡ false → level t ≤ level u
  pub comes : (t : ℕ) → IsTask S t → ComesFrom S level t

-- no thread
abbrev pub nobody : ℕ → Bool
nobody t = false

-- the heir of a thread, which has less than this level
pub record IsLower (S : State) (levels : List ℕ) (t level u : ℕ) : Type 0 where
  pub heir : heir S t ≡ Some u
  pub lower : level_at levels u < level
  pub known : (1 ≤ u) × (u ≤ length levels)
