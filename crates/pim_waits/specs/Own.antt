-- What owning a mutex gives a thread.
use Rattle.std.specs.Prelude.{◌≡◌, ◌<◌, ◌&&◌, ℕ, false, min, Option, Some, None, nat_lt}
use Rattle.std.specs.Prelude.{if◌then◌else◌}
use Rattle.std.specs.Option.{option_map_or}
use Rattle.pim_base.specs.Lists.{holds}
use Rattle.pim_base.specs.State.{State, IsMutex, owner_of}
use Rattle.pim_base.specs.Priorities.{ceiling_of}

-- the ceiling of the mutex if the thread owns it, or 0
abbrev pub ceiling_for : State → ℕ → ℕ → ℕ
ceiling_for S m t = if holds (owner_of S m) t then ceiling_of S m else 0

-- the first mutex after a place that t owns is m
pub record IsFirstAfter (S : State) (t after m : ℕ) : Type 0 where
  pub later : after < m
  pub mutex : IsMutex S m
  pub owner : owner_of S m ≡ Some t
  pub first : (k : ℕ) → after < k → k < m → holds (owner_of S k) t ≡ false

-- the first mutex after a place that t owns, or that there is none
abbrev pub IsNextOwned : State → ℕ → ℕ → Option ℕ → Type 0
IsNextOwned S t after None = (k : ℕ) → after < k → holds (owner_of S k) t ≡ false
IsNextOwned S t after (Some m) = IsFirstAfter S t after m

-- the lower of the next one so far and m, if m is after the place and t owns it
abbrev pub nearer : State → ℕ → ℕ → Option ℕ → ℕ → Option ℕ
nearer S t after next m =
    if nat_lt after m && holds (owner_of S m) t
    then Some (option_map_or (λ n. min m n) next m) else next
