-- How things began that last: docs/ROWS.md, 'wait', 'blocked', 'ran' and 'section'.
use Rattle.std.specs.Prelude.{ℕ, List, unwrap_or, ◌+◌, ◌==◌, Bool, false, ◌&&◌, [], ◌∷◌, Option}
use Rattle.std.specs.Prelude.{Some, None, is_some, if◌then◌else◌}
use Rattle.std.specs.Option.{option_map_or, option_and_then}
use Rattle.pim_base.specs.State.{base_of, wait_of, owner_of}
use Rattle.pim_base.specs.declared.steps.Wait.{Wait}
use Rattle.pim_waits.specs.Waiting.{gets}
use Rattle.pim_world.specs.Worlds.{World, blocked_at}
use Rattle.pim_rows.specs.Moments.{Moment, now, number, stretch, began}
use Rattle.pim_world.specs.Standing.{thread_number, mutex_number, is_off, runs_of}

-- m is owned
abbrev pub is_owned : ℕ → World → Bool
is_owned m w = is_some (owner_of w.state m)

-- the line by which the owner of m came to own it
abbrev pub grant_line : ℕ → List Moment → ℕ
grant_line m ms = number (began (is_owned m) ms)

-- for how long t has been off a CPU
abbrev pub off_time : ℕ → List Moment → ℕ
off_time t [] = 0
off_time t (m ∷ ms) = off_time t ms + (if is_off t (now ms) then stretch m ms else 0)

-- t is blocked at an object
abbrev pub is_blocked : ℕ → World → Bool
is_blocked t w = is_some (blocked_at w t)

-- the level at which the kernel runs t, and what it gets, if these are different
abbrev pub run_apart : World → ℕ → Option (ℕ × ℕ)
run_apart w t =
    option_and_then
    (λ level. if level == gets w.state t then None else Some (level, gets w.state t))
    (runs_of w t)

-- these are the two levels, if there are any
abbrev pub are_levels : ℕ × ℕ → Option (ℕ × ℕ) → Bool
are_levels both apart = option_map_or (λ now. (now.0 == both.0) && (now.1 == both.1)) apart false

-- the kernel runs t at this level, and it gets that
abbrev pub is_run_apart : ℕ → ℕ × ℕ → World → Bool
is_run_apart t both w = are_levels both (run_apart w t)

-- a wait for a mutex: its line, thread and mutex, the clock, what the thread had and got, and of
-- the owner of the mutex its number, its level and the line by which it came to own it; these three
-- are 0 if the mutex was free
pub record WaitStart : Type 0 where
  pub line : ℕ
  pub thread : ℕ
  pub mutex : ℕ
  pub from : ℕ
  pub level : ℕ
  pub gets : ℕ
  pub owner : ℕ
  pub owner_level : ℕ
  pub grant : ℕ

-- the mutex for which t waits
abbrev pub awaited : World → ℕ → ℕ
awaited w t = option_map_or (λ (x : Wait). x.mutex) (wait_of w.state t) 0

-- the wait of t, which began with the line of this number; `since` is the line by which the owner
-- of a mutex came to own it
abbrev pub wait_at : ℕ → ℕ → (ℕ → ℕ) → World → WaitStart
wait_at t n since w =
    let m = awaited w t in let o = owner_of w.state m in
    record {
      line = n;
      thread = thread_number w t;
      mutex = mutex_number w m;
      from = w.clock;
      level = base_of w.state t;
      gets = gets w.state t;
      owner = option_map_or (thread_number w) o 0;
      owner_level = option_map_or (base_of w.state) o 0;
      grant = option_map_or (λ o. since m) o 0;
    }

-- the wait of t began in these moments
abbrev pub wait_start : ℕ → List Moment → WaitStart
wait_start t ms = wait_at t (number ms) (λ m. grant_line m ms) (now ms)

-- a wait at an object: its line, thread and object, the clock, and the thread's level
pub record Block : Type 0 where
  pub line : ℕ
  pub thread : ℕ
  pub object : ℕ
  pub from : ℕ
  pub level : ℕ

-- the wait of t, which began with the line of this number
abbrev pub block_at : ℕ → ℕ → World → Block
block_at t n w = record {
  line = n;
  thread = thread_number w t;
  object = unwrap_or (blocked_at w t) 0;
  from = w.clock;
  level = base_of w.state t;
}

-- the wait of t began in these moments
abbrev pub block : ℕ → List Moment → Block
block t ms = block_at t (number ms) (now ms)

-- the kernel runs a thread at another level than it gets: the line and the thread, the clock, and
-- the two levels
pub record RunStart : Type 0 where
  pub line : ℕ
  pub thread : ℕ
  pub from : ℕ
  pub level : ℕ
  pub gets : ℕ

-- the kernel runs t so, which began with the line of this number
abbrev pub run_start_at : ℕ → ℕ → ℕ × ℕ → World → RunStart
run_start_at t n both w =
    record { line = n; thread = thread_number w t; from = w.clock; level = both.0; gets = both.1 }

-- it began in these moments that the kernel runs t so
abbrev pub run_start : ℕ → ℕ × ℕ → List Moment → RunStart
run_start t both ms = run_start_at t (number ms) both (now ms)

-- an ownership: the place of the owner, its number, its level and for how long it had been off a
-- CPU; the line, and the clock
pub record Grant : Type 0 where
  pub owner : ℕ
  pub thread : ℕ
  pub level : ℕ
  pub off : ℕ
  pub line : ℕ
  pub from : ℕ

-- the owner of m, or 0
abbrev pub owner_or_none : World → ℕ → ℕ
owner_or_none w m = unwrap_or (owner_of w.state m) 0

-- the ownership of m, which began with the line of this number; for so long its owner had been off
-- a CPU
abbrev pub grant_at : ℕ → ℕ → ℕ → World → Grant
grant_at m n off w =
    let t = owner_or_none w m in
    record {
      owner = t;
      thread = thread_number w t;
      level = base_of w.state t;
      off = off;
      line = n;
      from = w.clock;
    }

-- m came to be owned in these moments
abbrev pub grant : ℕ → List Moment → Grant
grant m ms = grant_at m (number ms) (off_time (owner_or_none (now ms) m) ms) (now ms)
