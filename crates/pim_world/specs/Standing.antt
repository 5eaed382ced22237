-- What holds of a waiting thread after a line: docs/ROWS.md, 'After a line'.
use Rattle.std.specs.Prelude.{ℕ, ◌==◌, Bool, true, false, not, ◌&&◌, Option, Some, None, is_some}
use Rattle.std.specs.Prelude.{is_none, unwrap_or, nat_lt, if◌then◌else◌}
use Rattle.std.specs.Option.{option_and_then, option_map}
use Rattle.pim_base.specs.Lists.{nth}
use Rattle.pim_base.specs.State.{base_of, wait_of}
use Rattle.pim_waits.specs.Waiting.{gets, runner, blame}
use Rattle.pim_world.specs.Worlds.{World, Kernel, blocked_at, last_cpu}
use Rattle.pim_world.specs.declared.kernel.Off.{Off}
use Rattle.pim_world.specs.declared.kernel.Off.TheVariants as offs
pub use Rattle.pim_world.specs.declared.standing.Standing.{Standing}

-- the number of the thread, of the mutex at this place
abbrev pub thread_number : World → ℕ → ℕ
thread_number w t = unwrap_or (nth w.threads t) 0

abbrev pub mutex_number : World → ℕ → ℕ
mutex_number w m = unwrap_or (nth w.mutexes m) 0

-- t waits for a mutex
abbrev pub waits : ℕ → World → Bool
waits t w = is_some (wait_of w.state t)

-- ---- the kernel

-- how t is off a CPU, if it is
abbrev pub off_of : Kernel → ℕ → Option Off
off_of k t = unwrap_or (nth k.off t) None

abbrev pub is_off : ℕ → World → Bool
is_off t w = is_some (off_of w.kernel t)

abbrev pub is_ready_off : Option Off → Bool
is_ready_off None = false
is_ready_off (Some offs.Ready) = true
is_ready_off (Some offs.Asleep) = false

-- the level at which the kernel runs t, if it is known
abbrev pub runs_of : World → ℕ → Option ℕ
runs_of w t = unwrap_or (nth w.kernel.runs t) None

-- the level at which t is run: what the kernel says, or else what it gets
abbrev pub run_level : World → ℕ → ℕ
run_level w t = unwrap_or (runs_of w t) (gets w.state t)

-- which thread is on the CPU where a ready one was last
abbrev pub in_place_of : Kernel → ℕ → Option ℕ
in_place_of k r = if is_ready_off (off_of k r) then option_and_then k.on (last_cpu k r) else None

-- ---- a waiting thread

-- it isn't blocked at an object
abbrev pub could_run : World → ℕ → Bool
could_run w r = is_none (blocked_at w r)

-- the runner of t, if it isn't blocked and has less than t gets
abbrev pub runner_with_less : (ℕ → ℕ) → World → ℕ → Option ℕ
runner_with_less has w t =
    option_and_then
    (λ r. if could_run w r && nat_lt (has r) (gets w.state t) then Some r else None)
    (runner w.state t)

-- the runner for which t is inverted: it could run, and gets less than t gets
abbrev pub inverted_by : World → ℕ → Option ℕ
inverted_by w t = runner_with_less (gets w.state) w t

-- t has a runner that could run, and whose level is below what t gets
abbrev pub is_lower : World → ℕ → Bool
is_lower w t = is_some (runner_with_less (base_of w.state) w t)

-- the thread that runs in place of the runner of an inverted t: another one than t, below what t
-- gets
abbrev pub meanwhile_of : World → ℕ → ℕ → Option ℕ
meanwhile_of w t r =
    option_and_then
    (λ u. if not (u == t) && nat_lt (run_level w u) (gets w.state t) then Some u else None)
    (in_place_of w.kernel r)

-- ---- what is counted, by numbers

-- three numbers by which times are summed; of those with two the third is 0
abbrev pub Key : Type 0
Key = ℕ × ℕ × ℕ

abbrev pub same_key : Key → Key → Bool
same_key j k = (j.0 == k.0) && (j.1 == k.1) && (j.2 == k.2)

-- by blamed mutex, runner, and what that gets
abbrev pub inverted_key : World → ℕ → ℕ → Key
inverted_key w t r =
    (mutex_number w (unwrap_or (blame w.state t) 0), thread_number w r, gets w.state r)

-- by object and runner
abbrev pub stalled_key : World → ℕ → Option Key
stalled_key w r = option_map (λ x. (x, thread_number w r, 0)) (blocked_at w r)

-- by thread, and the level at which it is run
abbrev pub meanwhile_key : World → ℕ → Key
meanwhile_key w u = (thread_number w u, run_level w u, 0)

-- what holds of a waiting thread
abbrev pub standing : World → ℕ → Standing
standing w t = record {
  lower = is_lower w t;
  inverted = option_map (inverted_key w t) (inverted_by w t);
  stalled = option_and_then (stalled_key w) (runner w.state t);
  meanwhile = option_map (meanwhile_key w) (option_and_then (meanwhile_of w t) (inverted_by w t));
}
