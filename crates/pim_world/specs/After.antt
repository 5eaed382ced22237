-- What holds after a line: 'Which line may follow' of docs/FACTS.md, its last column.
use Rattle.std.specs.Prelude.{ℕ, ◌+◌, ◌-◌, ◌==◌, ◌++◌, max, Bool, true, ◌&&◌, [], ◌∷◌, length}
use Rattle.std.specs.Prelude.{replicate, Option, Some, None, is_some, nat_lt, if◌then◌else◌}
use Rattle.std.specs.Option.{option_map_or}
use Rattle.pim_base.specs.Lists.{put, holds}
use Rattle.pim_base.specs.State.{State, owner_of, count_of, with_owner, with_count, with_wait}
use Rattle.pim_base.specs.State.{with_base, with_ceiling}
use Rattle.pim_fact_lines.specs.declared.line.Protocol.{Protocol}
use Rattle.pim_fact_lines.specs.declared.line.What.{What}
use Rattle.pim_fact_lines.specs.declared.line.What.TheVariants as whats
use Rattle.pim_fact_lines.specs.declared.line.Line.{Line}
use Rattle.pim_fact_lines.specs.declared.line.Line.TheVariants as lines
use Rattle.pim_waits.specs.Added.{with_thread, with_mutex}
use Rattle.pim_waits.specs.Model.{protocol_in_model, wait_for}
use Rattle.pim_world.specs.declared.kernel.Off.{Off}
use Rattle.pim_world.specs.declared.kernel.Off.TheVariants as offs
use Rattle.pim_world.specs.Worlds.{World, Kernel, last_cpu}

-- a number has this from now on
abbrev pub set : {A : Type 0} → ℕ → A → (ℕ → A) → ℕ → A
set n x of k = if n == k then x else of k

-- the same with what is done to the place of what is declared
abbrev pub at : Option ℕ → (ℕ → World → World) → World → World
at place change w = option_map_or (λ n. change n w) place w

-- ---- declarations

-- a thread of which nothing is known
abbrev pub more_kernel : Kernel → Kernel
more_kernel k =
    record k { runs = k.runs ++ None ∷ []; cpu = k.cpu ++ None ∷ []; off = k.off ++ None ∷ [] }

-- the thread that was added last has this number
abbrev pub with_thread_number : ℕ → World → World
with_thread_number t w =
    record w { thread = set t (Some (length w.state.base)) w.thread; threads = w.threads ++ t ∷ [] }

-- a thread of which nothing is known but its level
abbrev pub with_new_thread : ℕ → World → World
with_new_thread level w = record w {
  state = with_thread w.state level;
  blocked = w.blocked ++ None ∷ [];
  kernel = more_kernel w.kernel;
}

abbrev pub after_thread : ℕ → ℕ → World → World
after_thread t level w = with_thread_number t (with_new_thread level w)

-- the mutex that was added last has this number
abbrev pub with_mutex_number : ℕ → World → World
with_mutex_number m w =
    record w
    { mutex = set m (Some (length w.state.protocol)) w.mutex; mutexes = w.mutexes ++ m ∷ [] }

-- a free mutex with this protocol
abbrev pub with_new_mutex : Bool → Protocol → World → World
with_new_mutex is_recursive protocol w =
    record w {
      state = with_mutex w.state (protocol_in_model protocol);
      recursive = w.recursive ++ is_recursive ∷ [];
    }

abbrev pub after_mutex : ℕ → Bool → Protocol → World → World
after_mutex m is_recursive protocol w = with_mutex_number m (with_new_mutex is_recursive protocol w)

abbrev pub with_object : ℕ → World → World
with_object x w = record w { object = set x true w.object }

-- ---- mutexes

-- t has locked m, once more if it owns it
abbrev pub locked : State → ℕ → ℕ → State
locked S t m =
    if is_some (owner_of S m) then with_count S m (count_of S m + 1) else with_owner S m (Some t)

-- its owner has unlocked m once: it is free after as many times as it was locked
abbrev pub unlocked : State → ℕ → State
unlocked S m =
    if nat_lt 1 (count_of S m) then with_count S m (count_of S m - 1) else with_owner S m None

-- ---- the kernel

-- which thread is on a CPU, but for t, which has left its own
abbrev pub without : Kernel → ℕ → ℕ → Option ℕ
without k t cpu = if holds (last_cpu k t) cpu && holds (k.on cpu) t then None else k.on cpu

-- t is on this CPU from now on
abbrev pub put_on : Kernel → ℕ → ℕ → Kernel
put_on k t cpu =
    record k { cpu = put k.cpu t (Some cpu); off = put k.off t None; on = set cpu (Some t) k.on }

-- t is off its CPU from now on, ready or asleep
abbrev pub put_off : Kernel → ℕ → Off → Kernel
put_off k t off = record k { off = put k.off t (Some off); on = without k t }

-- the kernel runs t at this level
abbrev pub with_runs : Kernel → ℕ → ℕ → Kernel
with_runs k t level = record k { runs = put k.runs t (Some level) }

-- nothing is known
abbrev pub forgotten : Kernel → Kernel
forgotten k = record {
  runs = replicate (length k.runs) None;
  cpu = replicate (length k.cpu) None;
  off = replicate (length k.off) None;
  on = λ cpu. None;
}

-- ---- what happens to t

abbrev pub with_state : World → State → World
with_state w S = record w { state = S }

abbrev pub with_kernel : World → Kernel → World
with_kernel w k = record w { kernel = k }

abbrev pub after_what : What → ℕ → World → World
after_what (whats.Granted m) t w =
    at (w.mutex m) (λ m w. with_state w (locked (with_wait w.state t None) t m)) w
after_what (whats.Took m) t w = at (w.mutex m) (λ m w. with_state w (locked w.state t m)) w
after_what (whats.Waits m) t w =
    at (w.mutex m) (λ m w. with_state w (with_wait w.state t (Some (wait_for m)))) w
after_what (whats.GaveUp m) t w = with_state w (with_wait w.state t None)
after_what (whats.Released m) t w = at (w.mutex m) (λ m w. with_state w (unlocked w.state m)) w
after_what (whats.Priority level) t w = with_state w (with_base w.state t level)
after_what (whats.Ceiling m level) t w =
    at (w.mutex m) (λ m w. with_state w (with_ceiling w.state m level)) w
after_what (whats.Blocks x) t w = record w { blocked = put w.blocked t (Some x) }
after_what (whats.Resumes x ended) t w = record w { blocked = put w.blocked t None }
after_what (whats.Runs level) t w = with_kernel w (with_runs w.kernel t level)
after_what (whats.On cpu) t w = with_kernel w (put_on w.kernel t cpu)
after_what whats.OffReady t w = with_kernel w (put_off w.kernel t offs.Ready)
after_what whats.OffAsleep t w = with_kernel w (put_off w.kernel t offs.Asleep)

-- the clock goes on to a time, and never back
abbrev pub at_time : ℕ → World → World
at_time time w = record w { clock = max w.clock time }

-- what holds after a line that may follow
abbrev pub after : World → Line → World
after w (lines.Thread t level) = after_thread t level w
after w (lines.Mutex m is_recursive protocol) = after_mutex m is_recursive protocol w
after w (lines.Object x) = with_object x w
after w lines.Unseen = w
after w (lines.Fact time t what) = at (w.thread t) (after_what what) (at_time time w)
after w (lines.Lost time) = at_time time (with_kernel w (forgotten w.kernel))
after w (lines.End time) = record (at_time time w) { has_ended = true }
