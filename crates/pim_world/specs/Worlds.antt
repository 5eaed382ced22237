-- What the lines so far say of threads, mutexes, objects and CPUs.
use Rattle.std.specs.Prelude.{ℕ, ◌==◌, Bool, false, List, [], Option, None, is_none, unwrap_or}
use Rattle.std.specs.Prelude.{◌&&◌}
use Rattle.std.specs.Option.{option_and_then, option_map_or}
use Rattle.pim_base.specs.Lists.{nth, holds}
use Rattle.pim_base.specs.State.{State, start, owner_of, wait_of}
use Rattle.pim_base.specs.declared.steps.Wait.{Wait}
use Rattle.pim_world.specs.declared.kernel.Off.{Off}

-- What the kernel did, as far as it is known: at which level it runs each thread, on which CPU that
-- was last, and of a thread that is off a CPU whether it could run; which thread is on each CPU.
pub record Kernel : Type 0 where
  pub runs : List (Option ℕ)
  pub cpu : List (Option ℕ)
  pub off : List (Option Off)
  pub on : ℕ → Option ℕ

-- `thread` and `mutex` are the places of what is declared in the lists of the state, by its number;
-- `threads` and `mutexes` are the numbers in these lists. `clock` is the greatest time so far.
pub record World : Type 0 where
  pub thread : ℕ → Option ℕ
  pub mutex : ℕ → Option ℕ
  pub object : ℕ → Bool
  pub threads : List ℕ
  pub mutexes : List ℕ
  pub state : State
  pub recursive : List Bool
  pub blocked : List (Option ℕ)
  pub kernel : Kernel
  pub clock : ℕ
  pub has_ended : Bool

-- nothing is known, of no thread
abbrev pub no_kernel : Kernel
no_kernel = record { runs = []; cpu = []; off = []; on = λ c. None }

-- nothing is declared
abbrev pub no_world : World
no_world = record {
  thread = λ t. None;
  mutex = λ m. None;
  object = λ x. false;
  threads = [];
  mutexes = [];
  state = start [] [] 0;
  recursive = [];
  blocked = [];
  kernel = no_kernel;
  clock = 0;
  has_ended = false;
}

-- t waits for m
abbrev pub awaits : World → ℕ → ℕ → Bool
awaits w t m = option_map_or (λ (x : Wait). x.mutex == m) (wait_of w.state t) false

-- the object at which t is blocked
abbrev pub blocked_at : World → ℕ → Option ℕ
blocked_at w t = unwrap_or (nth w.blocked t) None

-- t neither waits for a mutex nor is blocked at an object
abbrev pub is_idle : World → ℕ → Bool
is_idle w t = is_none (wait_of w.state t) && is_none (blocked_at w t)

-- t owns m
abbrev pub owns : World → ℕ → ℕ → Bool
owns w t m = holds (owner_of w.state m) t

-- its owner may lock m again
abbrev pub is_recursive : World → ℕ → Bool
is_recursive w m = unwrap_or (nth w.recursive m) false

-- the CPU where t was last
abbrev pub last_cpu : Kernel → ℕ → Option ℕ
last_cpu k t = unwrap_or (nth k.cpu t) None

-- t is on a CPU
abbrev pub is_on : Kernel → ℕ → Bool
is_on k t = holds (option_and_then k.on (last_cpu k t)) t
