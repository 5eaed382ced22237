-- What holds of the world after each text.
use Rattle.std.specs.Prelude.{◌≡◌, ℕ, List, length, Option, Some, None, unwrap_or}
use Rattle.pim_base.specs.Lists.{nth}
use Rattle.pim_base.specs.State.{State}
use Rattle.pim_waits.specs.Whole.{IsWhole}
use Rattle.pim_world.specs.Worlds.{World, Kernel, last_cpu}
use Rattle.pim_world.specs.Known.{AreTasks, AreMutexes}

-- each thread has its entries; one that is on a CPU was there last, and isn't off
pub record IsSteadyKernel (k : Kernel) (threads : ℕ) : Type 0 where
  pub cpus : length k.cpu ≡ threads
  pub offs : length k.off ≡ threads
  pub on :
      (cpu t : ℕ)
      → k.on cpu ≡ Some t
      → (last_cpu k t ≡ Some cpu) × (unwrap_or (nth k.off t) None ≡ None)

-- The lists of the state fit together, and owners are known. What is declared has a place in the
-- state, and the thread at a place is the one of its number.
pub record AreSteady
    (S : State) (thread mutex : ℕ → Option ℕ) (threads : List ℕ) (k : Kernel) : Type 0 where
  pub state : IsWhole S
  pub tasks : AreTasks S thread
  pub mutexes : AreMutexes S mutex
  pub numbered : length threads ≡ length S.base
  pub places : (n t : ℕ) → nth threads t ≡ Some n → thread n ≡ Some t
  pub kernel : IsSteadyKernel k (length S.base)

abbrev pub IsSteady : World → Type 0
IsSteady w = AreSteady w.state w.thread w.mutex w.threads w.kernel
