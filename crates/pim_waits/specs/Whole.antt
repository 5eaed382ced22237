-- States whose lists fit together.
use Rattle.std.specs.Prelude.{◌≡◌, ℕ, Some}
use Rattle.pim_base.specs.State.{State, IsState, IsTask, owner_of}

-- each thread and each mutex has its entries, and owners are known threads
pub record IsWhole (S : State) : Type 0 where
  pub lists : IsState S
  pub owners : (m t : ℕ) → owner_of S m ≡ Some t → IsTask S t
