-- What a manager shows of an unknown task or mutex: it waits for nothing, and has no owner.
use Rattle.std.proofs.Common.{arith, ◌≡◌, ℕ}
use Rattle.std.specs.Prelude.{is_some}
use Rattle.std.proofs.lemmas.Bool.Decides.{nat_tests}
use Rattle.std.specs.Option.{option_flatten, option_map}
use Rattle.pim_base.specs.State.{State, IsState, owner_of, wait_of}
use Rattle.pim_base.specs.Checks.{is_waiting}
use Rattle.pim_base.specs.declared.steps.Wait.{Wait}
use Rattle.pim_base.proofs.Places.{nth_within}
use Rattle.pim_manager.specs.Known.{of_task, of_mutex}

-- the owner that is shown of a mutex
pub owner_shown : (S : State) (m : ℕ) → IsState S → option_flatten (of_mutex S m (owner_of S m)) ≡ owner_of S m
owner_shown S m lists = let owners = lists.owners in grind (arith, nat_tests, nth_within)

-- whether a wait is shown of a task
pub is_waiting_shown :
    (S : State) (t : ℕ)
    → IsState S
    → is_some (option_flatten (of_task S t (option_map (λ (w : Wait). w.mutex) (wait_of S t)))) ≡ is_waiting S t
is_waiting_shown S t lists = let waits = lists.waits in grind (arith, nat_tests, nth_within)
