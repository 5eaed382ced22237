-- The search along the chain of the tasks that a task waits for, hop by hop.
use Rattle.std.proofs.Common.{◌≡◌, ◌≢◌, ℕ, zero, suc, ◌≤◌, refl, sym, arith, Option, Some, None, [], ◌∷◌, List, length, option_and_then}
use Rattle.std.specs.Option.{option_map_or}
use Rattle.std.proofs.lemmas.Option.{none-some}
use Rattle.pim_base.specs.Lists.{contains}
use Rattle.pim_base.specs.State.{State, IsTask, wait_of, owner_of}
use Rattle.pim_base.specs.Chains.{chain, blocker, waits_chain}
use Rattle.pim_base.specs.declared.steps.Wait.{Wait}
use Rattle.pim_base.proofs.Hops.{hops, chain_is_short, NoneReturns, OnlyKnownHop}
use Rattle.pim_base.proofs.Closing.{none_returns, only_known_hop}
use Rattle.pim_base.proofs.Stored.{last_hop}
use Rattle.pim_chain.specs.Views.{View, Ready, WaitsFit}

-- a chain that ends after some hops is the same with one hop more
chain_ended : (hop : ℕ → Option ℕ) (k t : ℕ) → hops hop k t ≡ None → chain hop k t ≡ chain hop (suc k) t
chain_ended hop zero t e = absurd (none-some t (sym e))
chain_ended hop (suc k) t e = grind (arith, chain_ended hop k)

-- a task that is waited for is known
blocker_known : (S : State) → WaitsFit S → (t u : ℕ) → blocker S t ≡ Some u → IsTask S u
blocker_known S fit t u e = grind (arith, fit.owners)

-- the chain of the owner of the mutex that is waited for
abbrev pub rest : State → Option Wait → List ℕ
rest S o = option_map_or (waits_chain S) (option_and_then (λ (w : Wait). owner_of S w.mutex) o) []

-- without a cycle, the chain of a task is the task and the chain of the task that it waits for
pub waits_chain_is : (v : View) → Ready v → (t : ℕ) → waits_chain v.state t ≡ t ∷ rest v.state (wait_of v.state t)
waits_chain_is v ready t =
    whole (length v.state.base) (none_returns v.state ready.sound.no_cycle) (only_known_hop v.state ready.sound.lists)
    (blocker_known v.state ready.waits)
  where
    hop : ℕ → Option ℕ
    hop = blocker v.state

    whole : (n : ℕ) → NoneReturns hop n → OnlyKnownHop hop n → ((s y : ℕ) → hop s ≡ Some y → (1 ≤ y) × (y ≤ n)) → chain hop n t ≡ chain hop (suc n) t
    whole zero acyclic hops_known known = grind (arith, hops_known)
    whole (suc m) acyclic hops_known known = chain_ended hop (suc m) t (ends (hops hop (suc m) t) refl)
      where
        ends : (o : Option ℕ) → hops hop (suc m) t ≡ o → hops hop (suc m) t ≡ None
        ends None is = is
        ends (Some y) is =
            let l = last_hop hop m t y is in
            absurd (omega (arith, chain_is_short hop (suc m) acyclic hops_known (suc m) t y (omega arith) is (known l.0 y l.2)))

-- a search that doesn't find the task at the owner goes on at what the owner waits for
pub contains_onward :
    (v : View)
    → Ready v
    → (w : Wait) (t u : ℕ)
    → owner_of v.state w.mutex ≡ Some t
    → u ≢ t
    → contains (rest v.state (Some w)) u ≡ contains (rest v.state (wait_of v.state t)) u
contains_onward v ready w t u owned other = grind (arith, waits_chain_is v ready t)
