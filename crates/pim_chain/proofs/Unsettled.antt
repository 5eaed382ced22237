-- Whose local priority alone a single change may change.
use Rattle.std.proofs.Common.{◌≡◌, ℕ, sym, arith, Option, Some, None, false}
use Rattle.std.proofs.lemmas.Option.{same_Some}
use Rattle.pim_base.specs.State.{State, IsState, IsTask, owner_of, wait_of, protocol_of, with_owner, with_wait, with_base, with_protocol, with_ceiling}
use Rattle.pim_base.specs.Chains.{blocker}
use Rattle.pim_base.specs.Checks.{not_protect}
use Rattle.pim_base.specs.declared.steps.Protocol.{Protocol}
use Rattle.pim_base.specs.declared.steps.Wait.{Wait}
use Rattle.pim_base.proofs.Stored.{heir_in-owner, heir-blocker}
use Rattle.pim_chain.specs.Settled.{SettledBut}
use Rattle.pim_chain.proofs.Changes.{AtMost, DiffersAt, differs_settled, differs_owner, differs_wait, differs_base}
use Rattle.pim_chain.proofs.Protocols.{differs_ceiling, differs_protocol}
use Rattle.pim_chain.specs.Adopted.{IsUnawaited, is_protect}
use Rattle.pim_chain.proofs.Adopted.{differs_adopted}

-- nobody but this one
module _ (S T : State) (stored : ℕ → ℕ) (settled : SettledBut S stored None) where
  but : (o : Option ℕ) → ((x : ℕ) → AtMost o x → DiffersAt S T x) → SettledBut T stored o
  but (Some x) differs = differs_settled S T stored x (differs x (λ t e. sym (same_Some x t e))) settled
  -- no task is number 0
  but None differs = λ t task _.
      differs_settled S T stored 0 (differs 0 (λ u e. cc)) settled t task (λ e. absurd (omega (arith, same_Some 0 t e, task.0)))

pub bound_unsettles :
    (S : State) (stored : ℕ → ℕ) (m t : ℕ)
    → owner_of S m ≡ None
    → SettledBut S stored None
    → SettledBut (with_owner S m (Some t)) stored (Some t)
bound_unsettles S stored m t free settled =
    but S (with_owner S m (Some t)) stored settled (Some t) (λ x at. differs_owner S m (Some t) x (λ y e. cc) at)

pub adopted_unsettles :
    (S : State) (stored : ℕ → ℕ) (m t : ℕ)
    → IsUnawaited S m
    → owner_of S m ≡ None
    → is_protect S m ≡ false
    → SettledBut S stored None
    → SettledBut (with_owner S m (Some t)) stored None
adopted_unsettles S stored m t unawaited free plain settled =
    but S (with_owner S m (Some t)) stored settled None (λ x _. differs_adopted S m t unawaited free plain x)

pub unbound_unsettles :
    (S : State) (stored : ℕ → ℕ) (m : ℕ)
    → SettledBut S stored None
    → SettledBut (with_owner S m None) stored (owner_of S m)
unbound_unsettles S stored m settled =
    but S (with_owner S m None) stored settled (owner_of S m) (λ x at. differs_owner S m None x at (λ t e. cc))

pub joined_unsettles :
    (S : State) (stored : ℕ → ℕ) (t : ℕ) (w : Wait)
    → IsState S
    → IsTask S t
    → wait_of S t ≡ None
    → SettledBut S stored None
    → SettledBut (with_wait S t (Some w)) stored (owner_of S w.mutex)
joined_unsettles S stored t w lists known idle settled =
    but S (with_wait S t (Some w)) stored settled (owner_of S w.mutex) (λ x at.
    differs_wait S t (Some w) x lists known (λ y e. cc) (λ y e. at y (heir_in-owner (protocol_of S w.mutex) (owner_of S w.mutex) y e)))

pub left_unsettles :
    (S : State) (stored : ℕ → ℕ) (t : ℕ)
    → IsState S
    → IsTask S t
    → SettledBut S stored None
    → SettledBut (with_wait S t None) stored (blocker S t)
left_unsettles S stored t lists known settled =
    but S (with_wait S t None) stored settled (blocker S t) (λ x at.
    differs_wait S t None x lists known (λ y e. at y (heir-blocker S t y e)) (λ y e. cc))

pub based_unsettles : (S : State) (stored : ℕ → ℕ) (t p : ℕ) → SettledBut S stored None → SettledBut (with_base S t p) stored (Some t)
based_unsettles S stored t p settled = differs_settled S (with_base S t p) stored t (differs_base S t p) settled

pub ceiling_unsettles :
    (S : State) (stored : ℕ → ℕ) (m c : ℕ)
    → not_protect S m ≡ false
    → SettledBut S stored None
    → SettledBut (with_ceiling S m c) stored (owner_of S m)
ceiling_unsettles S stored m c protect settled =
    but S (with_ceiling S m c) stored settled (owner_of S m) (λ x owner. differs_ceiling S m c x protect owner)

pub protocol_unsettles :
    (S : State) (stored : ℕ → ℕ) (m : ℕ) (p : Protocol)
    → owner_of S m ≡ None
    → SettledBut S stored None
    → SettledBut (with_protocol S m p) stored None
protocol_unsettles S stored m p free settled =
    but S (with_protocol S m p) stored settled None (λ x _. differs_protocol S m x p free)
