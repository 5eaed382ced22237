-- An owner that waits for nothing.
use Rattle.std.proofs.Common.{◌≡◌, ◌≢◌, ℕ, zero, suc, ◌-◌, ◌<◌, ◌≤◌, ◌||◌, false, cond, Option}
use Rattle.std.proofs.Common.{Some, None, is_some, length, option_and_then, refl, sym, ◌∙◌, ap}
use Rattle.std.proofs.Common.{arith, le_trans, le_antisymm, unwrap_or}
use Rattle.std.specs.Option.{option_map}
use Rattle.std.proofs.lemmas.Bool.{ne_eqb}
use Rattle.std.proofs.lemmas.Option.{same_Some, none-some}
use Rattle.pim_base.specs.State.{State, IsTask, base_of, protocol_of, owner_of, wait_of}
use Rattle.pim_base.specs.Chains.{blocker, heir, heir_in, heir_of}
use Rattle.pim_base.specs.Priorities.{ceiling, ceiling_of, own_priority}
use Rattle.pim_base.specs.declared.steps.Protocol.{Protocol}
use Rattle.pim_base.specs.declared.steps.Wait.{Wait}
use Rattle.pim_base.proofs.Hops.{hops}
use Rattle.pim_base.proofs.Stored.{heir_in-owner, last_hop, own_priority-le-effective_priority}
use Rattle.pim_base.proofs.Stored.{effective_priority-le}
use Rattle.pim_waits.specs.Awaited.{awaited_of}
use Rattle.pim_waits.specs.Waiting.{gets, way, runner, other_end, last_item}
use Rattle.pim_waits.specs.Whole.{IsWhole}
use Rattle.pim_waits.specs.Laws.{IsIdleOwner, WaitsForIdle, IdleOwnerLaw, HasLowRunner}
use Rattle.pim_waits.proofs.Owning.{base-le-own, own-le}
use Rattle.pim_waits.proofs.Ways.{last_item-end, last_item-next}

blocker-awaited :
    (S : State) (t m u : ℕ)
    → awaited_of S t ≡ Some m
    → owner_of S m ≡ Some u
    → blocker S t ≡ Some u
blocker-awaited S t m u awaits owner = go (wait_of S t) refl awaits
  where
    go :
        (w : Option Wait)
        → wait_of S t ≡ w
        → option_map (λ (w : Wait). w.mutex) w ≡ Some m
        → blocker S t ≡ Some u
    go None is h = cc
    go (Some w) is h =
        ap (option_and_then (λ (w : Wait). owner_of S w.mutex)) is
        ∙ ap (owner_of S) (same_Some w.mutex m h) ∙ owner

module _ (S : State) (m u : ℕ) (whole : IsWhole S) (owner : IsIdleOwner S m u) where
  -- no thread passes anything on to the owner
  no_donor : (v : ℕ) → heir S v ≡ Some u → ⊥
  no_donor v e = go (wait_of S v) refl e
    where
      go :
          (w : Option Wait)
          → wait_of S v ≡ w
          → option_and_then (λ (w : Wait). heir_of S w.mutex) w ≡ Some u
          → ⊥
      go None is h = cc
      go (Some w) is h =
          let owns : owner_of S w.mutex ≡ Some u =
          heir_in-owner (protocol_of S w.mutex) (owner_of S w.mutex) u h in
          let none : protocol_of S w.mutex ≡ Protocol.None =
          ap (protocol_of S) (owner.only w.mutex owns) ∙ owner.none in
          none-some u (sym (ap (λ p. heir_in p (owner_of S w.mutex)) none) ∙ h)

  owner_gets : gets S u ≡ base_of S u
  owner_gets =
      le_antisymm (effective_priority-le S u (base_of S u) each) (le_trans (base-le-own S u) own)
    where
      own : own_priority S u ≤ gets S u
      own =
          own_priority-le-effective_priority S u u 0
          (whole.owners m u owner.owner) (omega arith) refl

      alone : own_priority S u ≤ base_of S u
      alone = own-le S u (base_of S u) (omega arith) (λ k e.
          let none : ceiling_of S k ≡ 0 =
          ap (ceiling_of S) (owner.only k e) ∙ ap (λ p. unwrap_or (ceiling p) 0) owner.none in
          omega (arith, none))

      each :
          (x k : ℕ)
          → IsTask S x
          → k ≤ length S.base
          → hops (heir S) k x ≡ Some u
          → own_priority S x ≤ base_of S u
      each x zero task le e =
          let same : own_priority S x ≡ own_priority S u =
          ap (own_priority S) (same_Some x u e) in omega (arith, same, alone)
      each x (suc k) task le e = let l = last_hop (heir S) k x u e in absurd (no_donor l.0 l.2)

  module _ (t : ℕ) (awaits : awaited_of S t ≡ Some m) where
    owner_blocks_none : blocker S u ≡ None
    owner_blocks_none = ap (option_and_then (λ (w : Wait). owner_of S w.mutex)) owner.idle

    other : u ≢ t
    other same =
        none-some m (sym (ap (option_map (λ (w : Wait). w.mutex)) owner.idle)
        ∙ ap (awaited_of S) same ∙ awaits)

    owner_runs : runner S t ≡ Some u
    owner_runs =
        let task : IsTask S u = whole.owners m u owner.owner in
        let n : length S.base ≡ suc (length S.base - 1) = omega (arith, task) in
        let last : last_item (way S t) ≡ Some u =
        last_item-next (blocker S)
        (length S.base) (length S.base - 1) t u n (blocker-awaited S t m u awaits owner.owner)
        ∙ last_item-end (blocker S) (length S.base - 1) u owner_blocks_none in
        ap (option_and_then (other_end S t)) last
        ∙ ap (λ b. cond (b || is_some (blocker S u)) None (Some u)) (ne_eqb u t other)
        ∙ ap (λ o. cond (false || is_some o) None (Some u)) owner_blocks_none

    waits_for_idle : WaitsForIdle S t u
    waits_for_idle = record {
      runs = owner_runs;
      level = owner_gets;
      inverted = (there, back);
    }
      where
        there : HasLowRunner S t → base_of S u < gets S t
        there low =
            let same : gets S low.0 ≡ gets S u =
            ap (gets S) (same_Some low.0 u (sym low.1 ∙ owner_runs)) in
            omega (arith, same, low.2, owner_gets)

        back : base_of S u < gets S t → HasLowRunner S t
        back low = (u, owner_runs, omega (arith, low, owner_gets))

pub idle_owner_law : IdleOwnerLaw
idle_owner_law S t m u whole owner awaits = waits_for_idle S m u whole owner t awaits
