-- What a free mutex that a task adopts leaves steady.
use Rattle.std.proofs.Common.{◌≡◌, ℕ, false, is_some, length, Some, None, sym, ◌∙◌, ap, subst}
use Rattle.pim_base.specs.Priorities.{effective_priority}
use Rattle.pim_base.specs.State.{State, owner_of, with_owner, with_wait}
use Rattle.pim_base.specs.Steady.{WaitsAreForOwned, IsSteady}
use Rattle.pim_base.proofs.NoCycle.{idle_now}
use Rattle.pim_base.proofs.Steady.{steady_kept}
use Rattle.pim_chain.specs.Adopted.{IsUnawaited, is_protect}
use Rattle.pim_chain.specs.Views.{View, with_state}
use Rattle.pim_chain.proofs.Adopted.{awaited-same, adopted_sound, effective_priority-same}
use Rattle.pim_chain.proofs.Told.{tells-same}
use Rattle.pim_sets.specs.Work.{Work}
use Rattle.pim_manager.specs.Settled.{Worked}

-- nobody waits for a free mutex
pub free_unawaited : (S : State) (m : ℕ) → owner_of S m ≡ None → WaitsAreForOwned S → IsUnawaited S m
free_unawaited S m free ok x w e same =
    let some = sym (ok x w e) ∙ ap is_some (ap (owner_of S) same ∙ free) in cc

pub steady_adopted : (S : State) (m t : ℕ) → owner_of S m ≡ None → IsSteady S → IsSteady (with_owner S m (Some t))
steady_adopted S m t free ok =
    let none = free_unawaited S m free ok.owned in
    record {
      sound = adopted_sound S m t none ok.sound;
      tickets = record { given = ok.tickets.given; own = ok.tickets.own };
      owned = λ x w e. ap is_some (awaited-same S m t none x w e) ∙ ok.owned x w e;
      -- whether t waits is no matter of the counts
      counts = (steady_kept.grant (with_wait S t None) t m (steady_kept.withdraw S t ok) (idle_now S t)).counts;
    }

-- that is no work: no priority changes
pub worked_adopted :
    {v w : View} {S : State} (m t : ℕ)
    → w ≡ with_state v (with_owner v.state m (Some t))
    → v.state ≡ S
    → owner_of v.state m ≡ None
    → is_protect v.state m ≡ false
    → IsUnawaited v.state m
    → (a : Work)
    → Worked S a w.state a
worked_adopted {v} {w} {S} m t is shown free plain none a =
    subst (λ (U : State). Worked U a w.state a) shown
    (subst (λ (T : State). Worked v.state a T a) (sym (ap (λ (y : View). y.state) is))
    (tells-same (length v.state.base) (effective_priority v.state) (effective_priority (with_owner v.state m (Some t))) a
    (λ x low high. effective_priority-same v.state m t none free plain x)))
