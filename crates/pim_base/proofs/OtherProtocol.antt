-- What another protocol of a mutex that nobody owns leaves as it was.
use Rattle.std.proofs.Common.{◌≡◌, ℕ, max, ◌⊎◌, inl, inr, Bool, true, length, map, Option, Some, None, refl, sym, ◌∙◌, ap, unwrap_or, option_and_then}
use Rattle.std.proofs.lemmas.Bool.{cases_eq}
use Rattle.std.proofs.lemmas.Option.{none-some}
use Rattle.pim_base.specs.Lists.{nth, contains, holds}
use Rattle.pim_base.specs.State.{State, base_of, protocol_of, owner_of, wait_of, owned, with_protocol}
use Rattle.pim_base.specs.Chains.{heir_in, heir_of, heir, inherit_chain}
use Rattle.pim_base.specs.Priorities.{ceiling, ceiling_of, own_priority, effective_priority}
use Rattle.pim_base.specs.Laws.{ProtocolLaw}
use Rattle.pim_base.specs.declared.steps.Protocol.{Protocol}
use Rattle.pim_base.specs.declared.steps.Wait.{Wait}
use Rattle.pim_base.proofs.Greatest.{greatest_of, greatest-cons, greatest_of-same}
use Rattle.pim_base.proofs.Hops.{chain-same}
use Rattle.pim_base.proofs.Places.{nth-put_other, length-put}
use Rattle.pim_base.proofs.Stored.{from_holds}

pub protocol_beside : (S : State) (m k : ℕ) (p : Protocol) → (k ≡ m → ⊥) → protocol_of (with_protocol S m p) k ≡ protocol_of S k
protocol_beside S m k p other =
    ap (λ o. unwrap_or o Protocol.None) (nth-put_other S.protocol m k p (λ same. other (sym same)))

-- a free mutex has no heir
heir_in-free : (p : Protocol) → heir_in p None ≡ None
heir_in-free Protocol.None = refl
heir_in-free Protocol.Inherit = refl
heir_in-free Protocol.InheritRecursive = refl
heir_in-free (Protocol.Protect c) = refl

module _ (S : State) (m : ℕ) (p : Protocol) (free : owner_of S m ≡ None) where
  abbrev T : State
  T = with_protocol S m p

  heir_of-same : (k : ℕ) → heir_of T k ≡ heir_of S k
  heir_of-same k = go (cases_eq k m)
    where
      none : (U : State) → U.owner ≡ S.owner → k ≡ m → heir_of U k ≡ None
      none U owners same =
          ap (heir_in (protocol_of U k)) (ap (λ os. unwrap_or (nth os k) None) owners ∙ ap (owner_of S) same ∙ free)
          ∙ heir_in-free (protocol_of U k)

      go : (k ≡ m) ⊎ (k ≡ m → ⊥) → heir_of T k ≡ heir_of S k
      go (inl same) = none T refl same ∙ sym (none S refl same)
      go (inr other) = ap (λ q. heir_in q (owner_of S k)) (protocol_beside S m k p other)

  pub heir-same : (t : ℕ) → heir T t ≡ heir S t
  heir-same t = through (wait_of S t)
    where
      through : (o : Option Wait) → option_and_then (λ (w : Wait). heir_of T w.mutex) o ≡ option_and_then (λ (w : Wait). heir_of S w.mutex) o
      through None = refl
      through (Some w) = heir_of-same w.mutex

  -- it is none of a task's mutexes
  pub own_priority-same : (t : ℕ) → own_priority T t ≡ own_priority S t
  own_priority-same t =
      greatest-cons (base_of S t) (map (ceiling_of T) (owned T t))
      ∙ ap (max (base_of S t))
      (ap (greatest_of (ceiling_of T) owns) (length-put S.protocol m p)
      ∙ greatest_of-same (ceiling_of T) (ceiling_of S) owns owns (length S.protocol) (λ k. refl) given)
      ∙ sym (greatest-cons (base_of S t) (map (ceiling_of S) (owned S t)))
    where
      owns : ℕ → Bool
      owns k = holds (owner_of S k) t

      given : (k : ℕ) → owns k ≡ true → ceiling_of T k ≡ ceiling_of S k
      given k h =
          ap (λ q. unwrap_or (ceiling q) 0)
          (protocol_beside S m k p (λ same. none-some t (sym (ap (owner_of S) same ∙ free) ∙ from_holds (owner_of S k) t h)))

  pub effective_priority-same : (t : ℕ) → effective_priority T t ≡ effective_priority S t
  effective_priority-same t =
      greatest_of-same (own_priority T) (own_priority S) (λ u. contains (inherit_chain T u) t) (λ u. contains (inherit_chain S u) t)
      (length S.base)
      (λ u. ap (λ us. contains us t) (chain-same (heir T) (heir S) heir-same (length S.base) u))
      (λ u _. own_priority-same u)

pub protocol_law : ProtocolLaw
protocol_law S m t p free = effective_priority-same S m p free t
