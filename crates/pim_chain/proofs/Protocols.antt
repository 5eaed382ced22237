-- What another ceiling of a PROTECT mutex and another protocol of a free one leave in order.
use Rattle.std.proofs.Common.{◌≡◌, ℕ, Bool, false, is_none, rules, arith, refl, sym, ◌∙◌, ap, Option, None, length, map}
use Rattle.std.proofs.lemmas.Bool.{cases_eq}
use Rattle.pim_base.specs.Lists.{holds}
use Rattle.pim_base.specs.State.{State, base_of, owner_of, owned, with_protocol, with_ceiling}
use Rattle.pim_base.specs.Chains.{heir, heir_in, heir_of}
use Rattle.pim_base.specs.Checks.{not_protect}
use Rattle.pim_base.specs.Priorities.{own_priority, ceiling, ceiling_of}
use Rattle.pim_base.specs.declared.steps.Protocol.{Protocol}
use Rattle.pim_base.proofs.Greatest.{greatest_of, greatest-cons, greatest_of-same}
use Rattle.pim_base.proofs.NoCycle.{protocol_sound}
use Rattle.pim_base.proofs.OtherProtocol.{protocol_beside, heir-same, own_priority-same}
use Rattle.pim_base.proofs.Places.{nth-put_same, nth_within, length-put}
use Rattle.pim_base.proofs.Stored.{from_holds}
use Rattle.pim_chain.specs.Views.{View, Ready, with_state}
use Rattle.pim_chain.proofs.Changes.{AtMost, DiffersAt, ready_with}

-- a PROTECT mutex has no heir
heir_in-protect : (p : Protocol) (o : Option ℕ) → is_none (ceiling p) ≡ false → heir_in p o ≡ None
heir_in-protect p o h = search rules

-- nobody inherits through it, whatever its ceiling
heir_of-with_ceiling : (S : State) (m c k : ℕ) → not_protect S m ≡ false → heir_of (with_ceiling S m c) k ≡ heir_of S k
heir_of-with_ceiling S m c k protect =
    grind (arith, cases_eq k m, protocol_beside S m k (Protocol.Protect c), nth-put_same S.protocol m (Protocol.Protect c), nth_within S.protocol m, heir_in-protect)

pub differs_ceiling :
    (S : State) (m c x : ℕ)
    → not_protect S m ≡ false
    → AtMost (owner_of S m) x
    → DiffersAt S (with_ceiling S m c) x
differs_ceiling S m c x protect owner = record {
  tasks = refl;
  own = own;
  kept = λ u t _ e. heir_same u ∙ e;
  added = λ u t _ e. sym (heir_same u) ∙ e;
}
  where
    T : State
    T = with_ceiling S m c

    heir_same : (u : ℕ) → heir T u ≡ heir S u
    heir_same u = grind (arith, λ (k : ℕ). heir_of-with_ceiling S m c k protect)

    -- who isn't the owner has the ceilings that it had
    own : (t : ℕ) → (t ≡ x → ⊥) → own_priority S t ≡ own_priority T t
    own t ne =
        let before = greatest-cons (base_of S t) (map (ceiling_of S) (owned S t)) in
        let after = greatest-cons (base_of S t) (map (ceiling_of T) (owned T t)) in
        let len = ap (greatest_of (ceiling_of T) owns) (length-put S.protocol m (Protocol.Protect c)) in
        let same = greatest_of-same (ceiling_of T) (ceiling_of S) owns owns (length S.protocol) (λ k. refl) (λ k h. grind (arith, protocol_beside S m k (Protocol.Protect c), from_holds (owner_of S k) t h, owner t, ne)) in
        omega (arith, before, after, len, same)
      where
        owns : ℕ → Bool
        owns k = holds (owner_of S k) t

pub differs_protocol : (S : State) (m x : ℕ) (p : Protocol) → owner_of S m ≡ None → DiffersAt S (with_protocol S m p) x
differs_protocol S m x p free = record {
  tasks = refl;
  own = λ t _. sym (own_priority-same S m p free t);
  kept = λ u t _ e. heir-same S m p free u ∙ e;
  added = λ u t _ e. sym (heir-same S m p free u) ∙ e;
}

pub ready_protocol : (v : View) (m : ℕ) (p : Protocol) → Ready v → Ready (with_state v (with_protocol v.state m p))
ready_protocol v m p ready =
    ready_with v (with_protocol v.state m p) refl (length-put v.state.protocol m p) refl
    (protocol_sound v.state m p ready.sound) ready.waits.owners ready
