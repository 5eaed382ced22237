-- No step changes the kind of a mutex.
use Rattle.std.proofs.Common.{◌≡◌, ℕ, List, false, Option, Some, None, refl, sym, ◌∙◌, ap, arith, unwrap_or, inl, inr, rules}
use Rattle.std.proofs.lemmas.Bool.Decides.{eqb_tells}
use Rattle.pim_base.specs.Lists.{nth}
use Rattle.pim_base.specs.State.{State, protocol_of, with_ceiling}
use Rattle.pim_base.specs.Checks.{not_protect}
use Rattle.pim_base.specs.Laws.{kind, KindLaw}
use Rattle.pim_base.specs.declared.steps.Protocol.{Protocol}
use Rattle.pim_base.proofs.HandOvers.{protocol-hand_over}
use Rattle.pim_base.proofs.Kept.{IsKeptBySteps, kept_by_step}
use Rattle.pim_base.proofs.Places.{nth-put_same, nth-put_other, nth_within}

-- another ceiling of a PROTECT mutex
kind-with_ceiling :
    (S : State) (m c k : ℕ)
    → not_protect S m ≡ false
    → kind (protocol_of (with_ceiling S m c) k) ≡ kind (protocol_of S k)
kind-with_ceiling S m c k protect = elim (eqb_tells m k) [
  | inl same ↦ ap (λ j. kind (protocol_of (with_ceiling S m c) j)) (sym same.1) ∙ here (nth S.protocol m) refl ∙ ap (λ j. kind (protocol_of S j)) same.1
  | inr other ↦ ap (λ o. kind (unwrap_or o Protocol.None)) (nth-put_other S.protocol m k (Protocol.Protect c) other.1)
]
  where
    here : (o : Option Protocol) → nth S.protocol m ≡ o → kind (protocol_of (with_ceiling S m c) m) ≡ kind (protocol_of S m)
    here None e = cc
    here (Some p) e =
        let within = nth_within S.protocol m p e in
        let new : protocol_of (with_ceiling S m c) m ≡ Protocol.Protect c =
        ap (λ o. unwrap_or o Protocol.None) (nth-put_same S.protocol m (Protocol.Protect c) within.0 within.1) in
        let old : protocol_of S m ≡ p = ap (λ o. unwrap_or o Protocol.None) e in
        ap kind new ∙ sym (is_protect p old) ∙ ap kind (sym old)
      where
        is_protect : (p : Protocol) → protocol_of S m ≡ p → kind p ≡ 2
        is_protect p old = grind (arith, rules)

kinds_kept : (S : State) → IsKeptBySteps (λ T. (m : ℕ) → kind (protocol_of T m) ≡ kind (protocol_of S m))
kinds_kept S = record {
  grant = λ T a m ok idle k. ok k;
  lock_again = λ T a m ok again few k. ok k;
  keep = λ T m ok kept k. ok k;
  enqueue = λ T a m ok task idle open' owned k. ok k;
  hand = λ T m ok k. ap (λ (ps : List Protocol). kind (unwrap_or (nth ps k) Protocol.None)) (protocol-hand_over T m) ∙ ok k;
  withdraw = λ T t ok k. ok k;
  set_base = λ T t p ok k. ok k;
  set_ceiling = λ T m c ok protect k. kind-with_ceiling T m c k protect ∙ ok k;
}

pub kind_law : KindLaw
kind_law S step m = kept_by_step (λ T. (k : ℕ) → kind (protocol_of T k) ≡ kind (protocol_of S k)) (kinds_kept S) S step (λ k. refl) m
