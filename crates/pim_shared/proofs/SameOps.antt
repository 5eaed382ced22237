-- What `==` and `!=` say of operations.
use Rattle.std.proofs.Common.{◌≡◌, ◌↔◌, Bool, true, false, not, Option, Some, None, refl, ap, rules}
use Rattle.std.specs.Bool.{Decides}
use Rattle.std.specs.Option.{option_eq}
use Rattle.pim_base.specs.declared.steps.Op.{Op}
use Rattle.pim_base.specs.contracts.steps.OpPartialEq.TheImpl as op

pub ops_decide : (x y : Op) → Decides (op.eq-value.it x y) (x ≡ y)
ops_decide x y = search rules

not_is_false : (b r : Bool) → r ≡ not b → (r ≡ false) ↔ (b ≡ true)
not_is_false true r is = (λ h. refl, λ h. is)
not_is_false false r is = (λ h. cc, λ h. cc)

-- `!=` is false of an option and this operation exactly if the option is this operation
pub alike : (due : Option Op) (x : Op) (r : Bool) → r ≡ not (option_eq op.eq-value.it due (Some x)) → (r ≡ false) ↔ (due ≡ Some x)
alike None x r is = (λ h. cc, λ h. cc)
alike (Some y) x r is =
    let both = not_is_false (op.eq-value.it y x) r is in
    (λ h. ap Some ((ops_decide y x).0 (both.0 h)), λ h. both.1 ((ops_decide y x).1 cc))
