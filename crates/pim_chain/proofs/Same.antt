-- What `==` says of the lists of two states: all are equal exactly if the states are.
use Rattle.std.proofs.Common.{rules, ◌≡◌, ◌↔◌, ◌==◌, eqb, ◌&&◌, ℕ, Bool, Option, IsTrue, refl, eqb-true, eq-eqb, sym, ◌∙◌}
use Rattle.std.specs.Bool.{Decides}
use Rattle.std.specs.Option.{option_eq}
use Rattle.std.proofs.lemmas.Bool.Decides.{Decides-and}
use lib.Pointwise.{pointwise, pointwise_decides}
use Rattle.pim_base.specs.State.{State}
use Rattle.pim_base.specs.declared.steps.Protocol.{Protocol}
use Rattle.pim_base.specs.declared.steps.Wait.{Wait}
use Rattle.pim_base.specs.contracts.numbers.PrioPartialEq.TheImpl as prio
use Rattle.pim_base.specs.contracts.numbers.TaskNoPartialEq.TheImpl as task
use Rattle.pim_base.specs.contracts.steps.ProtocolPartialEq.TheImpl as protocol
use Rattle.pim_base.specs.contracts.steps.WaitPartialEq.TheImpl as wait

numbers_decide : (x y : ℕ) → Decides (x == y) (x ≡ y)
numbers_decide x y = (eqb-true x y, eq-eqb x y)

protocols_decide : (x y : Protocol) → Decides (protocol.eq-value.it x y) (x ≡ y)
protocols_decide x y = search rules

waits_decide : (x y : Wait) → Decides (wait.eq-value.it x y) (x ≡ y)
waits_decide x y = search rules

options_decide : {X : Type 0} (E : X → X → Bool) → ((x y : X) → Decides (E x y) (x ≡ y)) → (x y : Option X) → Decides (option_eq E x y) (x ≡ y)
options_decide E decides x y = search (rules, decides)

-- whether bases, protocols, owners, counts, waits and next ticket are the same
abbrev pub same_fields : State → State → Bool
same_fields S T =
    pointwise prio.eq-value.it S.base T.base
    && pointwise protocol.eq-value.it S.protocol T.protocol
    && pointwise (option_eq task.eq-value.it) S.owner T.owner
    && pointwise eqb S.count T.count
    && pointwise (option_eq wait.eq-value.it) S.wait T.wait
    && (S.next == T.next)

-- all lists of the two states are equal
abbrev AreSame : State → State → Type 0
AreSame S T =
    (((((S.base ≡ T.base) × (S.protocol ≡ T.protocol)) × (S.owner ≡ T.owner)) × (S.count ≡ T.count)) × (S.wait ≡ T.wait))
    × (S.next ≡ T.next)

same_fields_are : (S T : State) → Decides (same_fields S T) (AreSame S T)
same_fields_are S T =
    let bases = pointwise_decides numbers_decide S.base T.base in
    let protocols = pointwise_decides protocols_decide S.protocol T.protocol in
    let owners = pointwise_decides (options_decide task.eq-value.it numbers_decide) S.owner T.owner in
    let counts = pointwise_decides numbers_decide S.count T.count in
    let waits = pointwise_decides (options_decide wait.eq-value.it waits_decide) S.wait T.wait in
    let owned = Decides-and _ _ (Decides-and _ _ (Decides-and _ _ bases protocols) owners) counts in
    Decides-and _ _ (Decides-and _ _ owned waits) (numbers_decide S.next T.next)

pub same_fields-Decides : (S T : State) (r : Bool) → r ≡ same_fields S T → IsTrue r ↔ S ≡ T
same_fields-Decides S T r is = (
  λ t. let f = (same_fields_are S T).0 (sym is ∙ t) in
      λ i. record { base = f.0.0.0.0.0 i; protocol = f.0.0.0.0.1 i; owner = f.0.0.0.1 i; count = f.0.0.1 i; wait = f.0.1 i; next = f.1 i },
  λ e. is ∙ (same_fields_are S T).1 (rw e (((((refl, refl), refl), refl), refl), refl)),
)
