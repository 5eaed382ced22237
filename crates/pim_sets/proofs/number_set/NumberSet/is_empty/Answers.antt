use Rattle.std.proofs.Common.{◌≡◌, ◌∙◌, ◌↔◌, Bool, true, false, not, IsTrue, List, ℕ, Option, Some, None, is_some, length, rules, sym}
use Rattle.std.specs.Iterator.{YieldsFirst}
use Rattle.pim_sets.specs.Numbers.{has, members}
use Rattle.pim_sets.proofs.Members.{has_none, members_empty}
use Rattle.pim_sets.proofs.number_set.NumberSet.is_empty.Goals as goal

tells :
    (words all after : List ℕ) (first : Option ℕ) (b : Bool)
    → length words ≡ 5
    → all ≡ members words
    → YieldsFirst {S = List ℕ} {A = ℕ} (λ rest. rest) all first after
    → is_some first ≡ not b
    → IsTrue b ↔ ((k : ℕ) → has words k ≡ false)
tells words all after None true len is yields _ = (λ _. has_none words len (sym is ∙ yields.0), λ _. search rules)
tells words all after None false len is yields told = (cc)
tells words all after (Some n) true len is yields told = (cc)
tells words all after (Some n) false len is yields _ =
    (λ t. search (rules, t), λ none. let empty = members_empty words none in (cc))

pub returns : goal.returns
returns c =
    tells c.args.self.now.words c.iter.result c.next.new.self c.next.result c.is_none.result (search rules)
    c.iter.ensures c.next.ensures.steps c.is_none.ensures
