-- Words that begin with no operation.
use Rattle.std.proofs.lemmas.Grind.{common_steps}
use Rattle.std.proofs.Common.{◌≡◌, ◌⊎◌, ℕ, List, ◌∷◌, ◌++◌, codes, arith, rules}
use Rattle.std.specs.Fmt.{decimal}
use Rattle.pim_base.specs.declared.steps.Op.{Op}
use Rattle.pim_base.specs.Spelling.{IsNumber, IsOp, op_words}

-- these words begin with no number
abbrev pub NoNumber : List (List ℕ) → Type 0
NoNumber ws = (n : ℕ) (vs : List (List ℕ)) → IsNumber n → ws ≡ decimal n ∷ vs → ⊥

-- these words begin with no operation
abbrev pub NoOp : List (List ℕ) → Type 0
NoOp ws = (op : Op) (vs : List (List ℕ)) → IsOp op → ws ≡ op_words op ++ vs → ⊥

-- each operation but the release of all has a number
pub no_target : (w : List ℕ) (ws : List (List ℕ)) → (w ≡ codes "release" → ⊥) → NoNumber ws → NoOp (w ∷ ws)
no_target w ws release none h vs is e = search rules

-- a new base has two, and so has a new ceiling
pub no_level :
    (w first : List ℕ) (ws tail : List (List ℕ))
    → (w ≡ codes "base") ⊎ (w ≡ codes "ceil")
    → ws ≡ first ∷ tail
    → NoNumber tail
    → NoOp (w ∷ ws)
no_level w first ws tail two cut none h vs is e = grind (arith, common_steps)
