-- Lists of one item many times, by number.
use Rattle.std.proofs.Common.{◌≡◌, ℕ, ◌-◌, ◌≤◌, ◌∙◌, ap, arith, Option, Some, None, replicate, unwrap_or}
use Rattle.std.proofs.lemmas.List.{get_or-replicate, length-replicate}
use Rattle.pim_base.specs.Lists.{nth}
use Rattle.pim_base.proofs.Places.{nth-get_or, nth_within}

pub nth-replicate_same : {X : Type 0} (n k : ℕ) (x : X) → 1 ≤ k → k ≤ n → nth (replicate n x) k ≡ Some x
nth-replicate_same n k x low high =
    nth-get_or (replicate n x) k (k - 1) x (omega arith) (omega (arith, length-replicate n x)) ∙ ap Some (get_or-replicate n (k - 1) x x (omega arith))

pub nth-replicate_none : {X : Type 0} (n k : ℕ) → unwrap_or {T = Option X} (nth (replicate n None) k) None ≡ None
nth-replicate_none {X} n k = grind (arith, nth_within {X = Option X} (replicate n None) k, nth-replicate_same {X = Option X} n k None, length-replicate {A = Option X} n None)
