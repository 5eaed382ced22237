-- Lists that begin with others.
use Rattle.std.proofs.Common.{◌≡◌, ◌≤◌, List, [], ◌∷◌, length, refl, ap, sym, ◌∙◌, arith, length-append}
use Rattle.std.proofs.lemmas.List.{append-nil}
use mathlib.Core.List.{IsPrefix}

-- of two lists with which a third begins, the longer begins with the other
pub prefix_shorter : {X : Type 0} (xs ys zs : List X) → IsPrefix xs zs → IsPrefix ys zs → length xs ≤ length ys → IsPrefix xs ys
prefix_shorter [] ys zs p q short = (ys, refl)
prefix_shorter (x ∷ xs) [] zs p q short = absurd (omega arith)
prefix_shorter (x ∷ xs) (y ∷ ys) [] p q short = absurd (cc (p.1))
prefix_shorter (x ∷ xs) (y ∷ ys) (z ∷ zs) p q short =
    let heads : x ≡ y = cc (p.1, q.1) in
    let tails = prefix_shorter xs ys zs (p.0, cc (p.1)) (q.0, cc (q.1)) (omega arith) in
    (tails.0, cc (heads, tails.1))

-- a list that begins with one as long as itself is that one
pub prefix_whole : {X : Type 0} (xs ys : List X) → IsPrefix xs ys → length ys ≤ length xs → xs ≡ ys
prefix_whole xs ys ([], is) long = sym (append-nil xs) ∙ is
prefix_whole xs ys (z ∷ zs, is) long = absurd (omega (arith, length-append xs (z ∷ zs), ap length is))
