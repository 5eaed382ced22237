-- A word, compared with another.
use Rattle.std.proofs.Common.{◌≡◌, ℕ, List, Bool, true, false, eqb, length, []}
use Rattle.std.proofs.Common.{arith, sym, ap, ◌∙◌, refl, ◌++◌}
use Rattle.std.specs.List.{starts_with}
use Rattle.std.specs.Str.{bytes_eq}
use Rattle.std.proofs.lemmas.Bool.Decides.{Decides-eqb}
use Rattle.std.proofs.lemmas.Slice.Eq.{starts_is, bytes_eq-Decides}
use Rattle.std.proofs.lemmas.List.{append-nil, drop_all}

pub eq_same : (v w : List ℕ) → v ≡ w → bytes_eq v w ≡ true
eq_same v w e = grind (arith, bytes_eq-Decides)

pub same_eq : (v w : List ℕ) → bytes_eq v w ≡ true → v ≡ w
same_eq v w e = grind (arith, bytes_eq-Decides)

eq_other : (v w : List ℕ) → (v ≡ w → ⊥) → bytes_eq v w ≡ false
eq_other v w ne = grind (arith, bytes_eq-Decides)

pub other_ne : (v w : List ℕ) → bytes_eq v w ≡ false → v ≡ w → ⊥
other_ne v w ne e = grind (arith, bytes_eq-Decides)

-- a word that begins with one as long is that one
pub same_word :
    (word name : List ℕ) (r : Bool)
    → length word ≡ length name
    → r ≡ starts_with eqb word name
    → r ≡ bytes_eq word name
same_word word name true long e =
    sym (eq_same word name
    ((starts_is Decides-eqb word name true e).0 refl
    ∙ ap (λ t. name ++ t) (drop_all (length name) word (omega arith))
    ∙ append-nil name))
same_word word name false long e = sym (eq_other word name (λ same.
    let bad : false ≡ true =
    (starts_is Decides-eqb word name false e).1 [] (same ∙ sym (append-nil name)) in cc))

-- words of other lengths are others
pub longer_other :
    (word name : List ℕ)
    → (length word ≡ length name → ⊥)
    → bytes_eq word name ≡ false
longer_other word name ne = eq_other word name (λ e. ne (ap length e))
