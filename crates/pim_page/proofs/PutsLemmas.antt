-- What a buffer holds after texts were written into it.
use Rattle.std.proofs.Common.{◌≡◌, ℕ, List, ◌++◌, append_assoc}

-- one text after another
pub put_twice :
    (front one two word both all number : List ℕ)
    → both ≡ front ++ one
    → all ≡ both ++ word
    → word ≡ two
    → number ≡ one ++ two
    → all ≡ front ++ number
put_twice front one two word both all number first second is e = let a = append_assoc front one two in cc

-- a line, by its parts
pub put_line : (front parts line all : List ℕ) → line ≡ parts → all ≡ front ++ parts → all ≡ front ++ line
put_line front parts line all spelled is = cc
