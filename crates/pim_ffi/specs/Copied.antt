-- Lists that are copied to memory of the caller.
use Rattle.std.specs.Prelude.{List, [], ◌∷◌}

-- the second list, with its first items replaced by those of the first, as far as it has room
abbrev pub copied : {X : Type 0} → List X → List X → List X
copied [] ys = ys
copied (x ∷ xs) [] = []
copied (x ∷ xs) (y ∷ ys) = x ∷ copied xs ys
