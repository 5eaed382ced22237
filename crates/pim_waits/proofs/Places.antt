-- Lists whose places are numbered from 1.
use Rattle.std.proofs.Common.{◌≡◌, ℕ, zero, suc, List, map, refl}
use Rattle.std.proofs.lemmas.List.{map-set}
use Rattle.pim_base.specs.Lists.{put}

pub map_put :
    {X Y : Type 0} (f : X → Y) (xs : List X) (n : ℕ) (x : X)
    → map f (put xs n x) ≡ put (map f xs) n (f x)
map_put f xs zero x = refl
map_put f xs (suc i) x = map-set f xs i x
