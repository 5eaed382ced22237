-- Lists of numbers, by place.
use Rattle.std.specs.Prelude.{◌≡◌, ◌==◌, ℕ, true, List, [], slice_get, Vec, Option, Some}
use Rattle.std.specs.Prelude.{if◌then◌else◌}
use Rattle.std.specs.Global.{Global}
use Rattle.std.specs.Option.{option_map_or}
use Rattle.pim_base.specs.Lists.{contains}
use Rattle.pim_waits.specs.declared.groups.Groups.{Groups}

-- the list for a place; none if there are too few
abbrev pub group_in : List (Vec ℕ Global) → ℕ → List ℕ
group_in lists place =
    option_map_or (λ (list : Vec ℕ Global). list.items) (slice_get lists place) []

-- the list for a place
abbrev pub group_of : Groups → ℕ → List ℕ
group_of groups place = group_in groups.lists.items place

-- each number is in the list for the place that f gives it
abbrev pub IsBy : Groups → (ℕ → Option ℕ) → Type 0
IsBy groups f =
    (number place : ℕ) → f number ≡ Some place → contains (group_of groups place) number ≡ true

-- the same places, but another one for this number
abbrev pub moved : (ℕ → Option ℕ) → ℕ → Option ℕ → ℕ → Option ℕ
moved f number to k = if k == number then to else f k
