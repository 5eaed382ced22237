-- Maps from numbers to places, after a number was added without an error.
use Rattle.std.proofs.Common.{◌≡◌, ◌≤◌, ℕ, Bool, true, false, cond, Option, Some, Result, Ok, Err}
use Rattle.std.proofs.Common.{OnOk, is_ok, arith}
use Rattle.std.proofs.lemmas.Option.{same_Some}

pub on_ok : {T E : Type 0} (r : Result T E) (P : Type 0) → is_ok r ≡ true → OnOk r P → P
on_ok (Ok x) P e h = h
on_ok (Err y) P e h = cc

-- the place that was added is the last one
pub known_more :
    (added : Bool) (place size m : ℕ) (was : Option ℕ)
    → place ≡ size
    → 1 ≤ size
    → (was ≡ Some m → (1 ≤ m) × (m ≤ size))
    → cond added (Some place) was ≡ Some m
    → (1 ≤ m) × (m ≤ size)
known_more true place size m was last some old e =
    let same : place ≡ m = same_Some place m e in (omega arith, omega arith)
known_more false place size m was last some old e = old e
