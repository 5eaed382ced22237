-- Changes of a table.
use Rattle.std.proofs.Common.{◌≡◌, ◌∙◌, ℕ, zero, suc, ◌+◌, ◌<◌, ◌≤◌, ◌^◌, Bool, true, false, refl}
use Rattle.std.proofs.Common.{sym, ap, arith, Option, Some, None, Result, Ok, Err, IfOk, OnErr, []}
use Rattle.std.proofs.Common.{◌∷◌, length, set, insert, unwrap_or, map, is_some, if◌then◌else◌}
use Rattle.std.proofs.lemmas.Bool.{and_from, eq-eqb, ne_eqb, cond-false}
use Rattle.std.proofs.lemmas.List.Sums.{prefix_len-le-length, sum_by-cons}
use Rattle.std.specs.List.{position}
use Rattle.std.specs.Option.{option_map_or}
use Rattle.pim_world.specs.Standing.{Key}
use Rattle.pim_rows.specs.Tables.{Table, same_key, precedes, reaches, place, value_at, change, add}
use Rattle.pim_rows.specs.Tables.{total}

pub place-le-length : {V : Type 0} (k : Key) (rows : Table V) → place k rows ≤ length rows
place-le-length k rows = prefix_len-le-length _ rows

pub unwrap_or_position : {V : Type 0} (k : Key) (rows : Table V) →
    unwrap_or (position (reaches k) rows) (length rows) ≡ place k rows
unwrap_or_position k rows =
    let within : place k rows ≤ length rows = place-le-length k rows in grind arith

-- a row is changed, or put in its place
pub change-at : {V : Type 0} (k : Key) (by : Option V → V) (rows : Table V) →
    change k by rows
    ≡ option_map_or (λ x. set rows (place k rows) (k, by (Some x))) (value_at k rows (place k rows))
    (insert rows (place k rows) (k, by None))
change-at k by [] = refl
change-at {V = V} k by (row ∷ rest) =
    go (same_key row.0 k) (precedes k row.0) refl refl (change-at k by rest)
  where
    next : 1 + place k rest ≡ suc (place k rest)
    next = omega arith

    behind : (o : Option V) (n : ℕ) →
        change k by rest
        ≡ option_map_or (λ x. set rest n (k, by (Some x))) o (insert rest n (k, by None)) →
        row ∷ change k by rest
        ≡ option_map_or (λ x. set (row ∷ rest) (suc n) (k, by (Some x))) o
        (insert (row ∷ rest) (suc n) (k, by None))
    behind None n h = ap (λ (xs : Table V). row ∷ xs) h
    behind (Some x) n h = ap (λ (xs : Table V). row ∷ xs) h

    go : (s p : Bool) → same_key row.0 k ≡ s → precedes k row.0 ≡ p →
        change k by rest
        ≡ option_map_or
        (λ x. set rest (place k rest) (k, by (Some x))) (value_at k rest (place k rest))
        (insert rest (place k rest) (k, by None)) →
        change k by (row ∷ rest)
        ≡ option_map_or (λ x. set (row ∷ rest) (place k (row ∷ rest)) (k, by (Some x)))
        (value_at k (row ∷ rest) (place k (row ∷ rest)))
        (insert (row ∷ rest) (place k (row ∷ rest)) (k, by None))
    go true p hs hp h = rw hs (rw hs)
    go false true hs hp h = rw (hs, hp) (rw hs)
    go false false hs hp h =
        rw (hs, hp, next) (behind (value_at k rest (place k rest)) (place k rest) h)

pub total-cons : (row : Key × ℕ) (rest : Table ℕ) → total (row ∷ rest) ≡ row.1 + total rest
total-cons row rest = sum_by-cons (λ x. x) row.1 (map (λ r. r.1) rest)

pub value_at-le-total : (k : Key) (rows : Table ℕ) (i x : ℕ) →
    value_at k rows i ≡ Some x → (x ≤ total rows) × (i < length rows)
value_at-le-total k [] i x h = cc
value_at-le-total k (row ∷ rest) zero x h = go (same_key row.0 k) refl
  where
    go : (s : Bool) → same_key row.0 k ≡ s → (x ≤ total (row ∷ rest)) × (0 < length (row ∷ rest))
    go true hs =
        let is : Some row.1 ≡ Some x = rw hs at h in
        let same : row.1 ≡ x = cc in
        let all = total-cons row rest in (omega arith, omega arith)
    go false hs = let is : None ≡ Some x = rw hs at h in cc
value_at-le-total k (row ∷ rest) (suc i) x h =
    let less = value_at-le-total k rest i x h in
    let all = total-cons row rest in (omega arith, omega arith)

pub total-change : (k : Key) (time : ℕ) (rows : Table ℕ) →
    total (change k (λ sum. unwrap_or sum 0 + time) rows) ≡ total rows + time
total-change k time [] = omega arith
total-change k time (row ∷ rest) =
    go (same_key row.0 k) (precedes k row.0) refl refl (total-change k time rest)
  where
    go : (s p : Bool) → same_key row.0 k ≡ s → precedes k row.0 ≡ p →
        total (change k (λ sum. unwrap_or sum 0 + time) rest) ≡ total rest + time →
        total (change k (λ sum. unwrap_or sum 0 + time) (row ∷ rest)) ≡ total (row ∷ rest) + time
    go true p hs hp h = rw hs (omega (arith, total-cons))
    go false true hs hp h = rw (hs, hp) (omega (arith, total-cons))
    go false false hs hp h =
        rw (hs, hp) (omega (arith, total-cons))

-- the sum fits as well if there was no memory
pub total-added : {A E : Type 0} (k : Key) (time : ℕ) (old new : Table ℕ) (result : Result A E) →
    IfOk result (λ _. new ≡ change k (λ sum. unwrap_or sum 0 + time) old)
    → OnErr result (new ≡ old) →
    total old + time < 2 ^ 64 → total new < 2 ^ 64
total-added k time old new (Ok _) ok err fits = rw ok (omega (arith, total-change k time old))
total-added k time old new (Err _) ok err fits = rw err (omega arith)

same_key-self : (k : Key) → same_key k k ≡ true
same_key-self k =
    and_from _ _ (and_from _ _ (eq-eqb k.0 k.0 refl) (eq-eqb k.1 k.1 refl)) (eq-eqb k.2 k.2 refl)

-- two changes of one row are one
change-change : {V : Type 0} (k : Key) (f g both : Option V → V) (rows : Table V) →
    ((o : Option V) → f (Some (g o)) ≡ both o) → change k f (change k g rows) ≡ change k both rows
change-change k f g both [] h = rw (same_key-self k) (ap (λ x. (k, x) ∷ []) (h None))
change-change {V = V} k f g both (row ∷ rest) h =
    go (same_key row.0 k) (precedes k row.0) refl refl (change-change k f g both rest h)
  where
    go : (s p : Bool) → same_key row.0 k ≡ s → precedes k row.0 ≡ p →
        change k f (change k g rest) ≡ change k both rest →
        change k f (change k g (row ∷ rest)) ≡ change k both (row ∷ rest)
    go true p hs hp later = rw hs (rw (same_key-self k) (ap (λ x. (k, x) ∷ rest) (h (Some row.1))))
    go false true hs hp later =
        rw (hs, hp) (rw (same_key-self k) (ap (λ x. (k, x) ∷ row ∷ rest) (h None)))
    go false false hs hp later =
        rw (hs, hp) (rw (hs, hp) (ap (λ (rows : Table V). row ∷ rows) later))

add-positive : (k : Key) (time : ℕ) (rows : Table ℕ) → 0 < time →
    add (Some k) time rows ≡ change k (λ sum. unwrap_or sum 0 + time) rows
add-positive k time rows h = cond-false _ _ _ (ne_eqb time 0 (λ e. omega arith))

pub add-add :
    (k : Option Key) (a b : ℕ) (rows : Table ℕ)
    → add k a (add k b rows) ≡ add k (b + a) rows
add-add None a b rows = refl
add-add (Some k) zero b rows = ap (λ n. add (Some k) n rows) (omega arith)
add-add (Some k) (suc a) zero rows = ap (λ n. add (Some k) n rows) (omega arith)
add-add (Some k) (suc a) (suc b) rows =
    ap (λ rows. add (Some k) (suc a) rows) (add-positive k (suc b) rows (omega arith))
    ∙ add-positive k (suc a) _ (omega arith)
    ∙ change-change k (λ sum. unwrap_or sum 0 + suc a) (λ sum. unwrap_or sum 0 + suc b)
    (λ sum. unwrap_or sum 0 + (suc b + suc a)) rows (λ o. omega arith)
    ∙ sym (add-positive k (suc b + suc a) rows (omega arith))

pub add-zero_time : (k : Option Key) (rows : Table ℕ) → add k 0 rows ≡ rows
add-zero_time None rows = refl
add-zero_time (Some k) rows = refl

pub total-add_if : (k : Option Key) (time : ℕ) (rows : Table ℕ) →
    total (add k time rows) ≡ total rows + (if is_some k then time else 0)
total-add_if None time rows = omega arith
total-add_if (Some k) zero rows = omega arith
total-add_if (Some k) (suc time) rows =
    rw (add-positive k (suc time) rows (omega arith)) (total-change k (suc time) rows)

pub total-add :
    (k : Option Key) (time : ℕ) (rows : Table ℕ)
    → total (add k time rows) ≤ total rows + time
total-add None time rows = omega arith
total-add (Some k) zero rows = omega arith
total-add (Some k) (suc time) rows =
    rw (add-positive k (suc time) rows (omega arith))
    (omega (arith, total-change k (suc time) rows))

pub ruleset changes =
    (unwrap_or_position, place-le-length, change-at, value_at-le-total, total-change)
