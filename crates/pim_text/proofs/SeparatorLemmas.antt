-- The first separator, by marks of sixteen bytes at a time.
use Rattle.std.proofs.Common.{◌≡◌, ◌≢◌, ℕ, ◌+◌, ◌<◌, ◌≤◌, ◌^◌, Bool, true, false, not, cond, List, length}
use Rattle.std.proofs.Common.{map, get_or, refl, sym, ◌∙◌, ap, ltb, Some, None, subst, arith, leb, w64}
use Rattle.std.specs.Int.{bit_at}
use Rattle.std.specs.Int.Count.{count_trailing_zeros}
use Rattle.std.specs.List.{position, position_or_len, prefix_len}
use Rattle.std.specs.Simd.Lanes.{mask_l, chunk}
use Rattle.std.proofs.lemmas.Bool.{leb-true, leb-false, lt-ltb, le-ltb}
use Rattle.std.proofs.lemmas.List.{length-map, get_or_past}
use Rattle.std.proofs.lemmas.List.Sums.{position_or_len_is}
use Rattle.std.proofs.lemmas.Nat.Bits.{bit_at-trailing_zeros}
use Rattle.std.proofs.lemmas.Simd.{length-chunk, mask_l-lt, bit_mask_l, trailing_mask_l}
use Rattle.std.proofs.lemmas.Simd.{run_in_chunk_fails, run_in_chunk_stops}

-- none of the first i passes
abbrev pub NoneBelow : (ℕ → Bool) → List ℕ → ℕ → Type 0
NoneBelow p xs i = (k : ℕ) → k < i → p (get_or xs k 0) ≡ false

-- nor do those from i up to j
pub none_further :
    (p : ℕ → Bool) (xs : List ℕ) (i j : ℕ)
    → NoneBelow p xs i
    → ((k : ℕ) → i ≤ k → k < j → p (get_or xs k 0) ≡ false)
    → NoneBelow p xs j
none_further p xs i j below above k h = split (leb i k) refl
  where
    split : (b : Bool) → leb i k ≡ b → p (get_or xs k 0) ≡ false
    split true e = above k (leb-true i k e) h
    split false e = below k (leb-false i k e)

-- a set bit is that of a lane
lane_of_bit : (ms : List Bool) (i : ℕ) → bit_at (mask_l ms) i ≡ 1 → i < length ms
lane_of_bit ms i set = split (leb (length ms) i) refl
  where
    split : (b : Bool) → leb (length ms) i ≡ b → i < length ms
    split true e =
        let none : get_or ms i false ≡ false = get_or_past ms i false (leb-true (length ms) i e) in
        let clear : bit_at (mask_l ms) i ≡ 0 = bit_mask_l ms i ∙ ap (λ b. cond b 1 0) none in
        absurd (omega arith)
    split false e = leb-false (length ms) i e

-- the first that passes, and none
pub found_at :
    (p : ℕ → Bool) (xs : List ℕ) (i : ℕ)
    → i < length xs
    → NoneBelow p xs i
    → p (get_or xs i 0) ≡ true
    → Some i ≡ position p xs
found_at p xs i inside below here =
    let place : position_or_len p xs ≡ i = position_or_len_is p xs i 0 (omega arith) below (λ _. here) in
    let test : ltb (position_or_len p xs) (length xs) ≡ true = lt-ltb _ _ (omega arith) in
    rw test (ap (λ k. Some k) (sym place))

pub found_nowhere : (p : ℕ → Bool) (xs : List ℕ) (i : ℕ) → i ≡ length xs → NoneBelow p xs i → None ≡ position p xs
found_nowhere p xs i all below =
    let place : position_or_len p xs ≡ i =
    position_or_len_is p xs i 0 (omega arith) below (λ inside. absurd (omega arith)) in
    let test : ltb (position_or_len p xs) (length xs) ≡ false = le-ltb _ _ (omega arith) in
    rw test refl

-- the lowest mark is the first that passes
pub first_marked :
    (p : ℕ → Bool) (xs : List ℕ) (i marks : ℕ)
    → i + 16 ≤ length xs
    → NoneBelow p xs i
    → marks ≡ mask_l (map p (chunk i 16 xs))
    → marks ≢ 0
    → Some (i + count_trailing_zeros 64 marks) ≡ position p xs
first_marked p xs i marks room below e some =
    let lanes = map p (chunk i 16 xs) in
    let loaded : length (chunk i 16 xs) ≡ 16 = length-chunk i 16 xs room in
    let long : length lanes ≡ 16 = length-map (chunk i 16 xs) p ∙ loaded in
    let bound : mask_l lanes < 2 ^ 16 = subst (λ n. mask_l lanes < 2 ^ n) long (mask_l-lt lanes) in
    let small : marks < 2 ^ 64 = omega (arith, e) in
    let positive : 0 < marks = omega arith in
    let lowest = bit_at-trailing_zeros w64 marks positive small in
    let zeros : ℕ = count_trailing_zeros 64 marks in
    let inside : zeros < 16 =
    omega (arith, lane_of_bit lanes zeros (subst (λ m. bit_at m zeros ≡ 1) e lowest.1), long) in
    let counted : zeros ≡ prefix_len (λ x. not (p x)) (chunk i 16 xs) =
    ap (count_trailing_zeros 64) e
    ∙ trailing_mask_l p 64 (chunk i 16 xs) (omega arith) (subst (λ m. 0 < m) e positive) in
    found_at p xs (i + zeros) (omega arith)
    (none_further p xs i _ below (run_in_chunk_fails p xs i 16 zeros 0 room counted))
    (run_in_chunk_stops p xs i 16 zeros 0 room counted inside)
