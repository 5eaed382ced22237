-- What `change` does to a table in ascending order is what an insert does to the entries of a map.
use Rattle.std.proofs.Common.{◌≡◌, Ordering, [], ◌∷◌, refl, ap, ◌∙◌, arith}
use Rattle.std.specs.Prelude.{true, false, Option, Some, None}
use Rattle.std.specs.declared.cmp.Ordering.TheVariants.{Less, Equal, Greater}
use Rattle.std.specs.BTreeMap.{insert_entry, is_at}
use Rattle.std.specs.List.Sorted.{IsStrictlySortedBy}
use Rattle.std.specs.Map.{keys_of, lookup}
use Rattle.std.proofs.lemmas.Bool.Decides.{nat_tests}
use Rattle.std.specs.Cmp.{IsTotalOrder}
use Rattle.std.proofs.lemmas.Cmp.{then_total, on_total, nat_cmp_total}
use Rattle.std.proofs.lemmas.Map.{lookup-none}
use Rattle.std.proofs.lemmas.Map.Entries.{none_below_head}
use Rattle.std.proofs.lemmas.Map.Keys.{sorted_tail}
use Rattle.pim_world.specs.Standing.{Key}
use Rattle.pim_rows.specs.Tables.{key_cmp, Table, same_key, precedes, change}

key_total : IsTotalOrder key_cmp
key_total =
    then_total (then_total (on_total (λ k. k.0) nat_cmp_total) (on_total (λ k. k.1) nat_cmp_total))
    (on_total (λ k. k.2) nat_cmp_total)

-- ---- keys

same_if_equal : (j k : Key) → key_cmp k j ≡ Equal → same_key j k ≡ true
same_if_equal (a, b, c) (d, e, f) h = grind (arith, nat_tests)

key_if_equal : (j k : Key) → key_cmp k j ≡ Equal → j ≡ k
key_if_equal (a, b, c) (d, e, f) h = grind (arith, nat_tests)

other_if_less : (j k : Key) → key_cmp k j ≡ Less → same_key j k ≡ false
other_if_less (a, b, c) (d, e, f) h = grind (arith, nat_tests)

precedes_if_less : (j k : Key) → key_cmp k j ≡ Less → precedes k j ≡ true
precedes_if_less (a, b, c) (d, e, f) h = grind (arith, nat_tests)

other_if_greater : (j k : Key) → key_cmp k j ≡ Greater → same_key j k ≡ false
other_if_greater (a, b, c) (d, e, f) h = grind (arith, nat_tests)

follows_if_greater : (j k : Key) → key_cmp k j ≡ Greater → precedes k j ≡ false
follows_if_greater (a, b, c) (d, e, f) h = grind (arith, nat_tests)

-- ---- tables

no_lookup : {V : Type 0} (k : Key) (row : Key × V) (rows : Table V)
    → IsStrictlySortedBy key_cmp (keys_of (row ∷ rows)) → key_cmp k row.0 ≡ Less
    → lookup (is_at (key_cmp k)) (row ∷ rows) ≡ None
no_lookup k row rows sorted below =
    lookup-none (is_at (key_cmp k)) (row ∷ rows) (none_below_head key_total k row rows sorted below)

changed_head : {V : Type 0} (k : Key) (by : Option V → V) (row : Key × V) (rows : Table V)
    → IsStrictlySortedBy key_cmp (keys_of (row ∷ rows))
    → insert_entry key_cmp rows k (by (lookup (is_at (key_cmp k)) rows)) ≡ change k by rows
    → (o : Ordering) → key_cmp k row.0 ≡ o
    → insert_entry key_cmp (row ∷ rows) k (by (lookup (is_at (key_cmp k)) (row ∷ rows)))
    ≡ change k by (row ∷ rows)
changed_head k by row rows sorted tail Less e =
    let none : lookup (is_at (key_cmp k)) rows ≡ None = simp e at (no_lookup k row rows sorted e) in
    simp (e, none, other_if_less row.0 k e, precedes_if_less row.0 k e)
changed_head k by row rows sorted tail Equal e =
    simp (e, same_if_equal row.0 k e)
    (ap (λ j. (j, by (Some row.1)) ∷ rows) (key_if_equal row.0 k e))
changed_head k by row rows sorted tail Greater e =
    simp (e, other_if_greater row.0 k e, follows_if_greater row.0 k e) (ap (λ t. row ∷ t) tail)

insert_entry-by : {V : Type 0} (k : Key) (by : Option V → V) (rows : Table V)
    → IsStrictlySortedBy key_cmp (keys_of rows)
    → insert_entry key_cmp rows k (by (lookup (is_at (key_cmp k)) rows)) ≡ change k by rows
insert_entry-by k by [] sorted = refl
insert_entry-by k by (row ∷ rows) sorted =
    changed_head k by row rows sorted
    (insert_entry-by k by rows (sorted_tail key_cmp row.0 (keys_of rows) sorted))
    (key_cmp k row.0) refl

-- what a key had was read, changed and put back
pub put_back : {V : Type 0}
    (k : Key) (by : Option V → V) (had : Option V) (v : V) (old new : Table V)
    → IsStrictlySortedBy key_cmp (keys_of old)
    → had ≡ lookup (is_at (key_cmp k)) old
    → v ≡ by had
    → new ≡ insert_entry key_cmp old k v
    → new ≡ change k by old
put_back k by had v old new sorted read changed put =
    put ∙ ap (insert_entry key_cmp old k) (changed ∙ ap by read) ∙ insert_entry-by k by old sorted
