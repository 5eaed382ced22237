use Rattle.std.proofs.Common.{◌≡◌, ◌++◌, ◌∷◌, [], ℕ, map, take}
use Rattle.pim_rows.specs.Rows.{text_of, row}
use Rattle.pim_world.specs.Standing.{Key}
use Rattle.pim_rows.proofs.wait_rows.put_pairs.Given as goal

-- the rows so far
abbrev pub invariant-loop-key : goal.invariant-loop-key
invariant-loop-key l =
    l.out.items
    ≡ l.fn.out.items
    ++ text_of (map (λ (x : Key × ℕ). row l.fn.word (l.fn.line ∷ x.0.0 ∷ x.0.1 ∷ x.1 ∷ []))
    (take l.key-index l.rows))
