use Rattle.std.proofs.Common.{◌≡◌, ◌++◌, map, take}
use Rattle.pim_rows.specs.Rows.{inverted_row, text_of}
use Rattle.pim_rows.proofs.wait_rows.put_inverted.Given as goal

-- the rows so far
abbrev pub invariant-loop-key : goal.invariant-loop-key
invariant-loop-key l =
    l.out.items ≡ l.fn.out.items ++ text_of (map (inverted_row l.fn.line) (take l.key-index l.rows))
