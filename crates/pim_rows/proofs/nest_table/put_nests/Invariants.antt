use Rattle.std.proofs.Common.{◌≡◌, ◌++◌, map}
use Rattle.pim_rows.specs.Rows.{nests_row, text_of}
use Rattle.pim_rows.proofs.nest_table.put_nests.Given as goal

-- only the rows that are left are missing
abbrev pub invariant-loop-key : goal.invariant-loop-key
invariant-loop-key l =
    l.out.items ++ text_of (map nests_row l.key-iterator)
    ≡ l.fn.out.items ++ text_of (map nests_row l.fn.table)
