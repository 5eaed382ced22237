use Rattle.std.proofs.Common.{◌≡◌, ◌++◌, map}
use Rattle.pim_rows.specs.Rows.{section_row, text_of}
use Rattle.pim_rows.proofs.section_table.put_sections.Given as goal

-- only the rows that are left are missing
abbrev pub invariant-loop-key : goal.invariant-loop-key
invariant-loop-key l =
    l.out.items ++ text_of (map section_row l.key-iterator)
    ≡ l.fn.out.items ++ text_of (map section_row l.fn.table)
