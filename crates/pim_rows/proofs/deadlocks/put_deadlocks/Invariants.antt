use Rattle.std.proofs.Common.{◌≡◌, ◌≤◌, ◌++◌, map, take, length}
use Rattle.std.specs.List.{filter}
use Rattle.pim_rows.specs.Rows.{text_of, cycle, is_first_of_cycle, row}
use Rattle.pim_rows.specs.declared.row.Word.TheVariants as words
use Rattle.pim_world.specs.Held.{world_of}
use Rattle.pim_rows.proofs.deadlocks.put_deadlocks.Given as goal

-- the deadlocks whose first threads are among the places so far
abbrev pub invariant-loop-place : goal.invariant-loop-place
invariant-loop-place l =
    let w = world_of l.world in
    let firsts = filter (is_first_of_cycle w) (take l.place-index l.place-items) in
    record {
      text : l.out.items
          ≡ l.fn.out.items ++ text_of (map (λ t. row words.Deadlock (cycle w t)) firsts);
      count : l.count ≡ length firsts;
      small : l.count ≤ l.place-index;
    }
