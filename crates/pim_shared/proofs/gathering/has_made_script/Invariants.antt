use Rattle.std.proofs.Common.{◌≤◌, ◌↔◌}
use Rattle.pim_shared.proofs.Asked.{GoesOn}
use Rattle.pim_shared.proofs.gathering.has_made_script.Given as goal

-- the script was made exactly if the rest of the entries asks for the rest of it
abbrev pub invariant-loop-entry : goal.invariant-loop-entry
invariant-loop-entry l = record {
  few : l.done ≤ l.entry-index;
  rest : GoesOn l.task l.entries l.script 0 0 ↔ GoesOn l.task l.entries l.script l.entry-index l.done;
}
