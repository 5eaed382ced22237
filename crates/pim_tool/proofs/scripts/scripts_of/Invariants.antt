use Rattle.std.proofs.Common.{◌≡◌, map, length}
use Rattle.pim_base.specs.Lists.{numbers}
use Rattle.pim_base.specs.Scripts.{script_of}
use Rattle.pim_shared.specs.Gathered.{lines}
use Rattle.pim_tool.proofs.scripts.scripts_of.Given as goal

-- the scripts of the first tasks
abbrev pub invariant-loop-index : goal.invariant-loop-index
invariant-loop-index l = record {
  scripts : lines l.scripts.items ≡ map (script_of l.text.lines.items) (numbers l.index);
  count : length l.scripts.items ≡ l.index;
}
