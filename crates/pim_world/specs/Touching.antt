-- Which lines leave the threads that they don't touch as they are.
use Rattle.std.specs.Prelude.{Bool, true, false}
use Rattle.pim_fact_lines.specs.declared.line.Line.{Line}
use Rattle.pim_fact_lines.specs.declared.line.Line.TheVariants as lines

-- the line declares a thread or a mutex
abbrev pub declares : Line → Bool
declares (lines.Thread t level) = true
declares (lines.Mutex m is_recursive protocol) = true
declares (lines.Object x) = false
declares lines.Unseen = false
declares (lines.Fact time t what) = false
declares (lines.Lost time) = false
declares (lines.End time) = false
