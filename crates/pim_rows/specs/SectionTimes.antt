-- For how long sections use a CPU: docs/ROWS.md, law 6.
use Rattle.std.specs.Prelude.{◌≡◌, ◌≤◌, Bool, true, false, List}
use Rattle.std.specs.List.{AllByRecursion}
use Rattle.pim_fact_lines.specs.declared.line.Line.{Line}
use Rattle.pim_fact_lines.specs.declared.line.Line.TheVariants as lines
use Rattle.pim_fact_lines.specs.declared.line.What.{What}
use Rattle.pim_fact_lines.specs.declared.line.What.TheVariants as whats
use Rattle.pim_rows.specs.Moments.{Moment}
use Rattle.pim_rows.specs.Found.{all_sections}
use Rattle.pim_rows.specs.Rows.{moments_of}

-- No section used more time than the longest one took.
abbrev pub UsedLaw : Type 0
UsedLaw = (ms : List Moment) → AllByRecursion (λ row. row.1.used ≤ row.1.longest) (all_sections ms)

-- a thread leaves its CPU
abbrev pub leaves_cpu : What → Bool
leaves_cpu (whats.Granted m) = false
leaves_cpu (whats.Took m) = false
leaves_cpu (whats.Waits m) = false
leaves_cpu (whats.GaveUp m) = false
leaves_cpu (whats.Released m) = false
leaves_cpu (whats.Priority level) = false
leaves_cpu (whats.Ceiling m level) = false
leaves_cpu (whats.Blocks x) = false
leaves_cpu (whats.Resumes x ended) = false
leaves_cpu (whats.Runs level) = false
leaves_cpu (whats.On cpu) = false
leaves_cpu whats.OffReady = true
leaves_cpu whats.OffAsleep = true

-- the line is an `off`
abbrev pub is_off_line : Line → Bool
is_off_line (lines.Thread t level) = false
is_off_line (lines.Mutex m is_recursive protocol) = false
is_off_line (lines.Object x) = false
is_off_line lines.Unseen = false
is_off_line (lines.Fact time t what) = leaves_cpu what
is_off_line (lines.Lost time) = false
is_off_line (lines.End time) = false

-- Without an `off` the longest section is the one that used the most time.
abbrev pub WithoutOffLaw : Type 0
WithoutOffLaw =
    (ls : List Line)
    → AllByRecursion (λ l. is_off_line l ≡ false) ls
    → AllByRecursion (λ row. row.1.used ≡ row.1.longest) (all_sections (moments_of ls))
