-- Which lines affect whom.
use Rattle.std.specs.Prelude.{◌≡◌, Bool, true, false, length}
use Rattle.pim_fact_lines.specs.declared.line.Line.{Line}
use Rattle.pim_fact_lines.specs.declared.line.Line.TheVariants as lines
use Rattle.pim_fact_lines.specs.declared.line.What.{What}
use Rattle.pim_fact_lines.specs.declared.line.What.TheVariants as whats
use Rattle.pim_world.specs.Worlds.{World}

-- it is of mutexes or levels
abbrev pub is_of_state : What → Bool
is_of_state (whats.Granted m) = true
is_of_state (whats.Took m) = true
is_of_state (whats.Waits m) = true
is_of_state (whats.GaveUp m) = true
is_of_state (whats.Released m) = true
is_of_state (whats.Priority level) = true
is_of_state (whats.Ceiling m level) = true
is_of_state (whats.Blocks x) = false
is_of_state (whats.Resumes x ended) = false
is_of_state (whats.Runs level) = false
is_of_state (whats.On cpu) = false
is_of_state whats.OffReady = false
is_of_state whats.OffAsleep = false

-- the line is of mutexes or levels, or says nothing of any thread
abbrev pub keeps_rest : Line → Bool
keeps_rest (lines.Thread t level) = false
keeps_rest (lines.Mutex m is_recursive protocol) = false
keeps_rest (lines.Object x) = true
keeps_rest lines.Unseen = true
keeps_rest (lines.Fact time t what) = is_of_state what
keeps_rest (lines.Lost time) = false
keeps_rest (lines.End time) = true

-- it is of an object
abbrev pub is_of_object : What → Bool
is_of_object (whats.Granted m) = false
is_of_object (whats.Took m) = false
is_of_object (whats.Waits m) = false
is_of_object (whats.GaveUp m) = false
is_of_object (whats.Released m) = false
is_of_object (whats.Priority level) = false
is_of_object (whats.Ceiling m level) = false
is_of_object (whats.Blocks x) = true
is_of_object (whats.Resumes x ended) = true
is_of_object (whats.Runs level) = false
is_of_object (whats.On cpu) = false
is_of_object whats.OffReady = false
is_of_object whats.OffAsleep = false

-- the line declares a thread or a mutex, or a thread is blocked or isn't any more
abbrev pub affects_all : Line → Bool
affects_all (lines.Thread t level) = true
affects_all (lines.Mutex m is_recursive protocol) = true
affects_all (lines.Object x) = false
affects_all lines.Unseen = false
affects_all (lines.Fact time t what) = is_of_object what
affects_all (lines.Lost time) = false
affects_all (lines.End time) = false

-- each thread may wait, and no other one
abbrev pub AreWaits : World → Type 0
AreWaits w = length w.state.wait ≡ length w.state.base
