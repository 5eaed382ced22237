-- What the words of a line say: the table of lines of docs/FACTS.md.
use Rattle.std.specs.Prelude.{ℕ, List, [], ◌∷◌, length, codes, Bool, true, false, not, ◌&&◌, nat_le}
use Rattle.std.specs.Prelude.{Option, Some, None, if◌then◌else◌}
use Rattle.std.specs.Option.{option_map, option_map_or, option_and_then}
use Rattle.std.specs.List.{list_all}
use Rattle.pim_fact_lines.specs.declared.line.TheConstants.{MAX_THREAD, MAX_NUMBER, MAX_LEVEL}
use Rattle.pim_fact_lines.specs.declared.line.TheConstants.{MAX_CPU}
use Rattle.pim_fact_lines.specs.declared.line.Protocol.{Protocol}
use Rattle.pim_fact_lines.specs.declared.line.Protocol.TheVariants as protocols
use Rattle.pim_fact_lines.specs.declared.line.Ended.{Ended}
use Rattle.pim_fact_lines.specs.declared.line.Ended.TheVariants as ends
use Rattle.pim_fact_lines.specs.declared.line.What.{What}
use Rattle.pim_fact_lines.specs.declared.line.What.TheVariants as whats
use Rattle.pim_fact_lines.specs.declared.line.Line.{Line}
use Rattle.pim_fact_lines.specs.declared.line.Line.TheVariants as lines
use Rattle.pim_fact_lines.specs.Words.{words, is_word, number_in, is_name, is_place, is_kind}

-- what the first words say, and the words after them
abbrev pub First : Type 0 → Type 0
First A = Option (A × List (List ℕ))

-- what they say, and what the words after them say then
abbrev pub given : {A B : Type 0} → Option A → (A → Option B) → Option B
given said go = option_and_then go said

-- the line, if the rest of it is as it should be
abbrev pub line_if : Bool → Line → Option Line
line_if ends line = if ends then Some line else None

-- ---- words that several lines have

-- a number
abbrev pub number_first : List (List ℕ) → First ℕ
number_first [] = None
number_first (w ∷ ws) = option_map (λ n. (n, ws)) (number_in w)

-- a number within a range
abbrev pub number_within : ℕ → ℕ → List (List ℕ) → First ℕ
number_within least most ws =
    given (number_first ws) (λ n. if nat_le least n.0 && nat_le n.0 most then Some n else None)

-- the number of a thread
abbrev pub thread_first : List (List ℕ) → First ℕ
thread_first ws = number_within 1 MAX_THREAD ws

-- the number of a mutex or of an object, or a number of events
abbrev pub positive_first : List (List ℕ) → First ℕ
positive_first ws = number_within 1 MAX_NUMBER ws

-- a level
abbrev pub level_first : List (List ℕ) → First ℕ
level_first ws = number_within 0 MAX_LEVEL ws

-- no word
abbrev pub is_nothing : List (List ℕ) → Bool
is_nothing [] = true
is_nothing (w ∷ ws) = false

-- one word, which is a name
abbrev pub is_one_name : List (List ℕ) → Bool
is_one_name [] = false
is_one_name (w ∷ []) = is_name w
is_one_name (w ∷ v ∷ ws) = false

-- at most 16 words, each of which passes
abbrev pub are_few : (List ℕ → Bool) → List (List ℕ) → Bool
are_few passes ws = nat_le (length ws) 16 && list_all passes ws

-- ---- declarations

-- after `thread`: NUMBER LEVEL NAME
abbrev pub thread_in : List (List ℕ) → Option Line
thread_in ws =
    given (thread_first ws) (λ t.
    given (level_first t.1) (λ level. line_if (is_one_name level.1) (lines.Thread t.0 level.0)))

-- `none`, `inherit` or `protect CEILING`
abbrev pub protocol_first : List (List ℕ) → First Protocol
protocol_first [] = None
protocol_first (w ∷ ws) =
    if is_word w (codes "none") then Some (protocols.None, ws)
    else if is_word w (codes "inherit") then Some (protocols.Inherit, ws)
    else if is_word w (codes "protect")
    then option_map (λ level. (protocols.Protect level.0, level.1)) (level_first ws)
    else None

-- PROTOCOL NAME
abbrev pub protocol_in : ℕ → Bool → List (List ℕ) → Option Line
protocol_in m is_recursive ws =
    given (protocol_first ws)
    (λ protocol. line_if (is_one_name protocol.1) (lines.Mutex m is_recursive protocol.0))

-- `recursive` PROTOCOL NAME, or PROTOCOL NAME
abbrev pub recursion_in : ℕ → List (List ℕ) → Option Line
recursion_in m [] = None
recursion_in m (w ∷ ws) =
    if is_word w (codes "recursive") then protocol_in m true ws else protocol_in m false (w ∷ ws)

-- after `mutex`: NUMBER [`recursive`] PROTOCOL NAME
abbrev pub mutex_in : List (List ℕ) → Option Line
mutex_in ws = given (positive_first ws) (λ m. recursion_in m.0 m.1)

-- KIND NAME
abbrev pub kind_in : ℕ → List (List ℕ) → Option Line
kind_in x [] = None
kind_in x (w ∷ ws) = line_if (is_kind w && is_one_name ws) (lines.Object x)

-- after `object`: NUMBER KIND NAME
abbrev pub object_in : List (List ℕ) → Option Line
object_in ws = given (positive_first ws) (λ x. kind_in x.0 x.1)

-- after `unseen`: WORD ..
abbrev pub unseen_in : List (List ℕ) → Option Line
unseen_in ws = line_if (not (is_nothing ws) && are_few is_name ws) lines.Unseen

-- a line that begins with one of these words
abbrev pub declaration_in : List (List ℕ) → Option Line
declaration_in [] = None
declaration_in (w ∷ ws) =
    if is_word w (codes "thread") then thread_in ws
    else if is_word w (codes "mutex") then mutex_in ws
    else if is_word w (codes "object") then object_in ws
    else if is_word w (codes "unseen") then unseen_in ws
    else None

-- ---- facts

-- MUTEX or OBJECT
abbrev pub what_of_number : (ℕ → What) → List (List ℕ) → First What
what_of_number what ws = option_map (λ m. (what m.0, m.1)) (positive_first ws)

-- LEVEL
abbrev pub what_of_level : (ℕ → What) → List (List ℕ) → First What
what_of_level what ws = option_map (λ level. (what level.0, level.1)) (level_first ws)

-- after `ceiling`: MUTEX LEVEL
abbrev pub ceiling_first : List (List ℕ) → First What
ceiling_first ws =
    given (positive_first ws)
    (λ m. option_map (λ level. (whats.Ceiling m.0 level.0, level.1)) (level_first m.1))

-- `by` THREAD, `timed-out`, `failed`, or nothing of this kind
abbrev pub ended_first : List (List ℕ) → First Ended
ended_first [] = Some (ends.Unknown, [])
ended_first (w ∷ ws) =
    if is_word w (codes "by") then option_map (λ t. (ends.By t.0, t.1)) (thread_first ws)
    else if is_word w (codes "timed-out") then Some (ends.TimedOut, ws)
    else if is_word w (codes "failed") then Some (ends.Failed, ws)
    else Some (ends.Unknown, w ∷ ws)

-- after `resumes`: OBJECT and how the wait ended
abbrev pub resumes_first : List (List ℕ) → First What
resumes_first ws =
    given (positive_first ws)
    (λ x. option_map (λ ended. (whats.Resumes x.0 ended.0, ended.1)) (ended_first x.1))

-- after `on`: CPU
abbrev pub on_first : List (List ℕ) → First What
on_first ws = option_map (λ cpu. (whats.On cpu.0, cpu.1)) (number_within 0 MAX_CPU ws)

-- after `off`: `ready` or `asleep`
abbrev pub off_first : List (List ℕ) → First What
off_first [] = None
off_first (w ∷ ws) =
    if is_word w (codes "ready") then Some (whats.OffReady, ws)
    else if is_word w (codes "asleep") then Some (whats.OffAsleep, ws)
    else None

-- what else happened to a thread, by this word
abbrev pub other_first : List ℕ → List (List ℕ) → First What
other_first w ws =
    if is_word w (codes "priority") then what_of_level whats.Priority ws
    else if is_word w (codes "blocks") then what_of_number whats.Blocks ws
    else if is_word w (codes "resumes") then resumes_first ws
    else if is_word w (codes "runs") then what_of_level whats.Runs ws
    else if is_word w (codes "on") then on_first ws
    else if is_word w (codes "off") then off_first ws
    else None

-- what happened to a thread: with a mutex, or else
abbrev pub what_first : List (List ℕ) → First What
what_first [] = None
what_first (w ∷ ws) =
    if is_word w (codes "granted") then what_of_number whats.Granted ws
    else if is_word w (codes "took") then what_of_number whats.Took ws
    else if is_word w (codes "waits") then what_of_number whats.Waits ws
    else if is_word w (codes "gave-up") then what_of_number whats.GaveUp ws
    else if is_word w (codes "released") then what_of_number whats.Released ws
    else if is_word w (codes "ceiling") then ceiling_first ws
    else other_first w ws

-- after TIME: THREAD, what happened to it, and places
abbrev pub fact_in : ℕ → List (List ℕ) → Option Line
fact_in time ws =
    given (thread_first ws) (λ t.
    given (what_first t.1) (λ what. line_if (are_few is_place what.1) (lines.Fact time t.0 what.0)))

-- after TIME `lost`: NUMBER
abbrev pub lost_in : ℕ → List (List ℕ) → Option Line
lost_in time ws = given (positive_first ws) (λ n. line_if (is_nothing n.1) (lines.Lost time))

-- after TIME: a remark or a fact
abbrev pub timed_in : ℕ → List (List ℕ) → Option Line
timed_in time [] = None
timed_in time (w ∷ ws) =
    if is_word w (codes "lost") then lost_in time ws
    else if is_word w (codes "end") then line_if (is_nothing ws) (lines.End time)
    else fact_in time (w ∷ ws)

-- ---- a line

-- the line of these words: a remark or a fact if they begin with a number, and else a declaration
abbrev pub line_in : List (List ℕ) → Option Line
line_in ws = option_map_or (λ time. timed_in time.0 time.1) (number_first ws) (declaration_in ws)

-- the line after the first that the bytes spell
abbrev pub line_of : List ℕ → Option Line
line_of bytes = line_in (words bytes)
