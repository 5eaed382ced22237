-- The rows of a text: docs/ROWS.md, 'Rows' and 'Order'.
use Rattle.std.specs.Prelude.{ℕ, ◌-◌, ◌==◌, Bool, true, false, not, ◌&&◌, ◌||◌, List, [], ◌∷◌, ◌++◌}
use Rattle.std.specs.Prelude.{length, map, nat_lt, if◌then◌else◌, drop, flat_map, count_by}
use Rattle.std.specs.Prelude.{slice_get, codes, decimal}
use Rattle.std.specs.List.{fold, filter, list_any}
use Rattle.std.specs.Option.{option_map_or}
use Rattle.pim_base.specs.Lists.{contains, sort_by}
use Rattle.pim_base.specs.State.{task_numbers, base_of}
use Rattle.pim_fact_lines.specs.declared.line.Ended.{Ended}
use Rattle.pim_fact_lines.specs.declared.line.Ended.TheVariants as ends
use Rattle.pim_fact_lines.specs.declared.line.Line.{Line}
use Rattle.pim_fact_lines.specs.declared.line.What.{What}
use Rattle.pim_fact_lines.specs.declared.line.What.TheVariants as whats
use Rattle.pim_waits.specs.Waiting.{way}
use Rattle.pim_world.specs.Worlds.{World}
use Rattle.pim_rows.specs.Moments.{Moment, first_moments, followed_by, now, number, clock, began}
use Rattle.pim_world.specs.Standing.{Key, thread_number, waits}
use Rattle.pim_rows.specs.Tallies.{Tally, tally, total}
use Rattle.pim_rows.specs.Begun.{is_blocked, run_apart, is_run_apart, WaitStart, wait_start, Block}
use Rattle.pim_rows.specs.Begun.{block, RunStart, run_start}
use Rattle.pim_rows.specs.declared.row.Word.{Word}
use Rattle.pim_rows.specs.declared.row.Word.TheVariants as words
use Rattle.pim_rows.specs.Found.{of_fact, Sections, all_sections, Nests, nests}

abbrev pub word_text : Word → List ℕ
word_text words.Wait = codes "wait"
word_text words.Inverted = codes "inverted"
word_text words.Stalled = codes "stalled"
word_text words.Meanwhile = codes "meanwhile"
word_text words.Blocked = codes "blocked"
word_text words.Ran = codes "ran"
word_text words.Section = codes "section"
word_text words.Nests = codes "nests"
word_text words.Deadlock = codes "deadlock"
word_text words.End = codes "end"

-- a word, and numbers
pub record Row : Type 0 where
  pub word : Word
  pub numbers : List ℕ

abbrev pub row : Word → List ℕ → Row
row word numbers = record { word = word; numbers = numbers }

-- a space before each number, in decimal, and a newline at the end
abbrev pub row_text : Row → List ℕ
row_text r = word_text r.word ++ (flat_map (λ n. 32 ∷ decimal n) r.numbers ++ 10 ∷ [])

-- ---- waits

abbrev pub wait_row : WaitStart → List Moment → ℕ → Tally → Row
wait_row s ms until times =
    row words.Wait
    (s.line ∷ until ∷ s.thread ∷ s.mutex ∷ s.from ∷ (clock ms - s.from) ∷ s.level ∷ s.gets
    ∷ s.owner ∷ s.owner_level ∷ s.grant
    ∷ total times.inverted ∷ times.lower ∷ total times.stalled ∷ [])

abbrev pub inverted_row : ℕ → Key × ℕ → Row
inverted_row line x = row words.Inverted (line ∷ x.0.0 ∷ x.0.1 ∷ x.0.2 ∷ x.1 ∷ [])

abbrev pub stalled_row : ℕ → Key × ℕ → Row
stalled_row line x = row words.Stalled (line ∷ x.0.0 ∷ x.0.1 ∷ x.1 ∷ [])

abbrev pub meanwhile_row : ℕ → Key × ℕ → Row
meanwhile_row line x = row words.Meanwhile (line ∷ x.0.0 ∷ x.0.1 ∷ x.1 ∷ [])

-- the rows of a wait that began so, lasts or ended with the newest line, and has these times
abbrev pub wait_rows : WaitStart → List Moment → ℕ → Tally → List Row
wait_rows s ms until times =
    wait_row s ms until times
    ∷ (map (inverted_row s.line) times.inverted ++ map (stalled_row s.line) times.stalled
    ++ map (meanwhile_row s.line) times.meanwhile)

-- ---- waits at objects

-- how a wait ended, which thread ended it, and the level of that
abbrev pub ended_numbers : World → Ended → List ℕ
ended_numbers w ends.Unknown = 0 ∷ 0 ∷ 0 ∷ []
ended_numbers w (ends.By u) = 1 ∷ u ∷ option_map_or (λ p. base_of w.state p) (w.thread u) 0 ∷ []
ended_numbers w ends.TimedOut = 2 ∷ 0 ∷ 0 ∷ []
ended_numbers w ends.Failed = 3 ∷ 0 ∷ 0 ∷ []

abbrev pub blocked_row : Block → List Moment → ℕ → Ended → Row
blocked_row b ms until ended =
    row words.Blocked
    ((b.line ∷ until ∷ b.thread ∷ b.object ∷ b.from ∷ (clock ms - b.from) ∷ b.level ∷ [])
    ++ ended_numbers (now ms) ended)

-- ---- threads that the kernel runs at another level than they get

-- it began so, and lasted until a line at this time
abbrev pub ran_row : RunStart → ℕ → ℕ → Row
ran_row s time until =
    row words.Ran (s.line ∷ until ∷ s.thread ∷ s.from ∷ (time - s.from) ∷ s.level ∷ s.gets ∷ [])

-- the row, if it is of more than no time
abbrev pub ran_rows : RunStart → ℕ → ℕ → List Row
ran_rows s time until = if nat_lt s.from time then ran_row s time until ∷ [] else []

-- the row of t if the newest line, after the moments before, ended that the kernel ran it so
abbrev pub ended_run : List Moment → List Moment → ℕ → List Row
ended_run ms before t =
    option_map_or
    (λ both. if is_run_apart t both (now ms) then []
    else ran_rows (run_start t both (began (is_run_apart t both) before)) (clock ms) (number ms))
    (run_apart (now before) t)
    []

-- ---- what ended with a line

-- the places of the threads, in ascending order of their numbers
abbrev pub by_number : World → List ℕ
by_number w = sort_by (λ t u. nat_lt (thread_number w t) (thread_number w u)) (task_numbers w.state)

-- the row of t if this ended its wait at an object
abbrev pub resumed : List Moment → List Moment → ℕ → What → List Row
resumed ms before t (whats.Granted m) = []
resumed ms before t (whats.Took m) = []
resumed ms before t (whats.Waits m) = []
resumed ms before t (whats.GaveUp m) = []
resumed ms before t (whats.Released m) = []
resumed ms before t (whats.Priority level) = []
resumed ms before t (whats.Ceiling m level) = []
resumed ms before t (whats.Blocks x) = []
resumed ms before t (whats.Resumes x ended) =
    blocked_row (block t (began (is_blocked t) before)) ms (number ms) ended ∷ []
resumed ms before t (whats.Runs level) = []
resumed ms before t (whats.On cpu) = []
resumed ms before t whats.OffReady = []
resumed ms before t whats.OffAsleep = []

-- the rows of the wait of t if the newest line ended it
abbrev pub granted : List Moment → List Moment → ℕ → List Row
granted ms before t =
    if waits t (now before) && not (waits t (now ms))
    then wait_rows (wait_start t (began (waits t) before)) ms (number ms) (tally t ms) else []

-- the rows of what the newest line ended
abbrev pub rows_at : List Moment → List Moment → Line → List Row
rows_at ms before line =
    of_fact [] (λ t what. granted ms before t ++ resumed ms before t what) (now before) line
    ++ flat_map (ended_run ms before) (by_number (now before))

-- the rows of what ended, in the order of the lines
abbrev pub ended_rows : List Moment → List Row
ended_rows [] = []
ended_rows (m ∷ ms) = ended_rows ms ++ rows_at (m ∷ ms) ms m.line

-- ---- what lasts to the end

abbrev pub lasting_wait : List Moment → ℕ → List Row
lasting_wait ms t =
    if waits t (now ms) then wait_rows (wait_start t (began (waits t) ms)) ms 0 (tally t ms) else []

abbrev pub lasting_block : List Moment → ℕ → List Row
lasting_block ms t =
    if is_blocked t (now ms)
    then blocked_row (block t (began (is_blocked t) ms)) ms 0 ends.Unknown ∷ [] else []

abbrev pub lasting_run : List Moment → ℕ → List Row
lasting_run ms t =
    option_map_or
    (λ both. ran_rows (run_start t both (began (is_run_apart t both) ms)) (clock ms) 0)
    (run_apart (now ms) t)
    []

abbrev pub lasting_rows : List Moment → List Row
lasting_rows ms =
    let ts = by_number (now ms) in
    flat_map (lasting_wait ms) ts ++ flat_map (lasting_block ms) ts ++ flat_map (lasting_run ms) ts

-- ---- tables, deadlocks, and the end

abbrev pub is_wait : Word → Bool
is_wait words.Wait = true
is_wait words.Inverted = false
is_wait words.Stalled = false
is_wait words.Meanwhile = false
is_wait words.Blocked = false
is_wait words.Ran = false
is_wait words.Section = false
is_wait words.Nests = false
is_wait words.Deadlock = false
is_wait words.End = false

abbrev pub section_row : Key × Sections → Row
section_row (k, s) =
    row words.Section (k.0 ∷ k.1 ∷ k.2 ∷ s.count ∷ s.longest ∷ s.line ∷ s.used ∷ [])

abbrev pub nests_row : Key × Nests → Row
nests_row (k, n) = row words.Nests (k.0 ∷ k.1 ∷ k.2 ∷ n.count ∷ n.taken ∷ n.line ∷ [])

-- the items before the first one that is t
abbrev pub before : ℕ → List ℕ → List ℕ
before t [] = []
before t (u ∷ us) = if u == t then [] else u ∷ before t us

-- none of the numbers is below this one
abbrev pub is_least : ℕ → List ℕ → Bool
is_least n ns = not (list_any (λ k. nat_lt k n) ns)

-- the numbers of the threads of the cycle of waits on which t is, from t on
abbrev pub cycle : World → ℕ → List ℕ
cycle w t = map (thread_number w) (t ∷ before t (drop 1 (way w.state t)))

-- t is on a cycle of waits, and no thread of it has a lower number
abbrev pub is_first_of_cycle : World → ℕ → Bool
is_first_of_cycle w t =
    contains (drop 1 (way w.state t)) t && is_least (thread_number w t) (cycle w t)

abbrev pub deadlock_rows : World → List Row
deadlock_rows w =
    map (λ t. row words.Deadlock (cycle w t)) (filter (is_first_of_cycle w) (by_number w))

-- the row is that of a wait, and this holds of its twelfth number, for how long the wait was
-- inverted
abbrev pub wait_with : (ℕ → Bool) → Row → Bool
wait_with holds r = is_wait r.word && option_map_or holds (slice_get r.numbers 11) false

-- the row is that of a wait that was inverted
abbrev pub was_inverted : Row → Bool
was_inverted r = wait_with (λ n. nat_lt 0 n) r

abbrev pub end_row : List Moment → List Row → List Row → Row
end_row ms rows deadlocks =
    row words.End
    (number ms ∷ clock ms ∷ count_by (wait_with (λ n. true)) rows
    ∷ count_by was_inverted rows ∷ length deadlocks ∷ [])

-- the rows of what ended and of what lasts to the end
abbrev pub all_rows : List Moment → List Row
all_rows ms = ended_rows ms ++ lasting_rows ms

-- the rows of a text with these moments
abbrev pub rows_of : List Moment → List Row
rows_of ms =
    let deadlocks = deadlock_rows (now ms) in
    all_rows ms ++ map section_row (all_sections ms) ++ map nests_row (nests ms) ++ deadlocks
    ++ end_row ms (all_rows ms) deadlocks ∷ []

-- the moments of a text with these lines below the first
abbrev pub moments_of : List Line → List Moment
moments_of ls = fold followed_by first_moments ls

-- 1 if a wait was inverted or there is a deadlock at the end, or else 0
abbrev pub status_of : List Moment → ℕ
status_of ms =
    if nat_lt 0 (count_by was_inverted (all_rows ms)) || nat_lt 0 (length (deadlock_rows (now ms)))
    then 1 else 0

-- the bytes of the rows
abbrev pub text_of : List Row → List ℕ
text_of rows = flat_map row_text rows
