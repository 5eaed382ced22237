-- The lines of a text determine it, and grow with it.
use Rattle.std.proofs.lemmas.Grind.{common_steps}
use Rattle.std.proofs.Common.{◌≡◌, ℕ, ◌+◌, ◌≤◌, List, [], ◌∷◌, ◌++◌, arith, refl, ap, ap₂}
use Rattle.std.proofs.Common.{sym, ◌∙◌, length, map, append_assoc, length-append}
use Rattle.std.specs.Fmt.{decimal}
use Rattle.std.specs.List.{AllByRecursion}
use Rattle.std.specs.Str.Parse.{digits_value}
use Rattle.std.proofs.lemmas.List.{length-map, append-nil}
use Rattle.pim_base.specs.declared.steps.Protocol.{Protocol}
use Rattle.pim_base.specs.declared.lines.StepLine.{StepLine}
use Rattle.pim_base.specs.declared.lines.Line.{Line}
use Rattle.pim_base.specs.declared.lines.Line.TheVariants as lines
use Rattle.pim_base.specs.declared.limits.TheConstants.{MAX_TASKS, MAX_MUTEXES, MAX_STEPS}
use Rattle.pim_base.specs.Spelling.{version_line, IsLine, spelled}
use Rattle.pim_base.specs.Texts.{Trace, declared, task_lines, mutex_lines, IsWithinLimits, spelled_lines, Spells}
use Rattle.pim_text.specs.Reading.{empty_of, with_line, MayFollow}
use Rattle.pim_text.proofs.SpellingLemmas.{spelled_same, value-decimal}

-- ---- the lines of a text determine it

-- the text with this line in front of those of its part
abbrev onto : Line → Trace → Trace
onto (lines.Task n p) t = record t { bases = p ∷ t.bases }
onto (lines.Mutex n p) t = record t { protocols = p ∷ t.protocols }
onto (lines.Step s) t = record t { steps = s ∷ t.steps }

-- the text of this version that has these lines, in whatever order they are
abbrev collect : ℕ → List Line → Trace
collect v [] = empty_of v
collect v (l ∷ ls) = onto l (collect v ls)

abbrev joined : List ℕ → List Protocol → List StepLine → Trace → Trace
joined bs ps ss t =
    record { version = t.version; bases = bs ++ t.bases; protocols = ps ++ t.protocols; steps = ss ++ t.steps }

collect-task_lines :
    (v n : ℕ) (bs : List ℕ) (rest : List Line)
    → collect v (task_lines n bs ++ rest) ≡ joined bs [] [] (collect v rest)
collect-task_lines v n [] rest = refl
collect-task_lines v n (b ∷ bs) rest = ap (onto (lines.Task n b)) (collect-task_lines v (n + 1) bs rest)

collect-mutex_lines :
    (v n : ℕ) (ps : List Protocol) (rest : List Line)
    → collect v (mutex_lines n ps ++ rest) ≡ joined [] ps [] (collect v rest)
collect-mutex_lines v n [] rest = refl
collect-mutex_lines v n (p ∷ ps) rest = ap (onto (lines.Mutex n p)) (collect-mutex_lines v (n + 1) ps rest)

collect-steps : (v : ℕ) (ss : List StepLine) → collect v (map lines.Step ss) ≡ joined [] [] ss (empty_of v)
collect-steps v [] = refl
collect-steps v (s ∷ ss) = ap (onto (lines.Step s)) (collect-steps v ss)

collect-declared : (t : Trace) → collect t.version (declared t) ≡ t
collect-declared t = grind (arith, collect-task_lines, collect-mutex_lines, collect-steps, append-nil)

-- lines that are spelled alike are the same
map-spelled_same :
    (ls ms : List Line)
    → AllByRecursion IsLine ls
    → AllByRecursion IsLine ms
    → map spelled ls ≡ map spelled ms
    → ls ≡ ms
map-spelled_same [] [] hl hm e = refl
map-spelled_same [] (m ∷ ms) hl hm e = cc
map-spelled_same (l ∷ ls) [] hl hm e = cc
map-spelled_same (l ∷ ls) (m ∷ ms) hl hm e =
    let a : l ≡ m = spelled_same l m hl.0 hm.0 (cc) in
    let b : ls ≡ ms = map-spelled_same ls ms hl.1 hm.1 (cc) in cc

-- the first line determines the version
version_same :
    (t u : Trace)
    → IsWithinLimits t
    → IsWithinLimits u
    → version_line t.version ≡ version_line u.version
    → t.version ≡ u.version
version_same t u it iu e =
    let same : decimal t.version ≡ decimal u.version = cc in
    sym (value-decimal t.version (omega (arith, it.version.1)))
    ∙ ap (digits_value 10) same
    ∙ value-decimal u.version (omega (arith, iu.version.1))

-- a trace is known by its spelled lines
pub spelled_once : (t u : Trace) → IsWithinLimits t → IsWithinLimits u → spelled_lines t ≡ spelled_lines u → t ≡ u
spelled_once t u it iu e =
    let first : version_line t.version ≡ version_line u.version = cc in
    let below : map spelled (declared t) ≡ map spelled (declared u) = cc in
    sym (collect-declared t)
    ∙ ap₂ collect (version_same t u it iu first) (map-spelled_same (declared t) (declared u) it.each iu.each below)
    ∙ collect-declared u

-- ---- one more line of each part

task_lines-append_one :
    (n : ℕ) (bs : List ℕ) (p : ℕ)
    → task_lines n (bs ++ p ∷ []) ≡ task_lines n bs ++ lines.Task (n + length bs) p ∷ []
task_lines-append_one n [] p = ap (λ k. lines.Task k p ∷ []) (omega arith)
task_lines-append_one n (b ∷ bs) p =
    ap (λ ls. lines.Task n b ∷ ls)
    (task_lines-append_one (n + 1) bs p ∙ ap (λ k. task_lines (n + 1) bs ++ lines.Task k p ∷ []) (omega arith))

mutex_lines-append_one :
    (n : ℕ) (ps : List Protocol) (p : Protocol)
    → mutex_lines n (ps ++ p ∷ []) ≡ mutex_lines n ps ++ lines.Mutex (n + length ps) p ∷ []
mutex_lines-append_one n [] p = ap (λ k. lines.Mutex k p ∷ []) (omega arith)
mutex_lines-append_one n (b ∷ bs) p =
    ap (λ ls. lines.Mutex n b ∷ ls)
    (mutex_lines-append_one (n + 1) bs p ∙ ap (λ k. mutex_lines (n + 1) bs ++ lines.Mutex k p ∷ []) (omega arith))

with_task :
    (bs : List ℕ) (p n : ℕ)
    → n ≡ length bs + 1
    → task_lines 1 (bs ++ p ∷ []) ++ [] ≡ (task_lines 1 bs ++ []) ++ lines.Task n p ∷ []
with_task bs p n e = grind (arith, append-nil, task_lines-append_one)

with_mutex :
    (ts : List Line) (ps : List Protocol) (p : Protocol) (n : ℕ)
    → n ≡ length ps + 1
    → ts ++ (mutex_lines 1 (ps ++ p ∷ []) ++ []) ≡ (ts ++ (mutex_lines 1 ps ++ [])) ++ lines.Mutex n p ∷ []
with_mutex ts ps p n e = grind (arith, mutex_lines-append_one, append_assoc)

-- a line that may follow does
pub declared-with_line : (t : Trace) (m : Line) → MayFollow t m → declared (with_line t m) ≡ declared t ++ m ∷ []
declared-with_line t m may = grind (arith, with_task, with_mutex, common_steps)

-- ---- how many lines a text has

length-task_lines : (n : ℕ) (bs : List ℕ) → length (task_lines n bs) ≡ length bs
length-task_lines n [] = refl
length-task_lines n (b ∷ bs) = omega (arith, length-task_lines (n + 1) bs)

length-mutex_lines : (n : ℕ) (ps : List Protocol) → length (mutex_lines n ps) ≡ length ps
length-mutex_lines n [] = refl
length-mutex_lines n (p ∷ ps) = omega (arith, length-mutex_lines (n + 1) ps)

length-declared : (t : Trace) → length (declared t) ≡ length t.bases + length t.protocols + length t.steps
length-declared t = grind (arith, length-append, length-task_lines, length-mutex_lines, length-map)

-- a valid text is short
pub length_valid :
    (ls : List (List ℕ)) (t : Trace)
    → Spells ls t
    → length ls ≤ 1 + MAX_TASKS + MAX_MUTEXES + MAX_STEPS
length_valid ls t spells = grind (arith, length-declared, length-map)
