-- The lines of a trace, one after another.
use Rattle.std.proofs.Common.{◌≡◌, ◌<◌, ◌+◌, ℕ, List, [], ◌∷◌, ◌++◌, length, map, drop, get_or}
use Rattle.std.proofs.Common.{refl, ap, ◌∙◌, sym, subst, append_assoc}
use Rattle.std.specs.List.{flat_map}
use Rattle.std.proofs.lemmas.List.{map-append, at_drop_more}
use Rattle.std.proofs.lemmas.Grind.{flat_map-append}
use Rattle.pim_base.specs.Spelling.{version_line, spelled}
use Rattle.pim_base.specs.Texts.{Trace, task_lines, mutex_lines}
use Rattle.pim_base.specs.Recordings.{ended, entry_line, recording, text_of}
use Rattle.pim_base.specs.declared.steps.Entry.{Entry}
use Rattle.pim_base.specs.declared.lines.Line.{Line}
use Rattle.pim_base.specs.declared.lines.Line.TheVariants as lines
use Rattle.pim_page.specs.Ends.{Told, Puts}
use Rattle.pim_page.specs.Printed.{tasks_text, mutexes_text, entry_text}
use Rattle.pim_judge.specs.Printed.{declarations_text}
use Rattle.pim_judge.specs.Prints.{Stops}
use Rattle.pim_judge.specs.declared.fault.Fault.{Fault}

-- the entries are the last lines
entries_are :
    (es : List Entry)
    → flat_map ended (map spelled (map lines.Step (map entry_line es))) ≡ flat_map entry_text es
entries_are [] = refl
entries_are (e ∷ es) = ap (λ bs. entry_text e ++ bs) (entries_are es)

-- four texts, one after another
in_front :
    (first tasks mutexes entries : List ℕ)
    → first ++ (tasks ++ (mutexes ++ entries)) ≡ (first ++ (tasks ++ mutexes)) ++ entries
in_front first tasks mutexes entries = simp append_assoc

-- what is declared, and the entries
pub text_is : (t : Trace) (es : List Entry) → text_of (recording t es) ≡ declarations_text t ++ flat_map entry_text es
text_is t es =
    let first : List ℕ = ended (version_line t.version) in
    let tasks : List Line = task_lines 1 t.bases in
    let mutexes : List Line = mutex_lines 1 t.protocols in
    let steps : List Line = map lines.Step (map entry_line es) in
    ap (λ ls. first ++ flat_map ended ls)
    (map-append spelled tasks (mutexes ++ steps)
    ∙ ap (λ ls. map spelled tasks ++ ls) (map-append spelled mutexes steps))
    ∙ ap (λ bs. first ++ bs)
    (flat_map-append ended (map spelled tasks) (map spelled mutexes ++ map spelled steps)
    ∙ ap (λ bs. tasks_text 1 t.bases ++ bs)
    (flat_map-append ended (map spelled mutexes) (map spelled steps)
    ∙ ap (λ bs. mutexes_text 1 t.protocols ++ bs) (entries_are es)))
    ∙ in_front first (tasks_text 1 t.bases) (mutexes_text 1 t.protocols) (flat_map entry_text es)

-- the entries from one on
pub entries_next : (es : List Entry) (i : ℕ) (e : Entry) → i < length es → e ≡ get_or es i e
    → flat_map entry_text (drop i es) ≡ entry_text e ++ flat_map entry_text (drop (i + 1) es)
entries_next es i e inside at =
    at_drop_more (flat_map entry_text) es i e inside
    ∙ ap (λ d. entry_text d ++ flat_map entry_text (drop (i + 1) es)) (sym at)

-- a page of what is declared, and then the entries, are the text
pub puts_text :
    {a b : Told} {left : List ℕ} (t : Trace) (es : List Entry) (page : List ℕ)
    → page ≡ declarations_text t
    → Puts a b (page ++ flat_map entry_text es) left → Puts a b (text_of (recording t es)) left
puts_text {a} {b} {left} t es page declared put =
    subst (λ bytes. Puts a b bytes left) (ap (λ p. p ++ flat_map entry_text es) declared ∙ sym (text_is t es)) put

pub stops_text :
    {a b : Told} {fault : Fault} (t : Trace) (es : List Entry) (page : List ℕ)
    → page ≡ declarations_text t
    → Stops a b (page ++ flat_map entry_text es) fault → Stops a b (text_of (recording t es)) fault
stops_text {a} {b} {fault} t es page declared stopped =
    subst (λ bytes. Stops a b bytes fault) (ap (λ p. p ++ flat_map entry_text es) declared ∙ sym (text_is t es)) stopped
