-- The recorded run of a script: how many entries it has, and that its report accepts them all.
use Rattle.std.proofs.Common.{◌≡◌, ◌≤◌, ◌<◌, ℕ, zero, suc, ◌+◌, ◌==◌, Bool, true, false, cond, List, [], ◌∷◌, ◌++◌, length, map, filter, Some, refl, ap, ap₂, sym, subst, ◌∙◌, inl, inr, arith, rules, length-append, if◌then◌else◌}
use Rattle.std.specs.List.{AllByRecursion}
use Rattle.std.proofs.lemmas.Bool.Decides.{leb_tells, nat_tests}
use Rattle.std.proofs.lemmas.List.{length-map}
use Rattle.std.proofs.lemmas.List.Elements.{recursion_from_All}
use Rattle.std.proofs.lemmas.List.FromFn.{length-map-range_with_len, get_or-map-range_with_len}
use Rattle.pim_base.specs.Lists.{nth, numbers}
use Rattle.pim_base.specs.State.{State}
use Rattle.pim_base.specs.Steps.{reply_of, after}
use Rattle.pim_base.specs.Runs.{IsRun, IsInterleaving}
use Rattle.pim_base.specs.Texts.{Trace, IsWithinLimits, task_lines, mutex_lines}
use Rattle.pim_base.specs.Spelling.{IsLine}
use Rattle.pim_base.specs.Scripts.{StandsInScript, KeepsScriptRules, script_of, scripts_of}
use Rattle.pim_base.specs.Recordings.{entry_line}
use Rattle.pim_base.specs.Reports.{same_reply, verdict_from}
use Rattle.pim_base.specs.RunLaws.{RecordingLaw}
use Rattle.pim_base.specs.declared.lines.Line.TheVariants as lines
use Rattle.pim_base.specs.declared.lines.StepLine.{StepLine}
use Rattle.pim_base.specs.declared.lines.Verdict.{Verdict}
use Rattle.pim_base.specs.declared.steps.Entry.{Entry}
use Rattle.pim_base.specs.declared.steps.Op.{Op}
use Rattle.pim_base.specs.declared.steps.Op.TheVariants as ops
use Rattle.pim_base.specs.declared.steps.Reply.{Reply}
use Rattle.pim_base.proofs.Places.{nth-get_or}

-- ---- sums over the tasks

-- the sum of the values at 1 to n
total : ℕ → (ℕ → ℕ) → ℕ
total zero g = 0
total (suc n) g = total n g + g (suc n)

total-same : (n : ℕ) (g h : ℕ → ℕ) → ((a : ℕ) → 1 ≤ a → a ≤ n → g a ≡ h a) → total n g ≡ total n h
unfolding total
total-same zero g h same = refl
total-same (suc n) g h same =
    ap₂ (λ s k. s + k) (total-same n g h (λ a low high. same a low (omega arith))) (same (suc n) (omega arith) (omega arith))

total-add : (n : ℕ) (g h : ℕ → ℕ) → total n (λ a. g a + h a) ≡ total n g + total n h
unfolding total
total-add zero g h = refl
total-add (suc n) g h = let e = total-add n g h in omega arith

total-zeros : (n : ℕ) → total n (λ a. 0) ≡ 0
unfolding total
total-zeros zero = refl
total-zeros (suc n) = let e = total-zeros n in omega arith

total-ones : (n : ℕ) → total n (λ a. 1) ≡ n
unfolding total
total-ones zero = refl
total-ones (suc n) = let e = total-ones n in omega arith

-- 1 at t, and 0 elsewhere
abbrev at : ℕ → ℕ → ℕ
at t a = cond (t == a) 1 0

at-same : (t a : ℕ) → t ≡ a → at t a ≡ 1
at-same t a e = grind (arith, nat_tests)

at-other : (t a : ℕ) → a < t → at t a ≡ 0
at-other t a h = grind (arith, nat_tests)

at-above : (t a : ℕ) → t < a → at t a ≡ 0
at-above t a h = grind (arith, nat_tests)

total-none : (n t : ℕ) → n < t → total n (at t) ≡ 0
unfolding total
total-none zero t above = refl
total-none (suc n) t above = let e = total-none n t (omega arith) in let z = at-other t (suc n) above in omega arith

total-one : (n t : ℕ) → 1 ≤ t → t ≤ n → total n (at t) ≡ 1
unfolding total
total-one zero t low high = absurd (omega arith)
total-one (suc n) t low high =
    elim (leb_tells t n) [
      | inl h ↦ let below : t ≤ n = h.1 in let e = total-one n t low below in let z = at-above t (suc n) (omega arith) in omega arith
      | inr h ↦ let above : n < t = h.1 in let e = total-none n t above in let z = at-same t (suc n) (omega arith) in omega arith
    ]

-- ---- how many items each task has

module _ {X : Type 0} (task : X → ℕ) where
  -- those of the task
  abbrev own : ℕ → List X → ℕ
  own a xs = length (filter (λ x. task x == a) xs)

  one_more : (b : Bool) (x : X) (xs : List X) → length (cond b (x ∷ xs) xs) ≡ cond b 1 0 + length xs
  one_more true x xs = omega arith
  one_more false x xs = omega arith

  -- each item is that of one task
  total-own : (n : ℕ) (xs : List X) → AllByRecursion (λ x. (1 ≤ task x) × (task x ≤ n)) xs → total n (λ a. own a xs) ≡ length xs
  total-own n [] known = total-zeros n
  total-own n (x ∷ xs) known =
      let rest = total-own n xs known.1 in
      let this = total-one n (task x) known.0.0 known.0.1 in
      total-same n (λ a. own a (x ∷ xs)) (λ a. at (task x) a + own a xs) (λ a low high. one_more (task x == a) x (filter (λ y. task y == a) xs))
      ∙ total-add n (at (task x)) (λ a. own a xs)
      ∙ omega arith

-- ---- the entries of a run

pub each_script : (t : Trace) (a : ℕ) → 1 ≤ a → a ≤ length t.bases → nth (scripts_of t) a ≡ Some (script_of t.steps a)
each_script t zero low high = absurd (omega arith)
each_script t (suc i) low high =
    let n = length t.bases in
    let inside : i < n = omega arith in
    nth-get_or (scripts_of t) (suc i) i [] (omega arith) (omega (arith, length-map-range_with_len (script_of t.steps) 1 n))
    ∙ ap Some (get_or-map-range_with_len (script_of t.steps) 1 n i (suc i) [] inside (omega arith))

pub last_part : {X : Type 0} (P : X → Type 0) (xs ys : List X) → AllByRecursion P (xs ++ ys) → AllByRecursion P ys
last_part P [] ys all = all
last_part P (x ∷ xs) ys all = last_part P xs ys all.1

steps_known : (n : ℕ) (ls : List StepLine) → AllByRecursion IsLine (map lines.Step ls) → AllByRecursion (StandsInScript n) ls
    → AllByRecursion (λ (l : StepLine). (1 ≤ l.step.actor) × (l.step.actor ≤ n)) ls
steps_known n [] numbers rules = tt
steps_known n (l ∷ ls) numbers rules = ((numbers.0.0.0, rules.0.declared), steps_known n ls numbers.1 rules.1)

-- the steps of a task are those of its script, and one release
own_is : (t : Trace) (es : List Entry) → IsInterleaving es (scripts_of t) → (a : ℕ) → 1 ≤ a → a ≤ length t.bases
    → own (λ (e : Entry). e.step.actor) a es ≡ own (λ (l : StepLine). l.step.actor) a t.steps + 1
own_is t es mixed a low high =
    let op : Entry → Op = λ e. e.step.op in
    let script = script_of t.steps a in
    sym (length-map (filter (λ (e : Entry). e.step.actor == a) es) op)
    ∙ ap length (mixed.each a script (each_script t a low high))
    ∙ length-append script (ops.ReleaseAll ∷ [])
    ∙ ap (λ n. n + 1) (length-map (filter (λ (l : StepLine). l.step.actor == a) t.steps) (λ (l : StepLine). l.step.op))

pub run_is_long : (t : Trace) (es : List Entry) → IsWithinLimits t → KeepsScriptRules t → IsInterleaving es (scripts_of t) → length es ≡ length t.steps + length t.bases
run_is_long t es limits rules mixed =
    let n = length t.bases in
    let actor : Entry → ℕ = λ e. e.step.actor in
    let asker : StepLine → ℕ = λ l. l.step.actor in
    let tasks = length-map-range_with_len (script_of t.steps) 1 n in
    let entries = recursion_from_All (λ (e : Entry). (1 ≤ e.step.actor) × (e.step.actor ≤ length (scripts_of t))) es mixed.no_other in
    let lines_known = last_part IsLine (mutex_lines 1 t.protocols) (map lines.Step t.steps) (last_part IsLine (task_lines 1 t.bases) _ limits.each) in
    sym (total-own actor n es (subst (λ m. AllByRecursion (λ (e : Entry). (1 ≤ e.step.actor) × (e.step.actor ≤ m)) es) tasks entries))
    ∙ total-same n (λ a. own actor a es) (λ a. own asker a t.steps + 1) (own_is t es mixed)
    ∙ total-add n (λ a. own asker a t.steps) (λ a. 1)
    ∙ ap₂ (λ x y. x + y) (total-own asker n t.steps (steps_known n t.steps lines_known rules)) (total-ones n)

-- ---- the report

same_reply-equal : (r q : Reply) → r ≡ q → same_reply r q ≡ true
same_reply-equal r q h = search rules

pub run_accepted : (k : ℕ) (S end : State) (es : List Entry) → IsRun S es end → verdict_from (k + 1) S (map entry_line es) ≡ Verdict.Accepted (k + length es)
run_accepted k S end [] run = ap Verdict.Accepted (omega arith)
run_accepted k S end (e ∷ es) run =
    let same : same_reply e.reply (reply_of S e.step) ≡ true = same_reply-equal e.reply (reply_of S e.step) run.0 in
    ap (λ b. if b then verdict_from (k + 1 + 1) (after S e.step) (map entry_line es) else Verdict.Rejected (k + 1)) same
    ∙ run_accepted (k + 1) (after S e.step) end es run.1
    ∙ ap Verdict.Accepted (omega arith)

pub recording_law : RecordingLaw
recording_law t es limits rules run =
    let long = run_is_long t es limits rules run.interleaving in
    (long, run_accepted 0 _ run.run.0 es run.run.1 ∙ ap Verdict.Accepted (omega arith))
