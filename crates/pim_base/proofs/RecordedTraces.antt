-- The recorded run of a script is a trace, of the script's version.
use Rattle.std.proofs.Common.{◌≡◌, ◌≤◌, ◌<◌, ◌+◌, ◌^◌, ◌&&◌, ℕ, zero, suc, Bool, true, false, cond, nat_lt, if◌then◌else◌, unwrap_or, slice_get, ◌==◌, List, [], ◌∷◌, ◌++◌, length, map, filter, Option, Some, None, refl, ap, sym, subst, ◌∙◌, arith, rules}
use Rattle.std.specs.List.{AllByRecursion}
use Rattle.std.proofs.lemmas.Bool.{eq-eqb}
use Rattle.std.proofs.lemmas.List.{length-map}
use Rattle.std.proofs.lemmas.List.Elements.{recursion_from_All}
use Rattle.std.proofs.lemmas.List.FromFn.{length-range_with_len, length-map-range_with_len}
use Rattle.pim_base.specs.Lists.{numbers, holds, first_item}
use Rattle.pim_base.specs.State.{State, IsTask, start, protocol_of, owner_of, count_of, is_recursive, owned}
use Rattle.pim_base.specs.Checks.{is_busy, locked_too_often, first_checks, checks}
use Rattle.pim_base.specs.Queues.{waiter_of, first_of, queue_of}
use Rattle.pim_base.specs.Steps.{is_kept, unless, handed, served, answer, reply_of, after}
use Rattle.pim_base.specs.Runs.{IsRun, IsInterleaving, asked_by}
use Rattle.pim_base.specs.Laws.{kind}
use Rattle.pim_base.specs.Spelling.{IsOp, IsReply, IsLine, BelongsTo, protocol_since, op_since, refusal_since, reply_since}
use Rattle.pim_base.specs.Steady.{IsSteady}
use Rattle.pim_base.specs.Texts.{Trace, IsWithinLimits, task_lines, mutex_lines, declared}
use Rattle.pim_base.specs.Scripts.{script_of, scripts_of}
use Rattle.pim_base.specs.Recordings.{entry_line, recording}
use Rattle.pim_base.specs.RunLaws.{RecordedTraceLaw}
use Rattle.pim_base.specs.declared.limits.TheConstants.{MAX_TASKS, MAX_MUTEXES, MAX_COUNT}
use Rattle.pim_base.specs.declared.lines.Line.{Line}
use Rattle.pim_base.specs.declared.lines.Line.TheVariants as lines
use Rattle.pim_base.specs.declared.lines.StepLine.{StepLine}
use Rattle.pim_base.specs.declared.steps.Entry.{Entry}
use Rattle.pim_base.specs.declared.steps.Op.{Op}
use Rattle.pim_base.specs.declared.steps.Op.TheVariants as ops
use Rattle.pim_base.specs.declared.steps.Protocol.{Protocol}
use Rattle.pim_base.specs.declared.steps.Refusal.{Refusal}
use Rattle.pim_base.specs.declared.steps.Reply.{Reply}
use Rattle.pim_base.specs.declared.steps.Step.{Step}
use Rattle.pim_base.specs.declared.steps.Waiter.{Waiter}
use Rattle.pim_base.proofs.HandOvers.{protocol-hand_over, base-hand_over}
use Rattle.pim_base.proofs.InOrder.{queue_law}
use Rattle.pim_base.proofs.Kept.{IsKeptBySteps, kept_by_step}
use Rattle.pim_base.proofs.Places.{length-put}
use Rattle.pim_base.proofs.ProtocolKinds.{kind_law}
use Rattle.pim_base.proofs.Recorded.{each_script, last_part}
use Rattle.pim_base.proofs.Steady.{steady_step_law, start_law}

-- ---- lists

all_each : {X : Type 0} (P R : X → Type 0) → ((x : X) → P x → R x) → (xs : List X) → AllByRecursion P xs → AllByRecursion R xs
all_each P R f [] all = tt
all_each P R f (x ∷ xs) all = (f x all.0, all_each P R f xs all.1)

first_part : {X : Type 0} (P : X → Type 0) (xs ys : List X) → AllByRecursion P (xs ++ ys) → AllByRecursion P xs
first_part P [] ys all = tt
first_part P (x ∷ xs) ys all = (all.0, first_part P xs ys all.1)

-- all of the first part, and others in place of the last
other_last_part : {X : Type 0} (P : X → Type 0) (xs ys zs : List X) → AllByRecursion P (xs ++ ys) → AllByRecursion P zs → AllByRecursion P (xs ++ zs)
other_last_part P [] ys zs all last = last
other_last_part P (x ∷ xs) ys zs all last = (all.0, other_last_part P xs ys zs all.1 last)

-- ---- a reply came no later than the operation that it answers, or the protocols of the mutexes

-- no mutex has a protocol that came later than this version
abbrev HasProtocolsOf : ℕ → State → Type 0
HasProtocolsOf version S = (m : ℕ) → protocol_since (protocol_of S m) ≤ version

-- a test that holds has a refusal that came no later than n
abbrev RefusesBy : ℕ → Bool × Refusal → Type 0
RefusesBy n test = test.0 ≡ true → refusal_since test.1 ≤ n

unless_since :
    (tests : List (Bool × Refusal)) (r : Reply) (n : ℕ)
    → AllByRecursion (RefusesBy n) tests
    → reply_since r ≤ n
    → reply_since (unless tests r) ≤ n
unless_since [] r n each last = last
unless_since ((true, e) ∷ tests) r n each last = each.0 refl
unless_since ((false, e) ∷ tests) r n each last = unless_since tests r n each.1 last

recursive_since : (p : Protocol) (n : ℕ) → protocol_since p ≤ n → is_recursive p ≡ true → 2 ≤ n
recursive_since p n since recursive = grind (arith, rules)

first_of_both : (x y : Bool) → (x && y) ≡ true → x ≡ true
first_of_both x y h = grind rules

-- only a recursive mutex is locked too often, or kept
module _ (S : State) (version : ℕ) (protocols : HasProtocolsOf version S) where
  again_since : (a m : ℕ) → locked_too_often S a m ≡ true → 2 ≤ version
  again_since a m h =
      let recursive = is_recursive (protocol_of S m) in
      let owns = holds (owner_of S m) a in
      recursive_since (protocol_of S m) version (protocols m)
      (first_of_both recursive owns (first_of_both (recursive && owns) (count_of S m == MAX_COUNT) h))

  kept_since : (m : ℕ) → is_kept S m ≡ true → 2 ≤ version
  kept_since m h =
      recursive_since (protocol_of S m) version (protocols m)
      (first_of_both (is_recursive (protocol_of S m)) (nat_lt 1 (count_of S m)) h)

  served_since : (a : ℕ) (op : Op) → 1 ≤ version → op_since op ≤ version → reply_since (served S a op) ≤ version
  served_since a (ops.Lock m) low asked = go (is_busy S a m)
    where
      go : (b : Bool) → reply_since (if b then Reply.Queued else Reply.Granted) ≤ version
      go true = low
      go false = low
  served_since a (ops.Try m) low asked = low
  served_since a (ops.Unlock m) low asked = go (is_kept S m) refl (first_of S m)
    where
      go : (b : Bool) → is_kept S m ≡ b → (o : Option Waiter) → reply_since (if b then Reply.Kept else handed o) ≤ version
      go true h o = kept_since m h
      go false h None = low
      go false h (Some w) = low
  served_since a ops.ReleaseAll low asked = low
  served_since a (ops.Cancel t) low asked = low
  served_since a (ops.SetBase t p) low asked = low
  served_since a (ops.SetCeiling m p) low asked = low

  checks_since : (a : ℕ) (op : Op) → 1 ≤ version → op_since op ≤ version → AllByRecursion (RefusesBy version) (checks S a op)
  checks_since a (ops.Lock m) low asked =
      ((λ h. low), ((λ h. again_since a m h), ((λ h. low), ((λ h. low), ((λ h. low), tt)))))
  checks_since a (ops.Try m) low asked = ((λ h. low), ((λ h. again_since a m h), ((λ h. low), ((λ h. low), tt))))
  checks_since a (ops.Unlock m) low asked = ((λ h. low), ((λ h. low), tt))
  checks_since a ops.ReleaseAll low asked = tt
  checks_since a (ops.Cancel t) low asked = ((λ h. low), ((λ h. low), tt))
  checks_since a (ops.SetBase t p) low asked = ((λ h. low), ((λ h. low), tt))
  checks_since a (ops.SetCeiling m p) low asked = ((λ h. low), ((λ h. asked), ((λ h. low), ((λ h. low), tt))))

  reply_of-since : (step : Step) → 1 ≤ version → op_since step.op ≤ version → reply_since (reply_of S step) ≤ version
  reply_of-since step low asked =
      unless_since (first_checks S step) (answer S step.actor step.op) version ((λ h. low), ((λ h. low), tt))
      (unless_since (checks S step.actor step.op) (served S step.actor step.op) version
      (checks_since step.actor step.op low asked) (served_since step.actor step.op low asked))

-- a protocol of the kind came with the kind
since-kind : (p q : Protocol) → kind p ≡ kind q → protocol_since p ≡ protocol_since q
since-kind p q same = grind (arith, rules)

-- ---- a reply has numbers of a text

-- the state of a run: steady, with this many tasks and mutexes, of protocols that the version has
record Fits (n m version : ℕ) (S : State) : Type 0 where
  steady : IsSteady S
  tasks : length S.base ≡ n
  mutexes : length S.protocol ≡ m
  protocols : HasProtocolsOf version S

lengths_kept : (n m : ℕ) → IsKeptBySteps (λ S. (length S.base ≡ n) × (length S.protocol ≡ m))
lengths_kept n m = record {
  grant = λ S a k ok idle. ok;
  lock_again = λ S a k ok again few. ok;
  keep = λ S k ok kept. ok;
  enqueue = λ S a k ok task idle open' owned. ok;
  hand = λ S k ok. (ap length (base-hand_over S k) ∙ ok.0, ap length (protocol-hand_over S k) ∙ ok.1);
  withdraw = λ S t ok. ok;
  set_base = λ S t p ok. (length-put S.base t p ∙ ok.0, ok.1);
  set_ceiling = λ S k c ok protect. (ok.0, length-put S.protocol k _ ∙ ok.1);
}

fits_after : (n m version : ℕ) (S : State) (step : Step) → Fits n m version S → Fits n m version (after S step)
fits_after n m version S step fits =
    let HasLengths : State → Type 0 = λ T. (length T.base ≡ n) × (length T.protocol ≡ m) in
    let lengths = kept_by_step HasLengths (lengths_kept n m) S step (fits.tasks, fits.mutexes) in
    record {
      steady = steady_step_law S step fits.steady;
      tasks = lengths.0;
      mutexes = lengths.1;
      protocols = λ k.
          let same = since-kind (protocol_of (after S step) k) (protocol_of S k) (kind_law S step k) in
          omega (arith, same, fits.protocols k);
    }

first_is : (P : Waiter → Type 0) (q : List Waiter) (w : Waiter) → AllByRecursion P q → first_item q ≡ Some w → P w
first_is P [] w all e = cc
first_is P (v ∷ q) w all e = let same : v ≡ w = cc in subst P same all.0

handed_is_reply : (n m version k : ℕ) (S : State) → n < 2 ^ 16 → Fits n m version S → IsReply (handed (first_of S k))
handed_is_reply n m version k S few fits = go (first_of S k) refl
  where
    IsKnown : ℕ → Waiter → Type 0
    IsKnown k w = IsTask S w.task × (waiter_of S k w.task ≡ Some w)

    go : (o : Option Waiter) → first_of S k ≡ o → IsReply (handed o)
    go None e = tt
    go (Some w) e =
        let all = recursion_from_All (IsKnown k) (queue_of S k) (queue_law S k fits.steady.tickets).waiters in
        let known : IsTask S w.task = (first_is (IsKnown k) (queue_of S k) w all e).0 in
        (omega (arith, known.0), omega (arith, known.1, fits.tasks, few))

length-filter-le : {X : Type 0} (p : X → Bool) (xs : List X) → length (filter p xs) ≤ length xs
length-filter-le p [] = omega arith
length-filter-le p (x ∷ xs) = go (p x) (length-filter-le p xs)
  where
    go : (b : Bool) → length (filter p xs) ≤ length xs → length (cond b (x ∷ filter p xs) (filter p xs)) ≤ length (x ∷ xs)
    go true h = omega (arith, h)
    go false h = omega (arith, h)

few_owned : (S : State) (a : ℕ) → length (owned S a) ≤ length S.protocol
few_owned S a = omega (arith, length-filter-le (λ m. holds (owner_of S m) a) (numbers (length S.protocol)), length-range_with_len 1 (length S.protocol))

served_is_reply :
    (n m version : ℕ) (S : State) (a : ℕ) (op : Op)
    → n < 2 ^ 16
    → m < 2 ^ 16
    → Fits n m version S
    → IsReply (served S a op)
served_is_reply n m version S a (ops.Lock k) few_tasks few_mutexes fits = go (is_busy S a k)
  where
    go : (b : Bool) → IsReply (cond b Reply.Queued Reply.Granted)
    go true = tt
    go false = tt
served_is_reply n m version S a (ops.Try k) few_tasks few_mutexes fits = tt
served_is_reply n m version S a (ops.Unlock k) few_tasks few_mutexes fits = go (is_kept S k)
  where
    go : (b : Bool) → IsReply (cond b Reply.Kept (handed (first_of S k)))
    go true = tt
    go false = handed_is_reply n m version k S few_tasks fits
served_is_reply n m version S a ops.ReleaseAll few_tasks few_mutexes fits = omega (arith, few_owned S a, fits.mutexes, few_mutexes)
served_is_reply n m version S a (ops.Cancel t) few_tasks few_mutexes fits = tt
served_is_reply n m version S a (ops.SetBase t p) few_tasks few_mutexes fits = tt
served_is_reply n m version S a (ops.SetCeiling k p) few_tasks few_mutexes fits = tt

unless_is_reply : (tests : List (Bool × Refusal)) (r : Reply) → IsReply r → IsReply (unless tests r)
unless_is_reply [] r last = last
unless_is_reply ((true, e) ∷ tests) r last = tt
unless_is_reply ((false, e) ∷ tests) r last = unless_is_reply tests r last

-- ---- what is asked in a run of a script

-- an operation of a text of this version
abbrev IsOpOf : ℕ → Op → Type 0
IsOpOf version op = IsOp op × (op_since op ≤ version)

-- a step of a text of this version, by one of this many tasks
abbrev IsAskedOf : ℕ → ℕ → Entry → Type 0
IsAskedOf version n e = (1 ≤ e.step.actor) × (e.step.actor ≤ n) × IsOpOf version e.step.op

-- a step line of a text of this version
abbrev IsLineOf : ℕ → Line → Type 0
IsLineOf version line = IsLine line × BelongsTo version line

-- all step lines are of the version
abbrev HasOpsOf : ℕ → List StepLine → Type 0
HasOpsOf version ls = AllByRecursion (λ (l : StepLine). IsOpOf version l.step.op) ls

script_ops : (version a : ℕ) (ls : List StepLine) → HasOpsOf version ls → AllByRecursion (IsOpOf version) (script_of ls a)
script_ops version a [] all = tt
script_ops version a (l ∷ ls) all = go (l.step.actor == a) (script_ops version a ls all.1)
  where
    rest : List StepLine
    rest = filter (λ (l : StepLine). l.step.actor == a) ls

    go :
        (b : Bool)
        → AllByRecursion (IsOpOf version) (script_of ls a)
        → AllByRecursion (IsOpOf version) (map (λ (l : StepLine). l.step.op) (cond b (l ∷ rest) rest))
    go true later = (all.0, later)
    go false later = later

-- what each task asks for is what all ask for
each_asks :
    (Q : Op → Type 0) (n : ℕ) (es : List Entry)
    → AllByRecursion (λ (e : Entry). (1 ≤ e.step.actor) × (e.step.actor ≤ n)) es
    → ((a : ℕ) → 1 ≤ a → a ≤ n → AllByRecursion Q (asked_by a es))
    → AllByRecursion (λ (e : Entry). (1 ≤ e.step.actor) × (e.step.actor ≤ n) × Q e.step.op) es
each_asks Q n [] known each = tt
each_asks Q n (e ∷ es) known each =
    let actor = e.step.actor in (
      (known.0.0, known.0.1, here (actor == actor) (eq-eqb actor actor refl) (each actor known.0.0 known.0.1)),
      each_asks Q n es known.1 (λ a low high. later a (actor == a) (each a low high)),
    )
  where
    others : ℕ → List Entry
    others a = filter (λ (x : Entry). x.step.actor == a) es

    here :
        (b : Bool)
        → b ≡ true
        → AllByRecursion Q (map (λ (x : Entry). x.step.op) (cond b (e ∷ others e.step.actor) (others e.step.actor)))
        → Q e.step.op
    here true is all = all.0
    here false is all = cc

    later :
        (a : ℕ) (b : Bool)
        → AllByRecursion Q (map (λ (x : Entry). x.step.op) (cond b (e ∷ others a) (others a)))
        → AllByRecursion Q (asked_by a es)
    later a true all = all.1
    later a false all = all

-- ---- the lines

step_line :
    (n m version : ℕ) (S : State) (e : Entry)
    → n < 2 ^ 16
    → m < 2 ^ 16
    → 1 ≤ version
    → Fits n m version S
    → IsAskedOf version n e
    → e.reply ≡ reply_of S e.step
    → IsLineOf version (lines.Step (entry_line e))
step_line n m version S e few_tasks few_mutexes low fits asked reply =
    let step = e.step in
    let is : IsReply e.reply =
    subst IsReply (sym reply)
    (unless_is_reply (first_checks S step) (answer S step.actor step.op)
    (unless_is_reply (checks S step.actor step.op) (served S step.actor step.op)
    (served_is_reply n m version S step.actor step.op few_tasks few_mutexes fits))) in
    let since : reply_since e.reply ≤ version =
    omega (arith, ap reply_since reply, reply_of-since S version fits.protocols step low asked.2.1) in
    (((asked.0, omega (arith, asked.1, few_tasks)), asked.2.0, is), omega (arith, since, asked.2.1))

step_lines :
    (n m version : ℕ) (S end : State) (es : List Entry)
    → n < 2 ^ 16
    → m < 2 ^ 16
    → 1 ≤ version
    → Fits n m version S
    → IsRun S es end
    → AllByRecursion (IsAskedOf version n) es
    → AllByRecursion (IsLineOf version) (map lines.Step (map entry_line es))
step_lines n m version S end [] few_tasks few_mutexes low fits run asked = tt
step_lines n m version S end (e ∷ es) few_tasks few_mutexes low fits run asked =
    let next = fits_after n m version S e.step fits in (
      step_line n m version S e few_tasks few_mutexes low fits asked.0 run.0,
      step_lines n m version (after S e.step) end es few_tasks few_mutexes low next run.1 asked.1,
    )

op_of_line : (version : ℕ) (ls : List StepLine) → AllByRecursion IsLine (map lines.Step ls) → AllByRecursion (BelongsTo version) (map lines.Step ls)
    → HasOpsOf version ls
op_of_line version [] is belongs = tt
op_of_line version (l ∷ ls) is belongs = ((is.0.1, omega (arith, belongs.0)), op_of_line version ls is.1 belongs.1)

-- the operations of a run of a script exist in texts of the script's version
run_asks : (t : Trace) (es : List Entry) → IsWithinLimits t → IsInterleaving es (scripts_of t) → AllByRecursion (IsAskedOf t.version (length t.bases)) es
run_asks t es limits mixed =
    let n = length t.bases in
    let Acts : ℕ → Entry → Type 0 = λ most e. (1 ≤ e.step.actor) × (e.step.actor ≤ most) in
    let entries = recursion_from_All (Acts (length (scripts_of t))) es mixed.no_other in
    let known = subst (λ m. AllByRecursion (Acts m) es) (length-map-range_with_len (script_of t.steps) 1 n) entries in
    let asked = op_of_line t.version t.steps (steps_of IsLine limits.each) (steps_of (BelongsTo t.version) limits.belongs) in
    each_asks (IsOpOf t.version) n es known
    (λ a low high. subst (AllByRecursion (IsOpOf t.version)) (sym (mixed.each a (script_of t.steps a) (each_script t a low high)))
    (with_release t.version (script_of t.steps a) (script_ops t.version a t.steps asked) limits.version.0))
  where
    steps_of : (P : Line → Type 0) → AllByRecursion P (declared t) → AllByRecursion P (map lines.Step t.steps)
    steps_of P all = last_part P (mutex_lines 1 t.protocols) _ (last_part P (task_lines 1 t.bases) _ all)

    with_release :
        (version : ℕ) (asked : List Op)
        → AllByRecursion (IsOpOf version) asked
        → 1 ≤ version
        → AllByRecursion (IsOpOf version) (asked ++ ops.ReleaseAll ∷ [])
    with_release version [] all first = ((tt, first), tt)
    with_release version (op ∷ asked) all first = (all.0, with_release version asked all.1 first)

-- the protocols of mutex lines of the version
declared_since :
    (version n : ℕ) (protocols : List Protocol) (i : ℕ)
    → 1 ≤ version
    → AllByRecursion (BelongsTo version) (mutex_lines n protocols)
    → protocol_since (unwrap_or (slice_get protocols i) Protocol.None) ≤ version
declared_since version n [] i low all = low
declared_since version n (p ∷ ps) zero low all = all.0
declared_since version n (p ∷ ps) (suc i) low all = declared_since version (n + 1) ps i low all.1

pub recorded_trace_law : RecordedTraceLaw
recorded_trace_law t es limits run few =
    let n = length t.bases in
    let m = length t.protocols in
    let tasks : n < 2 ^ 16 = omega (arith, limits.tasks, most_tasks) in
    let mutexes : m < 2 ^ 16 = omega (arith, limits.mutexes, most_mutexes) in
    let begin : Fits n m t.version (start t.bases t.protocols 1) = record {
      steady = start_law t.bases t.protocols 1;
      tasks = refl;
      mutexes = refl;
      protocols = protocols_of;
    } in
    let asked = run_asks t es limits run.interleaving in
    let lines = step_lines n m t.version _ run.run.0 es tasks mutexes limits.version.0 begin run.run.1 asked in
    record {
      version = limits.version;
      tasks = limits.tasks;
      mutexes = limits.mutexes;
      steps = omega (arith, few, length-map es entry_line);
      each = with_steps IsLine limits.each (all_each (IsLineOf t.version) IsLine (λ l h. h.0) _ lines);
      belongs = with_steps (BelongsTo t.version) limits.belongs (all_each (IsLineOf t.version) (BelongsTo t.version) (λ l h. h.1) _ lines);
    }
  where
    most_tasks : MAX_TASKS < 2 ^ 16
    most_tasks = omega arith

    most_mutexes : MAX_MUTEXES < 2 ^ 16
    most_mutexes = omega arith

    -- the declared mutexes are of protocols that the version has, and an unknown one is NONE
    protocols_of : HasProtocolsOf t.version (start t.bases t.protocols 1)
    protocols_of zero = limits.version.0
    protocols_of (suc i) =
        declared_since t.version 1 t.protocols i limits.version.0
        (first_part (BelongsTo t.version) (mutex_lines 1 t.protocols) _ (last_part (BelongsTo t.version) (task_lines 1 t.bases) _ limits.belongs))

    with_steps :
        (P : Line → Type 0)
        → AllByRecursion P (declared t)
        → AllByRecursion P (map lines.Step (map entry_line es))
        → AllByRecursion P (declared (recording t es))
    with_steps P all last =
        other_last_part P (task_lines 1 t.bases) _ _ all
        (other_last_part P (mutex_lines 1 t.protocols) _ _ (last_part P (task_lines 1 t.bases) _ all) last)
