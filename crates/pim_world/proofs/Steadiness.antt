-- The world after each text is steady.
use Rattle.std.proofs.Common.{◌≡◌, ℕ, zero, suc, ◌++◌, List, [], ◌∷◌, Bool, true, false, not, cond}
use Rattle.std.proofs.Common.{length, length-append, Option, Some, None, is_none, inl, inr, refl}
use Rattle.std.proofs.Common.{sym, ◌∙◌, ap, subst, arith, if◌then◌else◌}
use Rattle.std.specs.Prelude.{◌+◌}
use Rattle.std.specs.List.{fold}
use Rattle.std.specs.Option.{option_map}
use Rattle.std.proofs.lemmas.Bool.{cases_eq, cases_lt, ne_eqb, eq-eqb, and_parts}
use Rattle.std.proofs.lemmas.Option.{same_Some, none-some}
use Rattle.pim_base.specs.Lists.{nth}
use Rattle.pim_base.specs.State.{State, IsTask, owner_of, with_wait, with_ceiling}
use Rattle.pim_base.proofs.Places.{nth_within}
use Rattle.pim_fact_lines.specs.declared.line.Line.{Line}
use Rattle.pim_fact_lines.specs.declared.line.Line.TheVariants as lines
use Rattle.pim_fact_lines.specs.declared.line.What.{What}
use Rattle.pim_fact_lines.specs.declared.line.What.TheVariants as whats
use Rattle.pim_fact_lines.specs.Lines.{given, line_of}
use Rattle.pim_fact_lines.specs.Texts.{is_header}
use Rattle.pim_waits.specs.Model.{wait_for, protocol_in_model}
use Rattle.pim_waits.proofs.Lists.{nth-left, nth-last}
use Rattle.pim_waits.proofs.Whole.{whole_thread, whole_mutex}
use Rattle.pim_world.specs.Worlds.{World, Kernel, no_world, is_on}
use Rattle.pim_world.specs.Following.{declared, may_happen, may_be_next, may_follow}
use Rattle.pim_world.specs.After.{after, after_what, at, at_time, set, locked, unlocked, with_state}
use Rattle.pim_world.specs.Texts.{line_after, lines_after}
use Rattle.pim_world.specs.Laws.{SteadyLaw}
use Rattle.pim_world.specs.Steady.{IsSteadyKernel, IsSteady}
use Rattle.pim_world.proofs.Cpus.{steady_runs, steady_forgotten, steady_more, steady_on, steady_off}
use Rattle.pim_world.proofs.States.{IsLike, like_wait, like_base, like_ceiling, like_locked}
use Rattle.pim_world.proofs.States.{like_unlocked, like_then}

-- ---- declarations

-- one that was added last has this number
declared_last :
    {P Q : ℕ → Type 0} (place : ℕ → Option ℕ) (number last : ℕ)
    → ((k t : ℕ) → place k ≡ Some t → P t)
    → ((t : ℕ) → P t → Q t)
    → Q last
    → (k t : ℕ) → set number (Some last) place k ≡ Some t → Q t
declared_last {Q = Q} place number last before more is k t e = elim (cases_eq number k) [
  | inl same ↦ subst Q (same_Some last t
      (sym (ap (λ b. cond b (Some last) (place k)) (eq-eqb number k same)) ∙ e)) is
  | inr other ↦
      more t (before k t (sym (ap (λ b. cond b (Some last) (place k)) (ne_eqb number k other)) ∙ e))
]

-- the thread at each place is the one of its number, with one thread more, whose number is new
places_more :
    (place : ℕ → Option ℕ) (threads : List ℕ) (number last : ℕ)
    → ((n t : ℕ) → nth threads t ≡ Some n → place n ≡ Some t)
    → place number ≡ None
    → last ≡ length threads + 1
    → (n t : ℕ) → nth (threads ++ number ∷ []) t ≡ Some n → set number (Some last) place n ≡ Some t
places_more place threads number last before new one n t e = elim (cases_lt (length threads) t) [
  | inr old ↦
      let there : place n ≡ Some t = before n t (sym (nth-left threads (number ∷ []) t old) ∙ e) in
      let other : number ≡ n → ⊥ = λ same. none-some t (sym new ∙ ap place same ∙ there) in
      ap (λ b. cond b (Some last) (place n)) (ne_eqb number n other) ∙ there
  | inl late ↦
      let within = nth_within (threads ++ number ∷ []) t n e in
      let is : t ≡ suc (length threads) =
      omega (arith, within.1, late, length-append threads (number ∷ [])) in
      let same : number ≡ n = same_Some number n
      (sym (ap (nth (threads ++ number ∷ [])) is ∙ nth-last threads number) ∙ e) in
      ap (λ b. cond b (Some last) (place n)) (eq-eqb number n same)
      ∙ ap Some (omega (arith, one, is))
]

steady_thread :
    (w : World) (t level : ℕ)
    → w.thread t ≡ None
    → IsSteady w
    → IsSteady (after w (lines.Thread t level))
steady_thread w t level new s =
    let len : length (w.state.base ++ level ∷ []) ≡ length w.state.base + 1 =
    length-append w.state.base (level ∷ []) in
    record {
      state = whole_thread w.state level s.state;
      tasks =
          declared_last w.thread t (length (w.state.base ++ level ∷ [])) s.tasks
          (λ u task. omega (arith, task, len)) (omega (arith, len));
      mutexes = s.mutexes;
      numbered = length-append w.threads (t ∷ []) ∙ ap (λ n. n + 1) s.numbered ∙ sym len;
      places =
          places_more w.thread w.threads t (length (w.state.base ++ level ∷ [])) s.places new
          (omega (arith, len, s.numbered));
      kernel =
          subst (IsSteadyKernel _) (sym len) (steady_more w.kernel (length w.state.base) s.kernel);
    }

steady_mutex :
    (w : World) (m : ℕ) (is_recursive : Bool) (protocol : _)
    → IsSteady w
    → IsSteady (after w (lines.Mutex m is_recursive protocol))
steady_mutex w m is_recursive protocol s =
    let p = protocol_in_model protocol in
    let len : length (w.state.protocol ++ p ∷ []) ≡ length w.state.protocol + 1 =
    length-append w.state.protocol (p ∷ []) in
    record {
      state = whole_mutex w.state p s.state;
      tasks = s.tasks;
      mutexes =
          declared_last w.mutex m (length (w.state.protocol ++ p ∷ [])) s.mutexes
          (λ k is. omega (arith, is, len)) (omega (arith, len));
      numbered = s.numbered;
      places = s.places;
      kernel = s.kernel;
    }

-- ---- what happens to a thread

-- another state, of as many threads and mutexes
steady_state : (w : World) (S : State) → IsSteady w → IsLike w.state S → IsSteady (with_state w S)
steady_state w S s like = record {
  state = like.whole;
  tasks = λ n t e. let task = s.tasks n t e in omega (arith, task, like.tasks);
  mutexes = λ n m e. let mutex = s.mutexes n m e in omega (arith, mutex, like.mutexes);
  numbered = s.numbered ∙ sym like.tasks;
  places = s.places;
  kernel = subst (IsSteadyKernel w.kernel) (sym like.tasks) s.kernel;
}

steady_kernel :
    (w : World) (k : Kernel)
    → IsSteady w
    → IsSteadyKernel k (length w.state.base)
    → IsSteady (record w { kernel = k })
steady_kernel w k s kernel = record {
  state = s.state;
  tasks = s.tasks;
  mutexes = s.mutexes;
  numbered = s.numbered;
  places = s.places;
  kernel = kernel;
}

steady_at :
    (place : Option ℕ) (w : World) (S : ℕ → State)
    → IsSteady w
    → ((m : ℕ) → IsLike w.state (S m))
    → IsSteady (at place (λ m w'. with_state w' (S m)) w)
steady_at None w S s like = s
steady_at (Some m) w S s like = steady_state w (S m) s (like m)

steady_what :
    (what : What) (t : ℕ) (w : World)
    → IsTask w.state t
    → ((cpu : ℕ) → what ≡ whats.On cpu → not (is_on w.kernel t) ≡ true)
    → IsSteady w
    → IsSteady (after_what what t w)
steady_what (whats.Granted m) t w task may s =
    steady_at (w.mutex m) w (λ m. locked (with_wait w.state t None) t m) s
    (λ m.
    let free = like_wait w.state t None s.state in
    like_then w.state (with_wait w.state t None) _ free
    (like_locked (with_wait w.state t None) t m task free.whole))
steady_what (whats.Took m) t w task may s =
    steady_at (w.mutex m) w (λ m. locked w.state t m) s (λ m. like_locked w.state t m task s.state)
steady_what (whats.Waits m) t w task may s =
    steady_at (w.mutex m) w
    (λ m. with_wait w.state t (Some (wait_for m))) s (λ m. like_wait w.state t _ s.state)
steady_what (whats.GaveUp m) t w task may s = steady_state w _ s (like_wait w.state t None s.state)
steady_what (whats.Released m) t w task may s =
    steady_at (w.mutex m) w (λ m. unlocked w.state m) s (λ m. like_unlocked w.state m s.state)
steady_what (whats.Priority level) t w task may s =
    steady_state w _ s (like_base w.state t level s.state)
steady_what (whats.Ceiling m level) t w task may s =
    steady_at (w.mutex m) w
    (λ m. with_ceiling w.state m level) s (λ m. like_ceiling w.state m level s.state)
steady_what (whats.Blocks x) t w task may s = s
steady_what (whats.Resumes x ended) t w task may s = s
steady_what (whats.Runs level) t w task may s =
    steady_kernel w _ s (steady_runs w.kernel (length w.state.base) t level s.kernel)
steady_what (whats.On cpu) t w task may s =
    steady_kernel w _ s
    (steady_on w.kernel (length w.state.base) t cpu task (may cpu refl) s.kernel)
steady_what whats.OffReady t w task may s =
    steady_kernel w _ s (steady_off w.kernel (length w.state.base) t _ s.kernel)
steady_what whats.OffAsleep t w task may s =
    steady_kernel w _ s (steady_off w.kernel (length w.state.base) t _ s.kernel)

-- ---- lines

none_from : {A : Type 0} (o : Option A) → is_none o ≡ true → o ≡ None
none_from None e = refl
none_from (Some x) e = cc

steady_fact :
    (w : World) (time t : ℕ) (what : What)
    → may_be_next w (lines.Fact time t what) ≡ true
    → IsSteady w
    → IsSteady (after w (lines.Fact time t what))
steady_fact w time t what may s = go (w.thread t) refl may
  where
    go :
        (place : Option ℕ)
        → w.thread t ≡ place
        → declared place (λ p. may_happen w p what) ≡ true
        → IsSteady (at place (after_what what) (at_time time w))
    go None is may = s
    go (Some p) is may =
        steady_what what p (at_time time w) (s.tasks t p is)
        (λ cpu on. (and_parts (not (is_on w.kernel p))
        (is_none (w.kernel.on cpu)) (subst (λ what. may_happen w p what ≡ true) on may)).0) s

pub steady_after :
    (w : World) (line : Line)
    → may_be_next w line ≡ true
    → IsSteady w
    → IsSteady (after w line)
steady_after w (lines.Thread t level) may s =
    steady_thread w t level (none_from (w.thread t) (and_parts (is_none (w.thread t)) _ may).0) s
steady_after w (lines.Mutex m is_recursive protocol) may s =
    steady_mutex w m is_recursive protocol s
steady_after w (lines.Object x) may s = s
steady_after w lines.Unseen may s = s
steady_after w (lines.Fact time t what) may s = steady_fact w time t what may s
steady_after w (lines.Lost time) may s =
    steady_kernel w _ s (steady_forgotten w.kernel (length w.state.base) s.kernel)
steady_after w (lines.End time) may s = s

no_owner : (m : ℕ) → owner_of no_world.state m ≡ None
no_owner zero = refl
no_owner (suc i) = refl

no_number : (n t : ℕ) → nth no_world.threads t ≡ Some n → ⊥
no_number n zero e = none-some n e
no_number n (suc i) e = none-some n e

pub steady_first : IsSteady no_world
steady_first = record {
  state = record {
    lists = record { waits = refl; owners = refl; counts = refl };
    owners = λ m t e. absurd (none-some t (sym (no_owner m) ∙ e));
  };
  tasks = λ n t e. absurd (none-some t e);
  mutexes = λ n m e. absurd (none-some m e);
  numbered = refl;
  places = λ n t e. absurd (no_number n t e);
  kernel = record { cpus = refl; offs = refl; on = λ cpu t e. absurd (none-some t e) };
}

-- ---- texts

-- a line that is read may follow
pub line_follows :
    (w : World) (bytes : List ℕ) (line : Line)
    → line_after w bytes ≡ Some line
    → may_be_next w line ≡ true
line_follows w bytes line e = go (line_of bytes) e
  where
    go :
        (o : Option Line)
        → given o (λ line. if may_follow w line then Some line else None) ≡ Some line
        → may_be_next w line ≡ true
    go None e = cc
    go (Some other) e = test (may_follow w other) refl e
      where
        test :
            (b : Bool)
            → may_follow w other ≡ b
            → cond b (Some other) None ≡ Some line
            → may_be_next w line ≡ true
        test false is e = cc
        test true is e =
            let same : other ≡ line = same_Some other line e in
            subst (λ line. may_be_next w line ≡ true) same
            (and_parts (not w.has_ended) (may_be_next w other) is).1

pub steady_lines :
    (bytes : List (List ℕ)) (w : World) (ls : List Line)
    → lines_after w bytes ≡ Some ls
    → IsSteady w
    → IsSteady (fold after w ls)
steady_lines [] w ls e s = subst (λ ls. IsSteady (fold after w ls)) (same_Some [] ls e) s
steady_lines (first ∷ bytes) w ls e s = go (steady_lines bytes) (line_after w first) refl e
  where
    more :
        (line : Line) (o : Option (List Line))
        → ((ls : List Line) → o ≡ Some ls → IsSteady (fold after (after w line) ls))
        → option_map (λ more. line ∷ more) o ≡ Some ls
        → IsSteady (fold after w ls)
    more line None rest e = cc
    more line (Some ls') rest e =
        subst (λ ls. IsSteady (fold after w ls)) (same_Some (line ∷ ls') ls e) (rest ls' refl)

    go :
        ((w : World) (ls : List Line)
        → lines_after w bytes ≡ Some ls → IsSteady w → IsSteady (fold after w ls))
        → (o : Option Line)
        → line_after w first ≡ o
        → given o (λ line. option_map (λ more. line ∷ more) (lines_after (after w line) bytes))
        ≡ Some ls
        → IsSteady (fold after w ls)
    go rest None is e = cc
    go rest (Some line) is e =
        more line (lines_after (after w line) bytes)
        (λ ls' e'.
        rest (after w line) ls' e' (steady_after w line (line_follows w first line is) s)) e

pub steady_law : SteadyLaw
steady_law [] ls e = cc
steady_law (first ∷ bytes) ls e = go (is_header first) e
  where
    go :
        (b : Bool)
        → cond b (lines_after no_world bytes) None ≡ Some ls
        → IsSteady (fold after no_world ls)
    go false e = cc
    go true e = steady_lines bytes no_world ls e steady_first
