-- Each wait has one row.
use Rattle.std.proofs.Common.{◌≡◌, ◌≢◌, ℕ, zero, suc, ◌+◌, ◌-◌, ◌≤◌, ◌<◌, ◌==◌, Bool, true, false, not, ◌&&◌}
use Rattle.std.proofs.Common.{cond, List, [], ◌∷◌, ◌++◌, length, Option, Some, None, is_some, is_none}
use Rattle.std.proofs.Common.{unwrap_or, nat_lt, refl, sym, ◌∙◌, ap, subst, arith, inl, inr, ◌⊎◌}
use Rattle.std.proofs.Common.{if◌then◌else◌, map, flat_map, zero-add}
use Rattle.std.specs.Prelude.{count_by, sum_by}
use Rattle.std.specs.List.{fold, filter}
use Rattle.std.specs.Option.{option_map_or, option_map}
use Rattle.std.proofs.lemmas.Bool.{cases_eq, ne_eqb, eq-eqb, and_parts}
use Rattle.std.proofs.lemmas.Option.{same_Some, none-some}
use Rattle.std.proofs.lemmas.List.{length-append}
use Rattle.std.proofs.lemmas.List.Sums.{sum_by-cons, sum_by-append, sum_by_push}
use Rattle.pim_base.specs.Lists.{nth, put, numbers, insert_by, sort_by}
use Rattle.pim_base.specs.State.{State, IsTask, wait_of, owner_of, count_of, with_owner, with_count}
use Rattle.pim_base.specs.State.{with_wait}
use Rattle.pim_base.specs.declared.steps.Protocol.{Protocol}
use Rattle.pim_base.specs.declared.steps.Wait.{Wait}
use Rattle.pim_base.proofs.Greatest.{numbers-more}
use Rattle.pim_base.proofs.Places.{nth-put_same, nth_within, length-put}
use Rattle.pim_fact_lines.specs.Lines.{given}
use Rattle.pim_fact_lines.specs.Texts.{is_header}
use Rattle.pim_fact_lines.specs.declared.line.Line.{Line}
use Rattle.pim_fact_lines.specs.declared.line.Line.TheVariants as lines
use Rattle.pim_fact_lines.specs.declared.line.What.{What}
use Rattle.pim_fact_lines.specs.declared.line.What.TheVariants as whats
use Rattle.pim_waits.specs.Model.{wait_for, protocol_in_model}
use Rattle.pim_waits.proofs.Lists.{nth-left, nth-last}
use Rattle.pim_waits.proofs.Whole.{option-put}
use Rattle.pim_world.specs.Worlds.{World, no_world, is_idle, owns, is_recursive}
use Rattle.pim_world.specs.Standing.{thread_number, mutex_number, waits}
use Rattle.pim_world.specs.Steady.{IsSteady}
use Rattle.pim_world.specs.Following.{declared, may_happen, may_be_next}
use Rattle.pim_world.specs.After.{after, after_what, at, at_time, set, locked, unlocked, with_state}
use Rattle.pim_world.specs.Texts.{line_after, lines_after}
use Rattle.pim_world.proofs.Steadiness.{steady_after, steady_first, line_follows}
use Rattle.pim_rows.specs.Moments.{Moment, now, number, first_moments, followed_by, began}
use Rattle.pim_rows.specs.Begun.{WaitStart, wait_start, awaited}
use Rattle.pim_rows.specs.Found.{actor, of_fact, all_sections, nests}
use Rattle.pim_rows.specs.Rows.{Row, by_number, granted, resumed, ended_rows, ended_run}
use Rattle.pim_rows.specs.Rows.{lasting_wait, wait_rows, section_row, nests_row, deadlock_rows}
use Rattle.pim_rows.specs.Rows.{end_row, all_rows, rows_of, moments_of, row, cycle, is_first_of_cycle}
use Rattle.pim_rows.specs.declared.row.Word.TheVariants as words
use Rattle.pim_rows.specs.Tallies.{tally}
use Rattle.pim_rows.specs.EachWait.{says_waits, is_wait_at, has_start, is_row_at, EachWaitLaw}
use Rattle.pim_rows.proofs.Frames.{wait-after, at_kept, by_grant, by_take, by_wait, by_release, by_ceiling}
use Rattle.pim_rows.proofs.Frames.{wait-locked, wait-unlocked}
use Rattle.pim_rows.proofs.NoWaits.{count-flat_map, count-ended_run}
use Rattle.pim_rows.proofs.Appended.{count-wait_rows, none_counted}
use Rattle.pim_rows.proofs.Finishing.{all_counted}

-- ---- sums over places

sum-insert_by :
    (f : ℕ → ℕ) (lower : ℕ → ℕ → Bool) (ys : List ℕ) (x : ℕ)
    → sum_by f (insert_by lower ys x) ≡ f x + sum_by f ys
sum-insert_by f lower [] x = sum_by-cons f x []
sum-insert_by f lower (y ∷ ys) x = go (lower x y) (sum-insert_by f lower ys x)
  where
    go :
        (b : Bool)
        → sum_by f (insert_by lower ys x) ≡ f x + sum_by f ys
        → sum_by f (cond b (x ∷ y ∷ ys) (y ∷ insert_by lower ys x)) ≡ f x + sum_by f (y ∷ ys)
    go true rest = sum_by-cons f x (y ∷ ys)
    go false rest =
        let one = sum_by-cons f y (insert_by lower ys x) in
        let all = sum_by-cons f y ys in
        omega (arith, one, all, rest)

sum-sort_from :
    (f : ℕ → ℕ) (lower : ℕ → ℕ → Bool) (ys xs : List ℕ)
    → sum_by f (fold (insert_by lower) ys xs) ≡ sum_by f ys + sum_by f xs
sum-sort_from f lower ys [] = omega arith
sum-sort_from f lower ys (x ∷ xs) =
    let rest = sum-sort_from f lower (insert_by lower ys x) xs in
    let one = sum-insert_by f lower ys x in
    let all = sum_by-cons f x xs in
    omega (arith, rest, one, all)

-- what the items add up to doesn't depend on their order
sum-sort_by :
    (f : ℕ → ℕ) (lower : ℕ → ℕ → Bool) (xs : List ℕ)
    → sum_by f (sort_by lower xs) ≡ sum_by f xs
sum-sort_by f lower xs = sum-sort_from f lower [] xs ∙ zero-add (sum_by f xs)

count-each :
    (p : Row → Bool) (f : ℕ → List Row) (g : ℕ → ℕ)
    → ((x : ℕ) → count_by p (f x) ≡ g x) → (xs : List ℕ)
    → count_by p (flat_map f xs) ≡ sum_by g xs
count-each p f g each [] = refl
count-each p f g each (x ∷ xs) =
    let front : count_by p (flat_map f (x ∷ xs)) ≡ count_by p (f x) + count_by p (flat_map f xs) =
    sum_by-append (λ r. cond (p r) 1 0) (f x) (flat_map f xs) in
    let rest = count-each p f g each xs in
    let all = sum_by-cons g x xs in
    omega (arith, front, each x, rest, all)

sum_more : (f : ℕ → ℕ) (n : ℕ) → sum_by f (numbers (n + 1)) ≡ sum_by f (numbers n) + f (n + 1)
sum_more f n = ap (sum_by f) (numbers-more n) ∙ sum_by_push f (numbers n) (n + 1)

sum_same :
    (f g : ℕ → ℕ) (n : ℕ)
    → ((x : ℕ) → f x ≡ g x)
    → sum_by f (numbers n) ≡ sum_by g (numbers n)
sum_same f g zero same = refl
sum_same f g (suc n) same =
    let e : n + 1 ≡ suc n = omega arith in
    subst (λ k. sum_by f (numbers k) ≡ sum_by g (numbers k)) e
    (let a = sum_more f n in let b = sum_more g n in
    omega (arith, a, b, sum_same f g n same, same (n + 1)))

-- one place differs by this much
sum_but :
    (f g : ℕ → ℕ) (n a c d : ℕ)
    → 1 ≤ a
    → a ≤ n
    → ((x : ℕ) → a ≢ x → f x ≡ g x)
    → c + f a ≡ g a + d
    → c + sum_by f (numbers n) ≡ sum_by g (numbers n) + d
sum_but f g zero a c d low high same here = absurd (omega (arith, low, high))
sum_but f g (suc n) a c d low high same here =
    let e : n + 1 ≡ suc n = omega arith in
    subst (λ k. c + sum_by f (numbers k) ≡ sum_by g (numbers k) + d) e
    (elim (cases_eq a (n + 1)) [
      | inl last ↦
          let others : sum_by f (numbers n) ≡ sum_by g (numbers n) = below n (omega arith) in
          let here : c + f (n + 1) ≡ g (n + 1) + d =
          subst (λ k. c + f k ≡ g k + d) last here in
          omega (arith, sum_more f n, sum_more g n, others, here)
      | inr other ↦
          let rest : c + sum_by f (numbers n) ≡ sum_by g (numbers n) + d =
          sum_but f g n a c d low (omega (arith, high, other)) same here in
          omega (arith, sum_more f n, sum_more g n, rest, same (n + 1) other)
    ])
  where
    below : (k : ℕ) → k + 1 ≤ a → sum_by f (numbers k) ≡ sum_by g (numbers k)
    below zero small = refl
    below (suc k) small =
        let e : k + 1 ≡ suc k = omega arith in
        subst (λ j. sum_by f (numbers j) ≡ sum_by g (numbers j)) e
        (omega (
          arith,
          sum_more f k,
          sum_more g k,
          below k (omega (arith, small)),
          same (k + 1) (λ is. omega (arith, is, small)),
        ))

-- ---- numbers and places

-- the number is in the list, at its place
abbrev AreNumbered : (ℕ → Option ℕ) → List ℕ → Type 0
AreNumbered place ns = (n p : ℕ) → place n ≡ Some p → nth ns p ≡ Some n

numbered_more :
    (place : ℕ → Option ℕ) (ns : List ℕ) (number last : ℕ)
    → AreNumbered place ns
    → last ≡ suc (length ns)
    → AreNumbered (set number (Some last) place) (ns ++ number ∷ [])
numbered_more place ns number last before one n p e = elim (cases_eq number n) [
  | inl same ↦
      let here : last ≡ p = same_Some last p
      (sym (ap (λ b. cond b (Some last) (place n)) (eq-eqb number n same)) ∙ e) in
      ap (nth (ns ++ number ∷ [])) (sym here ∙ one) ∙ nth-last ns number ∙ ap Some same
  | inr other ↦
      let old : nth ns p ≡ Some n = before n p
      (sym (ap (λ b. cond b (Some last) (place n)) (ne_eqb number n other)) ∙ e) in
      nth-left ns (number ∷ []) p (nth_within ns p n old).1 ∙ old
]

-- threads and mutexes have the numbers that declared them
record IsNumbered (w : World) : Type 0 where
  threads : AreNumbered w.thread w.threads
  mutexes : AreNumbered w.mutex w.mutexes
  counted : length w.mutexes ≡ length w.state.protocol

protocol-locked : (S : State) (t m : ℕ) → (locked S t m).protocol ≡ S.protocol
protocol-locked S t m = go (is_some (owner_of S m))
  where
    go :
        (b : Bool)
        → (cond b (with_count S m (count_of S m + 1)) (with_owner S m (Some t))).protocol
        ≡ S.protocol
    go true = refl
    go false = refl

protocol-unlocked : (S : State) (m : ℕ) → (unlocked S m).protocol ≡ S.protocol
protocol-unlocked S m = go (nat_lt 1 (count_of S m))
  where
    go :
        (b : Bool)
        → (cond b (with_count S m (count_of S m - 1)) (with_owner S m None)).protocol ≡ S.protocol
    go true = refl
    go false = refl

-- another state, with as many mutexes, at the place of a mutex
numbered_at :
    (place : Option ℕ) (w : World) (change : ℕ → World → World)
    → ((j : ℕ) → IsNumbered (change j w))
    → IsNumbered w
    → IsNumbered (at place change w)
numbered_at None w change each k = k
numbered_at (Some j) w change each k = each j

numbered_state :
    (w : World) (S : State)
    → length S.protocol ≡ length w.state.protocol
    → IsNumbered w
    → IsNumbered (with_state w S)
numbered_state w S like k = record {
  threads = k.threads;
  mutexes = k.mutexes;
  counted = k.counted ∙ sym like;
}

numbered_what : (what : What) (t : ℕ) (w : World) → IsNumbered w → IsNumbered (after_what what t w)
numbered_what (whats.Granted m) t w k =
    numbered_at (w.mutex m) w (by_grant t)
    (λ j. numbered_state w _ (ap length (protocol-locked (with_wait w.state t None) t j)) k) k
numbered_what (whats.Took m) t w k =
    numbered_at (w.mutex m) w
    (by_take t) (λ j. numbered_state w _ (ap length (protocol-locked w.state t j)) k) k
numbered_what (whats.Waits m) t w k =
    numbered_at (w.mutex m) w (by_wait t) (λ j. numbered_state w _ refl k) k
numbered_what (whats.GaveUp m) t w k = numbered_state w _ refl k
numbered_what (whats.Released m) t w k =
    numbered_at (w.mutex m) w
    by_release (λ j. numbered_state w _ (ap length (protocol-unlocked w.state j)) k) k
numbered_what (whats.Priority level) t w k = numbered_state w _ refl k
numbered_what (whats.Ceiling m level) t w k =
    numbered_at (w.mutex m) w (by_ceiling level)
    (λ j. numbered_state w _ (length-put w.state.protocol j (Protocol.Protect level)) k) k
numbered_what (whats.Blocks x) t w k =
    record { threads = k.threads; mutexes = k.mutexes; counted = k.counted }
numbered_what (whats.Resumes x ended) t w k =
    record { threads = k.threads; mutexes = k.mutexes; counted = k.counted }
numbered_what (whats.Runs level) t w k =
    record { threads = k.threads; mutexes = k.mutexes; counted = k.counted }
numbered_what (whats.On cpu) t w k =
    record { threads = k.threads; mutexes = k.mutexes; counted = k.counted }
numbered_what whats.OffReady t w k =
    record { threads = k.threads; mutexes = k.mutexes; counted = k.counted }
numbered_what whats.OffAsleep t w k =
    record { threads = k.threads; mutexes = k.mutexes; counted = k.counted }

numbered_after : (w : World) (l : Line) → IsSteady w → IsNumbered w → IsNumbered (after w l)
numbered_after w (lines.Thread t level) s k = record {
  threads =
      numbered_more w.thread w.threads t (length (w.state.base ++ level ∷ [])) k.threads
      (omega (arith, length-append w.state.base (level ∷ []), s.numbered));
  mutexes = k.mutexes;
  counted = k.counted;
}
numbered_after w (lines.Mutex m is_recursive protocol) s k =
    let p = protocol_in_model protocol in
    let len = length-append w.state.protocol (p ∷ []) in
    record {
      threads = k.threads;
      mutexes =
          numbered_more w.mutex w.mutexes m (length (w.state.protocol ++ p ∷ [])) k.mutexes
          (omega (arith, len, k.counted));
      counted = omega (arith, len, length-append w.mutexes (m ∷ []), k.counted);
    }
numbered_after w (lines.Object x) s k =
    record { threads = k.threads; mutexes = k.mutexes; counted = k.counted }
numbered_after w lines.Unseen s k = k
numbered_after w (lines.Fact time t what) s k = go (w.thread t)
  where
    timed : IsNumbered (at_time time w)
    timed = record { threads = k.threads; mutexes = k.mutexes; counted = k.counted }

    go : (place : Option ℕ) → IsNumbered (at place (after_what what) (at_time time w))
    go None = timed
    go (Some p) = numbered_what what p (at_time time w) timed
numbered_after w (lines.Lost time) s k =
    record { threads = k.threads; mutexes = k.mutexes; counted = k.counted }
numbered_after w (lines.End time) s k =
    record { threads = k.threads; mutexes = k.mutexes; counted = k.counted }

threads-after_what : (what : What) (t : ℕ) (w : World) → (after_what what t w).threads ≡ w.threads
threads-after_what (whats.Granted m) t w =
    at_kept (λ w. w.threads) (w.mutex m) (by_grant t) w (λ j. refl)
threads-after_what (whats.Took m) t w =
    at_kept (λ w. w.threads) (w.mutex m) (by_take t) w (λ j. refl)
threads-after_what (whats.Waits m) t w =
    at_kept (λ w. w.threads) (w.mutex m) (by_wait t) w (λ j. refl)
threads-after_what (whats.GaveUp m) t w = refl
threads-after_what (whats.Released m) t w =
    at_kept (λ w. w.threads) (w.mutex m) by_release w (λ j. refl)
threads-after_what (whats.Priority level) t w = refl
threads-after_what (whats.Ceiling m level) t w =
    at_kept (λ w. w.threads) (w.mutex m) (by_ceiling level) w (λ j. refl)
threads-after_what (whats.Blocks x) t w = refl
threads-after_what (whats.Resumes x ended) t w = refl
threads-after_what (whats.Runs level) t w = refl
threads-after_what (whats.On cpu) t w = refl
threads-after_what whats.OffReady t w = refl
threads-after_what whats.OffAsleep t w = refl

-- ---- lines that may follow

-- each line may follow those before it
abbrev Follow : World → List Line → Type 0
Follow w [] = Unit {0}
Follow w (l ∷ ls) = (may_be_next w l ≡ true) × Follow (after w l) ls

follow :
    (bytes : List (List ℕ)) (w : World) (ls : List Line)
    → lines_after w bytes ≡ Some ls
    → Follow w ls
follow [] w ls e = subst (Follow w) (same_Some [] ls e) tt
follow (first ∷ bytes) w ls e = go (follow bytes) (line_after w first) refl e
  where
    more :
        (line : Line) (o : Option (List Line))
        → may_be_next w line ≡ true
        → ((ls : List Line) → o ≡ Some ls → Follow (after w line) ls)
        → option_map (λ more. line ∷ more) o ≡ Some ls
        → Follow w ls
    more line None may rest e = cc
    more line (Some ls') may rest e =
        subst (Follow w) (same_Some (line ∷ ls') ls e) (may, rest ls' refl)

    go :
        ((w : World) (ls : List Line) → lines_after w bytes ≡ Some ls → Follow w ls)
        → (o : Option Line)
        → line_after w first ≡ o
        → given o (λ line. option_map (λ more. line ∷ more) (lines_after (after w line) bytes))
        ≡ Some ls
        → Follow w ls
    go rest None is e = cc
    go rest (Some line) is e =
        more line (lines_after (after w line) bytes)
        (line_follows w first line is) (λ ls' e'. rest (after w line) ls' e') e

-- ---- waits that last, end and begin

-- what is neither before nor after, or both
kept_none : (b c : Bool) (x : ℕ) → c ≡ b → cond (b && not c) x 0 ≡ 0
kept_none true true x same = refl
kept_none true false x same = absurd (let no : false ≡ true = same in cc)
kept_none false c x same = refl

not_new : (b c : Bool) (x : ℕ) → (c ≡ b) ⊎ (c ≡ false) → cond (not b && c) x 0 ≡ 0
not_new true c x either = refl
not_new false true x either = elim either [
  | inl same ↦ absurd (let no : true ≡ false = same in cc)
  | inr gone ↦ absurd (let no : true ≡ false = gone in cc)
]
not_new false false x either = refl

and_turned : (a b c : Bool) → a && (b && c) ≡ (c && b) && a
and_turned true true true = refl
and_turned true true false = refl
and_turned true false true = refl
and_turned true false false = refl
and_turned false true true = refl
and_turned false true false = refl
and_turned false false true = refl
and_turned false false false = refl

-- a thread that isn't declared doesn't wait
past_none : (S : State) (p : ℕ) → length S.wait < p → wait_of S p ≡ None
past_none S p past = go (nth S.wait p) refl
  where
    go : (o : Option (Option Wait)) → nth S.wait p ≡ o → unwrap_or o None ≡ None
    go None is = refl
    go (Some x) is = absurd (omega (arith, past, nth_within S.wait p x is))

none_some_false : {X : Type 0} (o : Option X) → is_none o ≡ true → is_some o ≡ false
none_some_false None e = refl
none_some_false (Some x) e = absurd (let no : false ≡ true = e in cc)

-- whoever has no wait from now on doesn't wait
none_put :
    (xs : List (Option Wait)) (a : ℕ)
    → is_some (unwrap_or (nth (put xs a None) a) None) ≡ false
none_put xs a = go (unwrap_or (nth (put xs a None) a) None) refl
  where
    go : (o : Option Wait) → unwrap_or (nth (put xs a None) a) None ≡ o → is_some o ≡ false
    go None is = refl
    go (Some x) is =
        absurd (none-some x (sym (ap (λ b. cond b None (unwrap_or (nth xs a) None)) (eq-eqb a a refl))
        ∙ option-put xs a a None x is))

-- whether a waits stays, or a doesn't wait any more
abbrev GoesOn : ℕ → World → World → Type 0
GoesOn a w v = (waits a v ≡ waits a w) ⊎ (waits a v ≡ false)

granted_ends :
    (place : Option ℕ) (a : ℕ) (w : World)
    → GoesOn a w (at place (by_grant a) w)
granted_ends None a w = inl refl
granted_ends (Some j) a w =
    inr (ap (λ xs. is_some (unwrap_or (nth xs a) None)) (wait-locked (with_wait w.state a None) a j)
    ∙ none_put w.state.wait a)

module _ (n t m : ℕ) where
  abbrev is_start : WaitStart → Bool
  is_start s = (s.line == n) && ((s.thread == t) && (s.mutex == m))

  -- 1 if the wait of p that began in these moments is the one at line n of t for m
  abbrev begun : ℕ → List Moment → ℕ
  begun p ms = cond (is_start (wait_start p ms)) 1 0

  -- the same of the wait of p that lasts
  abbrev lasts : List Moment → ℕ → ℕ
  lasts ms p = cond (waits p (now ms)) (begun p (began (waits p) ms)) 0

  abbrev total : List Moment → ℕ
  total ms = sum_by (lasts ms) (numbers (length (now ms).state.base))

  if_rows :
      (b : Bool) (rs : List Row) (k : ℕ)
      → count_by (is_row_at n t m) rs ≡ k
      → count_by (is_row_at n t m) (if b then rs else []) ≡ cond b k 0
  if_rows true rs k is = is
  if_rows false rs k is = refl

  count-lasting : (ms : List Moment) (p : ℕ) → count_by (is_row_at n t m) (lasting_wait ms p) ≡ lasts ms p
  count-lasting ms p =
      let start = wait_start p (began (waits p) ms) in
      if_rows (waits p (now ms)) (wait_rows start ms 0 (tally p ms)) _
      (count-wait_rows (has_start n t m) start ms 0 (tally p ms))

  count-resumed :
      (next ms : List Moment) (p : ℕ) (what : What)
      → count_by (is_row_at n t m) (resumed next ms p what) ≡ 0
  count-resumed next ms p (whats.Granted k) = refl
  count-resumed next ms p (whats.Took k) = refl
  count-resumed next ms p (whats.Waits k) = refl
  count-resumed next ms p (whats.GaveUp k) = refl
  count-resumed next ms p (whats.Released k) = refl
  count-resumed next ms p (whats.Priority level) = refl
  count-resumed next ms p (whats.Ceiling k level) = refl
  count-resumed next ms p (whats.Blocks x) = refl
  count-resumed next ms p (whats.Resumes x ended) = refl
  count-resumed next ms p (whats.Runs level) = refl
  count-resumed next ms p (whats.On cpu) = refl
  count-resumed next ms p whats.OffReady = refl
  count-resumed next ms p whats.OffAsleep = refl

  module _ (ms : List Moment) (l : Line) where
    abbrev next : List Moment
    next = followed_by ms l

    -- 1 if the wait that the line ends, begins is the one at line n of t for m
    abbrev closes : ℕ → ℕ
    closes p = cond (waits p (now ms) && not (waits p (now next))) (begun p (began (waits p) ms)) 0

    abbrev opens : ℕ → ℕ
    opens p = cond (not (waits p (now ms)) && waits p (now next)) (begun p next) 0

    count-granted : (p : ℕ) → count_by (is_row_at n t m) (granted next ms p) ≡ closes p
    count-granted p =
        let start = wait_start p (began (waits p) ms) in
        if_rows (waits p (now ms) && not (waits p (now next)))
        (wait_rows start next (number next) (tally p next)) _
        (count-wait_rows (has_start n t m) start next (number next) (tally p next))

    place_step : (p : ℕ) → closes p + lasts next p ≡ lasts ms p + opens p
    place_step p = go (waits p (now ms)) (waits p (now next))
      where
        go :
            (b c : Bool)
            → cond (b && not c) (begun p (began (waits p) ms)) 0
            + cond c (begun p (if b then began (waits p) ms else next)) 0
            ≡ cond b (begun p (began (waits p) ms)) 0 + cond (not b && c) (begun p next) 0
        go true true = omega arith
        go true false = omega arith
        go false true = omega arith
        go false false = omega arith

    quiet : (p : ℕ) → waits p (now next) ≡ waits p (now ms) → lasts next p ≡ lasts ms p
    quiet p same =
        let ended = kept_none (waits p (now ms)) (waits p (now next)) (begun p (began (waits p) ms)) same in
        let began_new = not_new (waits p (now ms)) (waits p (now next)) (begun p next) (inl same) in
        omega (arith, place_step p, ended, began_new)

    others_stay :
        (p : ℕ)
        → ((a : ℕ) → actor (now ms) l ≡ Some a → a ≢ p)
        → waits p (now next) ≡ waits p (now ms)
    others_stay p ne = ap is_some (wait-after l p (now ms) ne)

    -- a line that is of no thread
    no_actor :
        IsSteady (now ms)
        → ((a : ℕ) → actor (now ms) l ≡ Some a → ⊥)
        → (length (now next).state.base ≡ length (now ms).state.base)
        ⊎ (length (now next).state.base ≡ length (now ms).state.base + 1)
        → total next ≡ total ms
    no_actor s none many =
        let count = length (now ms).state.base in
        let same : sum_by (lasts next) (numbers (length (now next).state.base))
        ≡ sum_by (lasts ms) (numbers (length (now next).state.base)) =
        sum_same (lasts next) (lasts ms) (length (now next).state.base)
        (λ p. quiet p (others_stay p (λ a is on. none a is))) in
        elim many [
          | inl as_many ↦ same ∙ ap (λ k. sum_by (lasts ms) (numbers k)) as_many
          | inr more ↦
              let past : lasts ms (count + 1) ≡ 0 =
              ap (λ o. cond (is_some o) (begun (count + 1) (began (waits (count + 1)) ms)) 0)
              (past_none (now ms).state (count + 1) (omega (arith, s.state.lists.waits))) in
              same ∙ ap (λ k. sum_by (lasts ms) (numbers k)) more
              ∙ omega (arith, sum_more (lasts ms) count, past)
        ]

  -- ---- a line of a thread

  module _ (ms : List Moment) (time u a : ℕ) (what : What) (is : (now ms).thread u ≡ Some a)
      (s : IsSteady (now ms)) (k : IsNumbered (now ms)) where
    abbrev w : World
    w = now ms

    abbrev l : Line
    l = lines.Fact time u what

    abbrev made : List Moment
    made = followed_by ms l

    -- the world after the line
    abbrev v : World
    v = after_what what a (at_time time w)

    is_v : now made ≡ v
    is_v = ap (λ o. at o (after_what what) (at_time time w)) is

    -- a line that begins no wait
    begins_none :
        (waits a v ≡ waits a w) ⊎ (waits a v ≡ false)
        → opens ms l a ≡ 0
    begins_none either =
        not_new (waits a w) (waits a (now made)) (begun a made)
        (subst (λ x. (waits a x ≡ waits a w) ⊎ (waits a x ≡ false)) (sym is_v) either)

    as_many : IsSteady (now made) → length (now made).state.base ≡ length w.state.base
    as_many after_s =
        sym after_s.numbered
        ∙ ap length (ap (λ x. x.threads) is_v ∙ threads-after_what what a (at_time time w))
        ∙ s.numbered

    step_of_thread :
        IsSteady (now made)
        → closes ms l a + total made ≡ total ms + opens ms l a
    step_of_thread after_s =
        let task = s.tasks u a is in
        ap (λ n. closes ms l a + sum_by (lasts made) (numbers n)) (as_many after_s)
        ∙ sum_but (lasts made) (lasts ms) (length w.state.base) a (closes ms l a) (opens ms l a)
        (omega (arith, task)) (omega (arith, task))
        (λ p ne. quiet ms l p (others_stay ms l p (λ b by same.
        ne (same_Some a b (sym is ∙ by) ∙ same)))) (place_step ms l a)

    opens_wait :
        (x j : ℕ)
        → what ≡ whats.Waits x
        → w.mutex x ≡ Some j
        → is_idle w a ≡ true
        → opens ms l a ≡ cond (((x == m) && (u == t)) && (number ms + 1 == n)) 1 0
    opens_wait x j says at_j idle =
        ap (λ b. cond (not b && waits a (now made)) (begun a made) 0) was
        ∙ ap (λ b. cond b (begun a made) 0) (ap is_some awaits)
        ∙ ap
        (λ y. cond ((number ms + 1 == n) && ((y == t)
        && (mutex_number (now made) (awaited (now made) a) == m))) 1 0)
        thread
        ∙ ap (λ y. cond ((number ms + 1 == n) && ((u == t) && (y == m))) 1 0) mutex
        ∙ ap (λ b. cond b 1 0) (and_turned (number ms + 1 == n) (u == t) (x == m))
      where
        was : waits a w ≡ false
        was = none_some_false (wait_of w.state a) (and_parts (is_none (wait_of w.state a)) _ idle).0

        is_waiting : now made ≡ at (w.mutex x) (by_wait a) (at_time time w)
        is_waiting = is_v ∙ ap (λ what. after_what what a (at_time time w)) says

        task : IsTask w.state a
        task = s.tasks u a is

        awaits : wait_of (now made).state a ≡ Some (wait_for j)
        awaits =
            ap (λ y. wait_of y.state a) is_waiting
            ∙ ap (λ o. wait_of (at o (by_wait a) (at_time time w)).state a) at_j
            ∙ ap (λ o. unwrap_or o None)
            (nth-put_same w.state.wait a (Some (wait_for j))
            (omega (arith, task)) (omega (arith, task, s.state.lists.waits)))

        thread : thread_number (now made) a ≡ u
        thread =
            ap (λ y. thread_number y a) is_waiting
            ∙ ap (λ ns. unwrap_or (nth ns a) 0)
            (threads-after_what (whats.Waits x) a (at_time time w))
            ∙ ap (λ o. unwrap_or o 0) (k.threads u a is)

        mutexes : (now made).mutexes ≡ w.mutexes
        mutexes =
            ap (λ y. y.mutexes) is_waiting
            ∙ at_kept (λ y. y.mutexes) (w.mutex x) (by_wait a) (at_time time w) (λ j. refl)

        mutex : mutex_number (now made) (awaited (now made) a) ≡ x
        mutex =
            ap (λ o. mutex_number (now made) (option_map_or (λ (y : Wait). y.mutex) o 0)) awaits
            ∙ ap (λ ns. unwrap_or (nth ns j) 0) mutexes
            ∙ ap (λ o. unwrap_or o 0) (k.mutexes x j at_j)

  -- whether the line begins the wait at line n of t for m
  opened :
      (ms : List Moment) (time u a : ℕ) (what : What)
      → (now ms).thread u ≡ Some a
      → IsSteady (now ms)
      → IsNumbered (now ms)
      → may_happen (now ms) a what ≡ true
      → opens ms (lines.Fact time u what) a
      ≡ cond (says_waits t m (lines.Fact time u what) && (number ms + 1 == n)) 1 0
  opened ms time u a (whats.Granted x) is s k may =
      begins_none ms time u a (whats.Granted x) is s k
      (granted_ends ((now ms).mutex x) a (at_time time (now ms)))
  opened ms time u a (whats.Took x) is s k may =
      let w = at_time time (now ms) in
      begins_none ms time u a (whats.Took x) is s k
      (inl (at_kept (waits a) (w.mutex x) (by_take a) w
      (λ j. ap (λ xs. is_some (unwrap_or (nth xs a) None)) (wait-locked w.state a j))))
  opened ms time u a (whats.Waits x) is s k may = go ((now ms).mutex x) refl may
    where
      go :
          (place : Option ℕ)
          → (now ms).mutex x ≡ place
          → declared place (λ j. is_idle (now ms) a
          && not (owns (now ms) a j && is_recursive (now ms) j)) ≡ true
          → opens ms (lines.Fact time u (whats.Waits x)) a
          ≡ cond (((x == m) && (u == t)) && (number ms + 1 == n)) 1 0
      go None at_j may = absurd (let no : false ≡ true = may in cc)
      go (Some j) at_j may =
          opens_wait ms time u a (whats.Waits x) is s k x j refl at_j
          (and_parts (is_idle (now ms) a) _ may).0
  opened ms time u a (whats.GaveUp x) is s k may =
      begins_none ms time u a (whats.GaveUp x) is s k (inr (none_put (now ms).state.wait a))
  opened ms time u a (whats.Released x) is s k may =
      let w = at_time time (now ms) in
      begins_none ms time u a (whats.Released x) is s k
      (inl (at_kept (waits a) (w.mutex x) by_release w
      (λ j. ap (λ xs. is_some (unwrap_or (nth xs a) None)) (wait-unlocked w.state j))))
  opened ms time u a (whats.Priority level) is s k may =
      begins_none ms time u a (whats.Priority level) is s k (inl refl)
  opened ms time u a (whats.Ceiling x level) is s k may =
      let w = at_time time (now ms) in
      begins_none ms time u a (whats.Ceiling x level) is s k
      (inl (at_kept (waits a) (w.mutex x) (by_ceiling level) w (λ j. refl)))
  opened ms time u a (whats.Blocks x) is s k may =
      begins_none ms time u a (whats.Blocks x) is s k (inl refl)
  opened ms time u a (whats.Resumes x ended) is s k may =
      begins_none ms time u a (whats.Resumes x ended) is s k (inl refl)
  opened ms time u a (whats.Runs level) is s k may =
      begins_none ms time u a (whats.Runs level) is s k (inl refl)
  opened ms time u a (whats.On cpu) is s k may =
      begins_none ms time u a (whats.On cpu) is s k (inl refl)
  opened ms time u a whats.OffReady is s k may =
      begins_none ms time u a whats.OffReady is s k (inl refl)
  opened ms time u a whats.OffAsleep is s k may =
      begins_none ms time u a whats.OffAsleep is s k (inl refl)

  -- ---- a line

  abbrev ended_by : List Moment → Line → List Row
  ended_by ms l =
      of_fact
      [] (λ p what. granted (next ms l) ms p ++ resumed (next ms l) ms p what) (now ms) l

  -- The waits that a line ends, and those that last after it, are those that lasted before, and the
  -- one that it begins.
  abbrev Steps : List Moment → Line → Type 0
  Steps ms l =
      count_by (is_row_at n t m) (ended_by ms l) + total (next ms l)
      ≡ total ms + cond (says_waits t m l && (number ms + 1 == n)) 1 0

  without_thread : (ms : List Moment) (l : Line) → total (next ms l) ≡ total ms → 0 + total (next ms l) ≡ total ms + 0
  without_thread ms l same = omega (arith, same)

  steps_fact :
      (ms : List Moment) (time u : ℕ) (what : What)
      → IsSteady (now ms)
      → IsSteady (now (next ms (lines.Fact time u what)))
      → IsNumbered (now ms)
      → may_be_next (now ms) (lines.Fact time u what) ≡ true
      → Steps ms (lines.Fact time u what)
  steps_fact ms time u what s after_s k may = go ((now ms).thread u) refl may
    where
      l : Line
      l = lines.Fact time u what

      rows : ℕ → List Row
      rows p = granted (next ms l) ms p ++ resumed (next ms l) ms p what

      count-rows : (p : ℕ) → count_by (is_row_at n t m) (rows p) ≡ closes ms l p
      count-rows p =
          let parts : count_by (is_row_at n t m) (rows p)
          ≡ count_by (is_row_at n t m) (granted (next ms l) ms p)
          + count_by (is_row_at n t m) (resumed (next ms l) ms p what) =
          sum_by-append (λ r. cond (is_row_at n t m r) 1 0)
          (granted (next ms l) ms p) (resumed (next ms l) ms p what) in
          omega (arith, parts, count-granted ms l p, count-resumed (next ms l) ms p what)

      go :
          (place : Option ℕ)
          → (now ms).thread u ≡ place
          → declared place (λ p. may_happen (now ms) p what) ≡ true
          → count_by (is_row_at n t m) (option_map_or rows place []) + total (next ms l)
          ≡ total ms + cond (says_waits t m l && (number ms + 1 == n)) 1 0
      go None is may = absurd (let no : false ≡ true = may in cc)
      go (Some a) is may =
          let one = step_of_thread ms time u a what is s k after_s in
          omega (arith, count-rows a, one, opened ms time u a what is s k may)

  steps :
      (ms : List Moment) (l : Line)
      → IsSteady (now ms)
      → IsSteady (now (next ms l))
      → IsNumbered (now ms)
      → may_be_next (now ms) l ≡ true
      → Steps ms l
  steps ms (lines.Thread u level) s after_s k may =
      without_thread ms (lines.Thread u level)
      (no_actor ms (lines.Thread u level) s (λ a e. none-some a e)
      (inr (length-append (now ms).state.base (level ∷ []))))
  steps ms (lines.Mutex x is_recursive protocol) s after_s k may =
      without_thread ms (lines.Mutex x is_recursive protocol)
      (no_actor ms (lines.Mutex x is_recursive protocol) s (λ a e. none-some a e) (inl refl))
  steps ms (lines.Object x) s after_s k may =
      without_thread
      ms (lines.Object x) (no_actor ms (lines.Object x) s (λ a e. none-some a e) (inl refl))
  steps ms lines.Unseen s after_s k may =
      without_thread ms lines.Unseen (no_actor ms lines.Unseen s (λ a e. none-some a e) (inl refl))
  steps ms (lines.Fact time u what) s after_s k may = steps_fact ms time u what s after_s k may
  steps ms (lines.Lost time) s after_s k may =
      without_thread
      ms (lines.Lost time) (no_actor ms (lines.Lost time) s (λ a e. none-some a e) (inl refl))
  steps ms (lines.End time) s after_s k may =
      without_thread
      ms (lines.End time) (no_actor ms (lines.End time) s (λ a e. none-some a e) (inl refl))

  -- ---- all lines

  -- the rows of waits that ended and the waits that last are the waits that began
  abbrev Holds : List Moment → Type 0
  Holds ms =
      count_by (is_row_at n t m) (ended_rows ms) + total ms ≡ count_by (is_wait_at n t m) ms

  holds_more : (ms : List Moment) (l : Line) → Steps ms l → Holds ms → Holds (followed_by ms l)
  holds_more ms l step holds =
      let runs = flat_map (ended_run (next ms l) ms) (by_number (now ms)) in
      let one : Row → ℕ = λ r. cond (is_row_at n t m r) 1 0 in
      let more : count_by (is_row_at n t m) (ended_rows (next ms l))
      ≡ count_by (is_row_at n t m) (ended_rows ms)
      + count_by (is_row_at n t m) (ended_by ms l ++ runs) =
      sum_by-append one (ended_rows ms) (ended_by ms l ++ runs) in
      let parts : count_by (is_row_at n t m) (ended_by ms l ++ runs)
      ≡ count_by (is_row_at n t m) (ended_by ms l) + count_by (is_row_at n t m) runs =
      sum_by-append one (ended_by ms l) runs in
      let no_run : count_by (is_row_at n t m) runs ≡ 0 =
      count-flat_map (is_row_at n t m) (ended_run (next ms l) ms)
      (count-ended_run (has_start n t m) (next ms l) ms) (by_number (now ms)) in
      let begins : count_by (is_wait_at n t m) (next ms l)
      ≡ cond (says_waits t m l && (number ms + 1 == n)) 1 0 + count_by (is_wait_at n t m) ms =
      sum_by-cons (λ x. cond (is_wait_at n t m x) 1 0)
      (record { number = number ms + 1; line = l; world = after (now ms) l }) ms in
      omega (arith, more, parts, no_run, begins, step, holds)

  holds_all :
      (ls : List Line) (ms : List Moment)
      → IsSteady (now ms)
      → IsNumbered (now ms)
      → Follow (now ms) ls
      → Holds ms
      → Holds (fold followed_by ms ls)
  holds_all [] ms s k may holds = holds
  holds_all (l ∷ ls) ms s k may holds =
      let after_s = steady_after (now ms) l may.0 s in
      holds_all ls (followed_by ms l) after_s (numbered_after (now ms) l s k) may.1
      (holds_more ms l (steps ms l s after_s k may.0) holds)

  -- the waits that ended and those that last are all rows of waits
  all_waits :
      (ms : List Moment)
      → count_by (is_row_at n t m) (rows_of ms)
      ≡ count_by (is_row_at n t m) (ended_rows ms) + total ms
  all_waits ms =
      let p = is_row_at n t m in
      let one : Row → ℕ = λ r. cond (p r) 1 0 in
      let sections = map section_row (all_sections ms) in
      let nested = map nests_row (nests ms) in
      let deadlocks = deadlock_rows (now ms) in
      let end = end_row ms (all_rows ms) deadlocks in
      let a : count_by p (rows_of ms)
      ≡ count_by p (all_rows ms ++ sections ++ nested ++ deadlocks) + count_by p (end ∷ []) =
      sum_by-append one (all_rows ms ++ sections ++ nested ++ deadlocks) (end ∷ []) in
      let b : count_by p (all_rows ms ++ sections ++ nested ++ deadlocks)
      ≡ count_by p (all_rows ms ++ sections ++ nested) + count_by p deadlocks =
      sum_by-append one (all_rows ms ++ sections ++ nested) deadlocks in
      let c : count_by p (all_rows ms ++ sections ++ nested)
      ≡ count_by p (all_rows ms ++ sections) + count_by p nested =
      sum_by-append one (all_rows ms ++ sections) nested in
      let d : count_by p (all_rows ms ++ sections)
      ≡ count_by p (all_rows ms) + count_by p sections =
      sum_by-append one (all_rows ms) sections in
      let no_section : count_by p sections ≡ 0 =
      none_counted p section_row (λ x. refl) (all_sections ms) in
      let no_nest : count_by p nested ≡ 0 = none_counted p nests_row (λ x. refl) (nests ms) in
      let no_deadlock : count_by p deadlocks ≡ 0 =
      none_counted p (λ t. row words.Deadlock (cycle (now ms) t)) (λ x. refl)
      (filter (is_first_of_cycle (now ms)) (by_number (now ms))) in
      let no_end : count_by p (end ∷ []) ≡ 0 = refl in
      let lasting : count_by p (flat_map (lasting_wait ms) (by_number (now ms))) ≡ total ms =
      count-each p (lasting_wait ms) (lasts ms) (count-lasting ms) (by_number (now ms))
      ∙ sum-sort_by (lasts ms)
      (λ t u. nat_lt (thread_number (now ms) t) (thread_number (now ms) u))
      (numbers (length (now ms).state.base)) in
      let all = all_counted ms (has_start n t m) _ _ refl refl in
      omega (arith, a, b, c, d, no_section, no_nest, no_deadlock, no_end, lasting, all)

numbered_first : IsNumbered no_world
numbered_first = record {
  threads = λ n p e. absurd (none-some p e);
  mutexes = λ n p e. absurd (none-some p e);
  counted = refl;
}

pub each_wait_law : EachWaitLaw
each_wait_law [] ls e n t m = cc
each_wait_law (first ∷ bytes) ls e n t m = go (is_header first) e
  where
    go :
        (b : Bool)
        → cond b (lines_after no_world bytes) None ≡ Some ls
        → count_by (is_row_at n t m) (rows_of (moments_of ls))
        ≡ count_by (is_wait_at n t m) (moments_of ls)
    go false e = cc
    go true e =
        all_waits n t m (moments_of ls)
        ∙ holds_all n t m ls first_moments steady_first numbered_first
        (follow bytes no_world ls e) refl
