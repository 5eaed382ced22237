-- The writer's publishing keeps the rule, and the log goes on by one entry.
use Rattle.std.proofs.Common.{◌≡◌, ◌+◌, ◌<◌, ◌^◌, ℕ, List, [], ◌∷◌, ◌++◌, length, Some, refl, sym, ap, ◌∙◌, subst, arith, length-append}
use Rattle.std.specs.Prelude.{option_to_list, fold, false, Result, Ok, Err, is_err, MatchResult}
use mathlib.Core.Option.{some}
use mathlib.Core.List.{IsPrefix}
use lib.ListN.{get_elem?}
use Rattle.crossbeam_utils.specs.Register.{TurnsAt}
use Rattle.pim_base.specs.State.{State}
use Rattle.pim_base.specs.Steps.{reply_of, after}
use Rattle.pim_base.specs.Runs.{IsRun}
use Rattle.pim_base.specs.declared.steps.Step.{Step}
use Rattle.pim_base.specs.declared.steps.Entry.{Entry}
use Rattle.pim_shared.specs.declared.version.Version.{Version}
use Rattle.pim_shared.specs.declared.rule.Known.{Known}
use Rattle.pim_shared.specs.Versions.{IsVersionOf, entry_of, next_version, last_of}
use Rattle.pim_shared.specs.Rules.{Keeps, IsTrueOf, publishes}
use Rattle.pim_shared.specs.Books.{BookState, IsBook}
use Rattle.pim_shared.specs.Publishers.{WriterState, Published, IsUpToDate, MayPublish, HasPublished, published_by, with_pending, all_published}
use Rattle.pim_base.proofs.Prefixes.{prefix_self, prefix_trans}
use Rattle.pim_shared.proofs.Prefixes.{prefix_whole}
use Rattle.pim_shared.proofs.Entering.{true_set}

last_of-append : (es : List Entry) (e : Entry) → last_of (es ++ e ∷ []) ≡ Some e
last_of-append [] e = refl
last_of-append (f ∷ []) e = refl
last_of-append (f ∷ g ∷ es) e = last_of-append (g ∷ es) e

run_more : (S : State) (es : List Entry) (end : State) (step : Step) → IsRun S es end → IsRun S (es ++ entry_of end step ∷ []) (after end step)
run_more S [] end step run = (ap (λ T. reply_of T step) run, ap (λ T. after T step) run)
run_more S (e ∷ es) end step run = (run.0, run_more (after S e.step) es end step run.1)

version_more :
    (S : State) (es : List Entry) (v : Version) (step : Step)
    → IsVersionOf S es v
    → length es + 1 < 2 ^ 64
    → IsVersionOf S (es ++ entry_of v.manager step ∷ []) (next_version v step)
version_more S es v step is short = record {
  run = run_more S es v.manager step is.run;
  steps = omega (arith, is.steps, length-append es (entry_of v.manager step ∷ []));
  last = sym (last_of-append es (entry_of v.manager step));
}

-- a writer that knows all entries may publish one more
publishes_next :
    (seat : ℕ) (k : Known) (v : Version) (step : Step)
    → v.steps ≡ length k.seen
    → length k.seen + 1 < 2 ^ 64
    → TurnsAt (λ v all. Keeps v all) seat k v (next_version v step) publishes
publishes_next seat k v step whole short all keeps at =
    let truly = keeps.known seat k at in
    let e : Entry = entry_of v.manager step in
    let same : k.seen ≡ keeps.published = prefix_whole k.seen keeps.published truly.seen (omega (arith, whole, keeps.version.steps)) in
    let grown : List Entry = keeps.published ++ e ∷ [] in
    let l : Known = record { start = k.start; seen = k.seen ++ e ∷ [] } in
    let is : l.seen ≡ grown = ap (λ es. es ++ e ∷ []) same in
    let P : List Entry → Type 0 = λ es. IsPrefix l.seen es in
    let here : IsTrueOf keeps.start grown l = record { start_is = truly.start_is; seen = subst P is (prefix_self l.seen) } in
    let others : (j : ℕ) (m : Known) → get_elem? all j ≡ some m → IsTrueOf keeps.start grown m =
    λ j m a. record { start_is = (keeps.known j m a).start_is; seen = prefix_trans m.seen keeps.published grown (keeps.known j m a).seen (e ∷ [], refl) } in
    let less : length keeps.published + 1 < 2 ^ 64 = omega (arith, ap length same) in (
      l,
      record {
        start = keeps.start;
        published = grown;
        version = version_more keeps.start keeps.published v step keeps.version less;
        short = omega (arith, length-append keeps.published (e ∷ []));
        known = true_set keeps.start grown all seat l others here;
      },
      refl,
    )

pub publishes_turns :
    (seat : ℕ) (w : WriterState) (next : Version)
    → MayPublish w
    → next ≡ fold next_version w.version w.pending
    → TurnsAt (λ v all. Keeps v all) seat w.known w.version next publishes
publishes_turns seat w next may is =
    let P : Version → Type 0 = λ z. TurnsAt (λ v all. Keeps v all) seat w.known w.version z publishes in
    let one : next ≡ next_version w.version may.step = is ∙ ap (λ l. fold next_version w.version l) may.one in
    subst P (sym one) (publishes_next seat w.known w.version may.step may.whole may.short)

-- what the publisher has then
pub published_next :
    (w x : WriterState)
    → IsUpToDate w
    → (step : Step) × (w.pending ≡ step ∷ [])
    → length w.known.seen + 1 < 2 ^ 64
    → HasPublished w x
    → IsUpToDate x × (published_by x ≡ all_published (published_by w))
published_next w x up one short has =
    let step : Step = one.0 in
    let next : Version = next_version w.version step in
    let known : Known = record { start = w.known.start; seen = w.known.seen ++ entry_of w.version.manager step ∷ [] } in
    let y : WriterState = record { version = next; pending = []; known = known } in
    let version : x.version ≡ next = has.version ∙ ap (λ l. fold next_version w.version l) one.1 in
    let knows : x.known ≡ known = has.known ∙ ap (λ (v : Version). record { start = w.known.start; seen = w.known.seen ++ option_to_list v.last }) version in
    let is : x ≡ y =
    ap (λ (v : Version). record { version = v; pending = x.pending; known = x.known }) version
    ∙ ap (λ (l : List Step). record { version = next; pending = l; known = x.known }) has.none
    ∙ ap (λ (k : Known). record { version = next; pending = []; known = k }) knows in
    let P : WriterState → Type 0 = λ z. IsUpToDate z in
    let does : all_published (published_by w) ≡ published_by y = ap (λ l. all_published (record (published_by w) { pending = l })) one.1 in
    (subst P (sym is) (record { start = up.start; version = version_more _ w.known.seen w.version step up.version short }), ap published_by is ∙ sym does)

-- what is published once one step more is
abbrev pub one_more : State → List Entry → State → Step → Published
one_more start es S step = record { start = start; entries = es ++ entry_of S step ∷ []; state = after S step; pending = [] }

pub one_published :
    (p q r : Published) (start : State) (es : List Entry) (S : State) (step : Step)
    → p ≡ record { start = start; entries = es; state = S; pending = [] }
    → q ≡ with_pending p step
    → r ≡ all_published q
    → r ≡ one_more start es S step
one_published p q r start es S step published appended is = is ∙ ap all_published (appended ∙ ap (λ z. with_pending z step) published)

-- the step that was taken in is the one that is pending
pub one_pending :
    (p q : Published) (start : State) (es : List Entry) (S : State) (step : Step)
    → p ≡ record { start = start; entries = es; state = S; pending = [] }
    → q ≡ with_pending p step
    → (s : Step) × (q.pending ≡ s ∷ [])
one_pending p q start es S step published appended = (step, ap (λ z. z.pending) (appended ∙ ap (λ z. with_pending z step) published))

pub last_published : (r : Published) (start : State) (es : List Entry) (S : State) (step : Step) → r ≡ one_more start es S step → last_of r.entries ≡ Some (entry_of S step)
last_published r start es S step is = ap (λ z. last_of z.entries) is ∙ last_of-append es (entry_of S step)

-- the book after a call
pub book_more :
    (b : BookState) (capacity capacity' : ℕ) (p r : Published) (step : Step) (entries : List Entry)
    → IsBook b capacity p
    → r ≡ one_more b.start b.entries b.manager step
    → length b.entries < b.room
    → entries ≡ b.entries ++ entry_of b.manager step ∷ []
    → capacity' ≡ capacity
    → IsBook (record b { manager = r.state; entries = entries }) capacity' r
book_more b capacity capacity' p r step entries book is less grown same =
    let e : Entry = entry_of b.manager step in
    let Q : List Entry → Type 0 = λ es. IsBook (record b { manager = r.state; entries = es }) capacity' r in
    let P : Published → Type 0 = λ z. IsBook (record b { manager = z.state; entries = b.entries ++ e ∷ [] }) capacity' z in
    subst Q (sym grown) (subst P (sym is) (record {
      run = run_more b.start b.entries b.manager step book.run;
      within_room = omega (arith, length-append b.entries (e ∷ []));
      reserved = omega (arith, book.reserved);
      published = refl;
    }))

-- what holds of an `Ok`
pub ok_part : {T E : Type 0} (r : Result T E) (P : Type 0) (Q : E → Type 0) → is_err r ≡ false → MatchResult r (λ _. P) Q → P
ok_part (Ok x) P Q ok h = h
ok_part (Err e) P Q ok h = absurd (cc (ok))
