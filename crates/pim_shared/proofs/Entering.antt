-- A looker that enters keeps the rule, and what the looker knows then.
use Rattle.std.proofs.Common.{◌≡◌, ◌≢◌, ◌<◌, ◌≤◌, ℕ, List, [], ◌∷◌, ◌++◌, length, Option, Some, None, refl, sym, ap, ◌∙◌, subst, ⊎_elim, set, arith, length-append}
use Rattle.std.specs.Prelude.{IsSome, IfSome, unwrap_or}
use mathlib.Core.Option.{some}
use mathlib.Core.List.{IsPrefix}
use lib.ListN.{get_elem?}
use Rattle.crossbeam_utils.specs.Register.{TurnsAt}
use Rattle.atomic_table.proofs.Lists.{at_set}
use Rattle.pim_base.specs.State.{State, start}
use Rattle.pim_base.specs.Steps.{reply_of, after}
use Rattle.pim_base.specs.Runs.{IsRun}
use Rattle.pim_base.specs.declared.steps.Entry.{Entry}
use Rattle.pim_shared.specs.declared.version.Version.{Version}
use Rattle.pim_shared.specs.declared.rule.Known.{Known}
use Rattle.pim_shared.specs.declared.looker.Seen.{Seen}
use Rattle.pim_shared.specs.Logs.{History}
use Rattle.pim_shared.specs.Versions.{IsVersionOf, last_of}
use Rattle.pim_shared.specs.Rules.{Keeps, IsTrueOf, KnowsStart, enters}
use Rattle.pim_shared.specs.Lookers.{start_of, history_of, seen_of, Shows, EndsIn, HasSeenMore, EndsWithNew}
use Rattle.pim_base.proofs.Prefixes.{prefix_self}
use Rattle.pim_shared.proofs.Prefixes.{prefix_shorter}

known_start : (o : Option State) → IsSome o → o ≡ Some (unwrap_or o (start [] [] 1))
known_start (Some S) k = refl
known_start None k = absurd (cc (k))

-- what is known of the start is the start
same_start : (o : Option State) (S T : State) → IfSome o (λ U. U ≡ T) → o ≡ Some S → S ≡ T
same_start (Some U) S T h e = let same : U ≡ S = cc in sym same ∙ h
same_start None S T h e = absurd cc

-- if one learns something else that is true, what each one knows is true
pub true_set :
    (start : State) (published : List Entry) (all : List Known) (seat : ℕ) (k : Known)
    → ((j : ℕ) (l : Known) → get_elem? all j ≡ some l → IsTrueOf start published l)
    → IsTrueOf start published k
    → (j : ℕ) (l : Known)
    → get_elem? (set all seat k) j ≡ some l
    → IsTrueOf start published l
true_set start published all seat k each here j l e =
    let P : Known → Type 0 = λ z. IsTrueOf start published z in
    ⊎_elim (λ (t : (j ≡ seat) × (k ≡ l)). subst P t.1 here) (λ (t : (j ≢ seat) × (get_elem? all j ≡ some l)). each j l t.1) (at_set all seat j k l e)

pub enters_turns : (seat : ℕ) (k : Known) (v : Version) → TurnsAt (λ v all. Keeps v all) seat k v v enters
enters_turns seat k v all keeps at =
    let truly = keeps.known seat k at in
    let l : Known = record { start = k.start; seen = keeps.published } in
    let here : IsTrueOf keeps.start keeps.published l = record { start_is = truly.start_is; seen = prefix_self keeps.published } in
    let shows : (S : State) → k.start ≡ Some S → IsVersionOf S keeps.published v =
    λ S is. let P : State → Type 0 = λ T. IsVersionOf T keeps.published v in subst P (sym (same_start k.start S keeps.start truly.start_is is)) keeps.version in (
      l,
      record {
        start = keeps.start;
        published = keeps.published;
        version = keeps.version;
        short = keeps.short;
        known = true_set keeps.start keeps.published all seat l keeps.known here;
      },
      (refl, truly.seen, shows),
    )

-- the version is that of what an entering looker knows
entered : (k l : Known) (v : Version) → KnowsStart k → enters k v v l → IsVersionOf (start_of l) l.seen v
entered k l v knows e =
    let P : State → Type 0 = λ S. IsVersionOf S l.seen v in
    subst P (ap (λ o. unwrap_or o (start [] [] 1)) (sym e.0)) (e.2 (start_of k) (known_start k.start knows))

pub has_seen_more : (k l m : Known) (v w : Version) → KnowsStart k → enters k v v l → m ≡ l → w ≡ v → HasSeenMore k m w.steps
has_seen_more k l m v w knows e same now =
    let P : Known → Type 0 = λ z. HasSeenMore k z w.steps in
    subst P (sym same) (record { start = e.0; more = e.1; counted = ap (λ z. z.steps) now ∙ (entered k l v knows e).steps })

-- what a read returns
pub shows_after :
    (k l m : Known) (v w : Version) (t : ℕ) (answer : Option Seen)
    → KnowsStart k
    → enters k v v l
    → m ≡ l
    → w ≡ v
    → answer ≡ seen_of w.manager w.steps t
    → Shows (history_of m) t answer
shows_after k l m v w t answer knows e same now is =
    let version = entered k l v knows e in
    let P : Known → Type 0 = λ z. Shows (history_of z) t answer in
    let says : answer ≡ seen_of v.manager (length l.seen) t = is ∙ ap (λ z. seen_of z.manager z.steps t) now ∙ ap (λ n. seen_of v.manager n t) version.steps in
    subst P (sym same) (v.manager, version.run, says)

pub ends_after : (k l m : Known) (v w : Version) → KnowsStart k → enters k v v l → m ≡ l → w ≡ v → EndsIn (history_of m) w.last
ends_after k l m v w knows e same now =
    let version = entered k l v knows e in
    let P : Known → Type 0 = λ z. EndsIn (history_of z) w.last in
    subst P (sym same) (ap (λ z. z.last) now ∙ version.last, (v.manager, version.run))

last_of-some : (es : List Entry) (e : Entry) → Some e ≡ last_of es → (before : List Entry) × (es ≡ before ++ e ∷ [])
last_of-some [] e h = absurd (cc (h))
last_of-some (f ∷ []) e h = ([], cc (h))
last_of-some (f ∷ g ∷ es) e h = let r = last_of-some (g ∷ es) e h in (f ∷ r.0, ap (λ l. f ∷ l) r.1)

-- the reply of the last entry is the model's after the entries before it
run_last :
    (S : State) (before : List Entry) (e : Entry) (end : State)
    → IsRun S (before ++ e ∷ []) end
    → (T : State) × IsRun S before T × (e.reply ≡ reply_of T e.step)
run_last S [] e end run = (S, refl, run.0)
run_last S (f ∷ before) e end run = let r = run_last (after S f.step) before e end run.1 in (r.0, (run.0, r.1), r.2)

pub ends_with_new :
    (old new : History) (entry : Entry) (last : Option Entry)
    → IsPrefix old.entries new.entries
    → length old.entries < length new.entries
    → last ≡ Some entry
    → EndsIn new last
    → EndsWithNew old new entry
ends_with_new old new entry last more longer is ends =
    let l = last_of-some new.entries entry (sym is ∙ ends.0) in
    let P : List Entry → Type 0 = λ es. IsRun new.start es ends.1.0 in
    let Q : List Entry → Type 0 = λ es. IsPrefix old.entries es in
    let r = run_last new.start l.0 entry ends.1.0 (subst P l.1 ends.1.1) in
    let shorter : length old.entries ≤ length l.0 = omega (arith, ap length l.1, length-append l.0 (entry ∷ [])) in
    record {
      before = l.0;
      state = r.0;
      entries = l.1;
      more = prefix_shorter old.entries l.0 (l.0 ++ entry ∷ []) (subst Q l.1 more) (entry ∷ [], refl) shorter;
      run = r.1;
      reply = r.2;
    }
