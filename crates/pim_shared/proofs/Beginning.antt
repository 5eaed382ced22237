-- How the writer and its lookers begin.
use Rattle.std.proofs.Common.{◌≡◌, ◌≢◌, ℕ, List, [], ◌∷◌, ◌++◌, length, Some, refl, sym, ap, ◌∙◌, subst, ⊎_elim, set, arith}
use Rattle.std.specs.Prelude.{fold}
use mathlib.Core.Option.{some, some-ne-none}
use lib.ListN.{get_elem?}
use Rattle.crossbeam_utils.specs.Register.{Admits, TurnsAt, Forks, Merges}
use Rattle.atomic_table.proofs.Lists.{at_set, at_snoc}
use Rattle.pim_base.specs.State.{State}
use Rattle.pim_base.specs.declared.steps.Entry.{Entry}
use Rattle.pim_shared.specs.declared.version.Version.{Version}
use Rattle.pim_shared.specs.declared.rule.Known.{Known}
use Rattle.pim_shared.specs.Versions.{IsVersionOf, first_version, next_version}
use Rattle.pim_shared.specs.Publishers.{WriterState, IsNew}
use Rattle.pim_shared.specs.Rules.{Keeps, IsTrueOf, unseen, newcomer, told, begins}
use Rattle.pim_shared.proofs.Entering.{true_set}

newcomer_true : (start : State) (published : List Entry) → IsTrueOf start published newcomer
newcomer_true start published = record { start_is = tt; seen = (published, refl) }

-- if a newcomer knows only what is true, what each one knows is true
true_more :
    (start : State) (published : List Entry) (all : List Known) (k : Known)
    → ((j : ℕ) (l : Known) → get_elem? all j ≡ some l → IsTrueOf start published l)
    → IsTrueOf start published k
    → (j : ℕ) (l : Known)
    → get_elem? (all ++ k ∷ []) j ≡ some l
    → IsTrueOf start published l
true_more start published all k each here j l e =
    let P : Known → Type 0 = λ z. IsTrueOf start published z in
    ⊎_elim (λ (t : get_elem? all j ≡ some l). each j l t) (λ (t : k ≡ l). subst P t here) (at_snoc all k l j e)

-- the rule still holds if what each one knows is true
keeps_with :
    {v : Version} {all : List Known} (all' : List Known) (keeps : Keeps v all)
    → ((j : ℕ) (l : Known) → get_elem? all' j ≡ some l → IsTrueOf keeps.start keeps.published l)
    → Keeps v all'
keeps_with all' keeps known = record {
  start = keeps.start;
  published = keeps.published;
  version = keeps.version;
  short = keeps.short;
  known = known;
}

pub admits : Admits (λ v all. Keeps v all) newcomer
admits v all keeps = keeps_with (all ++ newcomer ∷ []) keeps (true_more keeps.start keeps.published all newcomer keeps.known (newcomer_true keeps.start keeps.published))

pub first_keeps : (S : State) → Keeps (first_version S) (newcomer ∷ [])
first_keeps S = record {
  start = S;
  published = [];
  version = record { run = refl; steps = refl; last = refl };
  short = omega arith;
  known = true_more S [] [] newcomer (λ j l e. absurd (some-ne-none l (sym e))) (newcomer_true S []);
}

no_entries : (es : List Entry) → length es ≡ 0 → es ≡ []
no_entries [] e = refl
no_entries (f ∷ es) e = absurd (omega arith)

pub begins_turns :
    (seat : ℕ) (w : WriterState) (next : Version)
    → IsNew w
    → next ≡ fold next_version w.version w.pending
    → TurnsAt (λ v all. Keeps v all) seat w.known w.version next begins
begins_turns seat w next new is all keeps at =
    let v : Version = w.version in
    let same : next ≡ v = is ∙ ap (λ l. fold next_version v l) new.none in
    let empty : keeps.published ≡ [] = no_entries keeps.published (sym keeps.version.steps ∙ ap (λ z. z.steps) new.first) in
    let Q : List Entry → Type 0 = λ es. IsVersionOf keeps.start es v in
    let start_is : v.manager ≡ keeps.start = (subst Q empty keeps.version).run in
    let l : Known = unseen (Some v.manager) in
    let here : IsTrueOf keeps.start keeps.published l = record { start_is = start_is; seen = (keeps.published, refl) } in
    let P : Version → Type 0 = λ z. Keeps z (set all seat l) in (
      l,
      subst P (sym same) (keeps_with (set all seat l) keeps (true_set keeps.start keeps.published all seat l keeps.known here)),
      refl,
    )

pub forks : (seat : ℕ) (k : Known) → Forks (λ v all. Keeps v all) seat k k (unseen k.start)
forks seat k v all keeps at =
    let truly = keeps.known seat k at in
    let new : IsTrueOf keeps.start keeps.published (unseen k.start) = record { start_is = truly.start_is; seen = (keeps.published, refl) } in
    let kept = true_set keeps.start keeps.published all seat k keeps.known truly in
    keeps_with (set all seat k ++ unseen k.start ∷ []) keeps (true_more keeps.start keeps.published (set all seat k) (unseen k.start) kept new)

pub merges : (seat : ℕ) (k : Known) (other : ℕ) (l : Known) → Merges (λ v all. Keeps v all) seat k other l (told k l) newcomer
merges seat k other l v all keeps at apart there =
    let m : Known = told k l in
    let truly = keeps.known seat k at in
    let tells : IsTrueOf keeps.start keeps.published l =
    ⊎_elim (λ (t : (other ≡ seat) × (m ≡ l)). absurd (apart t.0)) (λ (t : (other ≢ seat) × (get_elem? all other ≡ some l)). keeps.known other l t.1) (at_set all seat other m l there) in
    let here : IsTrueOf keeps.start keeps.published m = record { start_is = tells.start_is; seen = truly.seen } in
    let once = true_set keeps.start keeps.published all seat m keeps.known here in
    keeps_with (set (set all seat m) other newcomer) keeps (true_set keeps.start keeps.published (set all seat m) other newcomer once (newcomer_true keeps.start keeps.published))
