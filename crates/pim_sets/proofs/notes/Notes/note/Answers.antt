use Rattle.std.proofs.Common.{◌≡◌, ◌∙◌, ◌+◌, ◌==◌, ◌||◌, ℕ, List, false, true, length, sym, refl, ap, arith, rules}
use Rattle.std.proofs.Common.{Some, unwrap_or}
use Rattle.std.proofs.lemmas.Bool.{eq-eqb, ne_eqb}
use Rattle.pim_base.specs.Lists.{nth, put}
use Rattle.pim_base.proofs.Places.{nth-put_same, nth-put_other, length-put}
use Rattle.pim_sets.specs.Numbers.{has, members}
use Rattle.pim_sets.specs.Work.{Noted, noted_in, note_of}
use Rattle.pim_sets.proofs.Members.{length-inserted, length-removed, members_few}
use Rattle.pim_sets.proofs.notes.Notes.note.Goals as goal
use Rattle.pim_sets.proofs.notes.Notes.note.Goals.{After-remove}

pub overflow_add-self : goal.overflow_add-self
overflow_add-self c =
    let few = members_few c.self.inside.tasks.words in
    let count = c.self.invariant.1 in
    omega (arith, few, count)

-- the task is put in
pub invariant_of-self : goal.invariant_of-self
invariant_of-self c =
    let x = c.get-number.result in
    let free : has c.self.inside.tasks.words x ≡ false = search rules in
    let more = length-inserted c.self.inside.tasks.words c.insert.new.self.words x
    (let most = c.requires.most in let at = c.get-number.ensures in omega (arith, most, at)) free c.insert.ensures in
    let count = c.self.invariant.1 in
    (ap length c.put.ensures ∙ length-put c.self.inside.had.items _ _ ∙ c.self.invariant.0, omega (arith, more, count))

-- the task is taken out
there : (c : After-remove) → length (members c.self.inside.tasks.words) ≡ length (members c.remove.new.self.words) + 1
there c =
    let x = c.get-number.result in
    let has_it : has c.self.inside.tasks.words x ≡ true = search rules in
    length-removed c.self.inside.tasks.words c.remove.new.self.words x
    (let most = c.requires.most in let at = c.get-number.ensures in omega (arith, most, at)) has_it c.remove.ensures

pub overflow_sub-self : goal.overflow_sub-self
overflow_sub-self c = let fewer = there c in let count = c.self.invariant.1 in omega (arith, fewer, count)

pub invariant_of-self-then-eq : goal.invariant_of-self-then-eq
invariant_of-self-then-eq c =
    let fewer = there (goal.at.invariant_of-self-then-eq c).After-remove in let count = c.self.invariant.1 in
    (c.self.invariant.0, omega (arith, fewer, count))

-- the first note of a task
first_note :
    (old : Noted) (words items : List ℕ) (t had prio : ℕ)
    → has old.tasks t ≡ false
    → has words t ≡ true
    → items ≡ put old.had t had
    → nth (put old.had t had) t ≡ Some had
    → (had == prio) ≡ false
    → noted_in (record { tasks = words; had = items }) t ≡ note_of (unwrap_or (noted_in old t) had) prio
first_note old words items t had prio free there is at differs = rw (free, there, is, at, differs) refl

pub returns-then-not-contains-clause-first : goal.returns-then-not-contains-clause-first
returns-then-not-contains-clause-first c =
    let x = c.get-number.result in
    let at : x ≡ c.args.task = c.get-number.ensures in
    let low = c.requires.least in
    let high = c.requires.most in
    let len = c.self.invariant.0 in
    let there : has c.insert.new.self.words x ≡ true =
    c.insert.ensures x ∙ ap (λ b. b || has c.self.inside.tasks.words x) (eq-eqb x x refl) in
    rw (← c.self.view_is, ← at)
    (first_note _ _ _ x c.args.had c.args.prio (search rules) there (search rules)
    (nth-put_same c.self.inside.had.items x c.args.had (omega (arith, at, low)) (omega (arith, at, high, len)))
    (ne_eqb c.args.had c.args.prio c.requires.other))

pub returns-then-not-contains-clause-others : goal.returns-then-not-contains-clause-others
returns-then-not-contains-clause-others c u ne =
    let number = c.get-number.result in
    rw (
      ← c.self.view_is,
      c.insert.ensures u,
      ne_eqb u number (λ e. ne (e ∙ c.get-number.ensures)),
      c.put.ensures,
      nth-put_other c.self.inside.had.items number u _ (λ e. ne (sym e ∙ c.get-number.ensures)),
    ) refl
