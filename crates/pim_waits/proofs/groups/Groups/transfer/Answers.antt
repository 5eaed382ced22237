use Rattle.std.proofs.Common.{◌≡◌, ℕ, Option, Some, sym, ◌∙◌, refl, eqb, eq-eqb, false}
use Rattle.std.specs.Option.{option_eq}
use Rattle.std.proofs.lemmas.Bool.{false≢true}
use Rattle.pim_waits.proofs.Grouping.{HasMore, more_added, more_same, transferred}
use Rattle.pim_waits.proofs.groups.Groups.transfer.Goals.{in-Some+in_ok-add, in_default}
use Rattle.pim_waits.proofs.groups.Groups.transfer.Goals as goal

same_eq :
    (a b : Option ℕ) (place : ℕ)
    → option_eq eqb a b ≡ false
    → a ≡ Some place
    → Some place ≡ b
    → ⊥
same_eq a b place differ from to =
    false≢true (sym differ ∙ rw (from, ← to) (eq-eqb place place refl))

pub returns-in-Some-from-clause-ok : goal.returns-in-Some-from-clause-ok
returns-in-Some-from-clause-ok c f at by =
    let added : HasMore c.args.self.now c.match-to.self c.args.number c.args.to =
    elim c.match-to.branch [
      | in-Some+in_ok-add w ↦ rw (w.in-Some.is, w.self-is) (more_added
          c.args.self.now w.add.new.self c.args.number w.in-Some.place w.in_ok-add.ensures.added)
      | in_default w ↦ rw (w.in_default.is, w.self-is) (more_same c.args.self.now c.args.number)
    ] in
    transferred c.args.self.now c.match-to.self
    c.remove.new.self c.args.number c.in-Some-from.place c.args.to added c.remove.ensures
    (same_eq c.args.from c.args.to c.in-Some-from.place (sym c.if-eq.ensures) c.in-Some-from.is)
    f by
