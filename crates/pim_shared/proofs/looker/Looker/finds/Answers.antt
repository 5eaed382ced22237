use Rattle.std.proofs.Common.{◌≡◌, ◌<◌, length, Some, rules, subst, arith}
use Rattle.left_right.specs.Sides.{view as known}
use Rattle.pim_shared.specs.Logs.{History}
use Rattle.pim_shared.specs.Lookers.{history_of, EndsWithNew}
use Rattle.pim_shared.proofs.Entering.{ends_with_new}
use Rattle.pim_shared.proofs.SameEntries.{last_same}
use Rattle.pim_shared.proofs.looker.Looker.finds.Goals as goal

pub returns-clause-found : goal.returns-clause-found
returns-clause-found c equal =
    let found = c.in-Some.ensures in
    let same : c.in-Some.last ≡ Some c.args.entry = last_same _ _ (search rules) in
    let old : History = history_of (known c.self.inside.reader.place) in
    let new : History = history_of (known c.replace_with.new.dest.place) in
    let longer : length old.entries < length new.entries = omega (arith, c.self.invariant.counted, found.0.counted) in
    let P : History → Type 0 = λ h. EndsWithNew h new c.args.entry in
    subst P c.self.view_is (ends_with_new old new c.args.entry c.in-Some.last found.0.more longer same found.1)
