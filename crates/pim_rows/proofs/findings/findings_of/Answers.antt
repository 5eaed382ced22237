use Rattle.std.proofs.Common.{arith, sym, ◌∙◌, length, ◌≡◌, rules, subst}
use Rattle.pim_rows.specs.Moments.{first_moments, followed_by}
use Rattle.pim_rows.specs.Findings.{AreOf}
use Rattle.pim_rows.proofs.Underway.{starts, next, bad_next, ended, refused, taken}
use Rattle.pim_rows.proofs.findings.findings_of.Goals as goal

pub loop-rest-init : goal.loop-rest-init
loop-rest-init c = (
  first_moments,
  starts _ _ _ c.next_line.ensures.lines (sym c.is_header.ensures ∙ c.if-not-is_header.false),
  c.new-tracker.ensures,
  omega (arith, c.next_line.ensures.shorter),
)

pub take-requires : goal.take-requires
take-requires c = (c.loop-rest.invariant.0, c.loop-rest.invariant.2)

pub returns-in-Some : goal.returns-in-Some
returns-in-Some c =
    let ms = c.loop-rest.invariant.0 in
    bad_next _ _ c.next_line-in-loop-rest.ensures.lines c.loop-rest.invariant.1
    (refused _ _ _ c.in-Some.why c.in-Some.is (c.in_ok-why.ensures ms c.loop-rest.invariant.2))

pub loop-rest-preserved : goal.loop-rest-preserved
loop-rest-preserved c =
    let ms = c.loop-rest.invariant.0 in
    let took =
    taken _ _ _ c.in_default.is (c.in_ok-why.ensures ms c.loop-rest.invariant.2) in (
      followed_by ms took.0,
      next _ _ took.0 c.next_line-in-loop-rest.ensures.lines c.loop-rest.invariant.1 took.1,
      took.2,
      omega (arith, c.next_line-in-loop-rest.ensures.shorter, c.loop-rest.invariant.3),
    )

pub finished-requires : goal.finished-requires
finished-requires c = (c.loop-rest.invariant.0, c.loop-rest.invariant.2)

pub returns : goal.returns
returns c =
    let ms = c.loop-rest.invariant.0 in
    let way = c.loop-rest.invariant.1 in
    let none_left : length c.loop-rest.rest.now ≡ 0 = search rules in (
      way.lines,
      ended c.loop-rest.rest.now none_left way,
      subst (AreOf _) way.moments (c.in_ok-finished.ensures ms c.loop-rest.invariant.2),
    )
