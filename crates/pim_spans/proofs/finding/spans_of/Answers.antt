use Rattle.std.proofs.Common.{arith, sym, ap, ◌∙◌, length, ◌≡◌, rules}
use Rattle.pim_rows.specs.Moments.{first_moments, followed_by}
use Rattle.pim_rows.proofs.Underway.{starts, next, bad_next, ended, refused, taken}
use Rattle.pim_spans.specs.Spans.{Window}
use Rattle.pim_spans.specs.Found.{spans_text}
use Rattle.pim_spans.proofs.finding.spans_of.Goals as goal

pub loop-rest-init : goal.loop-rest-init
loop-rest-init c = (
  c.new-follower.ensures.window,
  first_moments,
  starts _ _ _ c.next_line.ensures.lines (sym c.is_header.ensures ∙ c.if-not-is_header.false),
  c.new-follower.ensures.follows,
  omega (arith, c.next_line.ensures.shorter),
)

pub returns-in-Some : goal.returns-in-Some
returns-in-Some c =
    let inv = c.loop-rest.invariant in
    bad_next _ _ c.next_line-in-loop-rest.ensures.lines inv.2
    (refused _ _ _ c.in-Some.why c.in-Some.is (c.in_ok-why.ensures.taken inv.1 inv.3))

pub loop-rest-preserved : goal.loop-rest-preserved
loop-rest-preserved c =
    let inv = c.loop-rest.invariant in
    let took = taken _ _ _ c.in_default.is (c.in_ok-why.ensures.taken inv.1 inv.3) in (
      c.take.ensures.window ∙ inv.0,
      followed_by inv.1 took.0,
      next _ _ took.0 c.next_line-in-loop-rest.ensures.lines inv.2 took.1,
      took.2,
      omega (arith, c.next_line-in-loop-rest.ensures.shorter, inv.4),
    )

pub returns : goal.returns
returns c =
    let inv = c.loop-rest.invariant in
    let none_left : length c.loop-rest.rest.now ≡ 0 = search rules in (
      inv.2.lines,
      ended c.loop-rest.rest.now none_left inv.2,
      c.in_ok-written.ensures inv.1 inv.3
          ∙ ap (λ (w : Window). spans_text w inv.1) inv.0
          ∙ ap (spans_text c.args.window) inv.2.moments,
    )
