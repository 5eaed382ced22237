use Rattle.std.proofs.Common.{◌∙◌, sym, arith}
use Rattle.pim_fact_lines.specs.Words.{is_place}
use Rattle.pim_fact_lines.proofs.Fews.{none_left, one_more, other_next, after_last}
use Rattle.pim_fact_lines.proofs.name.are_places.Goals as goal

pub returns-in_default : goal.returns-in_default
returns-in_default c =
    none_left
    is_place _ c.loop-count._count c.loop-count.left c.loop-count.invariant c.in_default.is

pub returns-then-not-is_place : goal.returns-then-not-is_place
returns-then-not-is_place c =
    other_next
    is_place _ c.loop-count._count c.loop-count.left c.loop-count.invariant c.in-Some.bytes _ _
    c.in-Some.is c.cut.ensures (sym c.is_place.ensures ∙ c.if-not-is_place.true)

pub loop-count-preserved : goal.loop-count-preserved
loop-count-preserved c =
    one_more is_place _ c.loop-count._count
    c.loop-count.left c.loop-count.invariant c.in-Some.bytes _ c.cut.result.1
    c.in-Some.is c.cut.ensures (omega arith) (sym c.is_place.ensures ∙ c.if-not-is_place.false)

pub returns : goal.returns
returns c =
    after_last is_place _ c.loop-count._count c.loop-count.left c.loop-count.invariant _
    (omega arith)
    c.is_none.ensures
