use Rattle.std.proofs.Common.{◌∙◌, sym, arith}
use Rattle.pim_fact_lines.specs.Words.{is_name}
use Rattle.pim_fact_lines.proofs.Fews.{none_left, one_more, other_next, after_last}
use Rattle.pim_fact_lines.proofs.name.are_names.Goals as goal

pub returns-in_default : goal.returns-in_default
returns-in_default c =
    none_left is_name _ c.loop-count._count c.loop-count.left c.loop-count.invariant c.in_default.is

pub returns-then-not-is_name : goal.returns-then-not-is_name
returns-then-not-is_name c =
    other_next
    is_name _ c.loop-count._count c.loop-count.left c.loop-count.invariant c.in-Some.bytes _ _
    c.in-Some.is c.cut.ensures (sym c.is_name.ensures ∙ c.if-not-is_name.true)

pub loop-count-preserved : goal.loop-count-preserved
loop-count-preserved c =
    one_more is_name _ c.loop-count._count
    c.loop-count.left c.loop-count.invariant c.in-Some.bytes _ c.cut.result.1
    c.in-Some.is c.cut.ensures (omega arith) (sym c.is_name.ensures ∙ c.if-not-is_name.false)

pub returns : goal.returns
returns c =
    after_last is_name _ c.loop-count._count c.loop-count.left c.loop-count.invariant _
    (omega arith)
    c.is_none.ensures
