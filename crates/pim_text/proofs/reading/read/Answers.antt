use Rattle.std.proofs.Common.{◌+◌, ◌≤◌, arith}
use Rattle.pim_base.specs.declared.limits.TheConstants.{MAX_TASKS, MAX_MUTEXES, MAX_STEPS}
use Rattle.pim_text.specs.Reading.{trace_of}
use Rattle.pim_text.proofs.ReadingLemmas.{begins, no_version, bad_next, goes_on, count_small}
use Rattle.pim_text.proofs.reading.read.Goals as goal

pub loop-rest-init : goal.loop-rest-init
loop-rest-init c = begins _ _ _ _ _ _ c.next_line.ensures.lines c.in-Some.ensures c.new-text.ensures

pub returns-in_default : goal.returns-in_default
returns-in_default c = no_version _ _ _ _ c.next_line.ensures.lines c.in_default.ensures

pub overflow_add-number : goal.overflow_add-number
overflow_add-number c =
    let small : c.loop-rest.number ≤ 1 + MAX_TASKS + MAX_MUTEXES + MAX_STEPS = count_small c.loop-rest.invariant in
    omega arith

pub returns-then-not-branch : goal.returns-then-not-branch
returns-then-not-branch c =
    bad_next _ _ _ _ c.next_line-in-loop-rest.ensures.lines c.loop-rest.invariant c.if-not-branch.true
    c.in_ok-add_line.ensures

pub loop-rest-preserved : goal.loop-rest-preserved
loop-rest-preserved c =
    goes_on _ (trace_of c.add_line.new.text) _ _ _ c.next_line-in-loop-rest.ensures.lines c.loop-rest.invariant
    c.if-not-branch.false c.in_ok-add_line.ensures
