use Rattle.std.proofs.Common.{◌∙◌, sym, ap, ◌++◌, ◌∷◌, []}
use Rattle.pim_world.specs.Standing.{thread_number}
use Rattle.pim_rows.proofs.Cycles.{walk_start, walk_more, walk_none, walk_end, walk_found}
use Rattle.pim_world.specs.Held.{world_of}
use Rattle.pim_rows.proofs.deadlocks.find_cycle.Goals as goal

pub loop-hop-init : goal.loop-hop-init
loop-hop-init c =
    walk_start _ _ _ _ _ _ c.blocker-next.ensures
    (c.in_ok-push_number.ensures ∙ ap (λ xs.
    xs ++ thread_number (world_of c.args.world.now) c.args.thread ∷ []) c.clear.ensures.items)

pub loop-hop-preserved : goal.loop-hop-preserved
loop-hop-preserved c =
    walk_more _ _ _ _ _ _ _ _ _ _ c.loop-hop-test.true
    (λ e. c.if-there-thread.false (c.there.view_is ∙ e ∙ sym c.thread.view_is))
    c.in-Some.is
    c.blocker-next-in-loop-hop.ensures c.in_ok-push_number-2.ensures c.loop-hop.invariant

pub returns-in_default-clause-found : goal.returns-in_default-clause-found
returns-in_default-clause-found c =
    walk_none _ _ _ _ _ _ _ _ c.requires c.in_default.is c.loop-hop.invariant

pub returns-then-there-thread-clause-found : goal.returns-then-there-thread-clause-found
returns-then-there-thread-clause-found c =
    (walk_found _ _ _ _ _ _ _ _ _ c.requires c.loop-hop-test.true
    (sym c.there.view_is
    ∙ c.if-there-thread.true ∙ c.thread.view_is) c.in-Some.is c.loop-hop.invariant).0

pub returns-then-there-thread-clause-numbers : goal.returns-then-there-thread-clause-numbers
returns-then-there-thread-clause-numbers c = λ found.
    (walk_found _ _ _ _ _ _ _ _ _ c.requires c.loop-hop-test.true
    (sym c.there.view_is
    ∙ c.if-there-thread.true ∙ c.thread.view_is) c.in-Some.is c.loop-hop.invariant).1

pub returns-clause-found : goal.returns-clause-found
returns-clause-found c =
    walk_end _ _ _ _ _ _ _ _ c.requires c.loop-hop-test.false c.loop-hop.invariant
