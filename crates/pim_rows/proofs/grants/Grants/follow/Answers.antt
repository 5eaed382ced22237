use Rattle.std.proofs.Common.{true, false, refl, sym, ◌∙◌, ap, is_some, Some, ◌+◌}
use Rattle.pim_base.specs.State.{State, owner_of}
use Rattle.pim_world.specs.Worlds.{World}
use Rattle.pim_world.specs.After.{after, set}
use Rattle.pim_rows.specs.Moments.{now, number}
use Rattle.pim_rows.specs.Begun.{Grant, grant, grant_at}
use Rattle.pim_rows.specs.Kept.{kept_of}
use Rattle.pim_rows.proofs.Following.{grants_kept, grants_followed}
use Rattle.pim_rows.proofs.grants.Grants.follow.Goals as goal

pub returns-then-was : goal.returns-then-was
returns-then-was c ms l w line mutex was off are =
    grants_followed grant ms l
    (kept_of c.args.self.now.starts) (kept_of c.args.self.now.starts) c.in-Some.mutex true _
    (sym mutex ∙ c.in-Some.is) (sym c.if-was.true ∙ was c.in-Some.mutex c.in-Some.is) refl refl are

pub returns-then-is_none : goal.returns-then-is_none
returns-then-is_none c ms l w line mutex was off are =
    grants_followed grant ms l (kept_of c.args.self.now.starts)
    (kept_of c.args.self.now.starts) c.in-Some.mutex false false
    (sym mutex ∙ c.in-Some.is) (sym c.if-was.false ∙ was c.in-Some.mutex c.in-Some.is)
    (sym c.if-is_none.ensures ∙ ap is_some
    (c.owner.ensures ∙ ap (λ (S : State). owner_of S c.in-Some.mutex) c.waits.ensures
    ∙ ap (λ (w : World). owner_of w.state c.in-Some.mutex) w)) refl are

pub returns : goal.returns
returns c ms l w line mutex was off are =
    grants_followed grant ms l
    (kept_of c.args.self.now.starts) (kept_of c.begin.new.self) c.in-Some.mutex false true
    (sym mutex ∙ c.in-Some.is) (sym c.if-was.false ∙ was c.in-Some.mutex c.in-Some.is)
    (sym c.if-is_none.ensures ∙ ap is_some (c.owner.ensures ∙ ap (λ (S : State). owner_of S
    c.in-Some.mutex) c.waits.ensures ∙ ap (λ (w : World). owner_of w.state c.in-Some.mutex) w))
    (c.in_ok-begin.ensures
    ∙ rw c.mutex.view_is
    (ap (λ (b : Grant). set c.in-Some.mutex (Some b) (kept_of c.args.self.now.starts))
    (c.of.ensures ∙ ap (grant_at c.in-Some.mutex c.args.line c.args.off) w
    ∙ ap (λ n. grant_at c.in-Some.mutex n c.args.off (after (now ms) l)) line
    ∙ ap (λ d. grant_at c.in-Some.mutex (number ms + 1) d (after (now ms) l))
    (off c.in-Some.mutex c.in-Some.is)))) are

pub returns-in_default : goal.returns-in_default
returns-in_default c ms l w line mutex was off are =
    grants_kept grant ms l (kept_of c.args.self.now.starts) (sym mutex ∙ c.in_default.is) are
