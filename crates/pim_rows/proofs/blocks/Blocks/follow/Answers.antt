use Rattle.std.proofs.Common.{true, false, refl, sym, ◌∙◌, ap, is_some, Some}
use Rattle.pim_world.specs.Worlds.{World, blocked_at}
use Rattle.pim_world.specs.After.{after, set}
use Rattle.pim_rows.specs.Moments.{now}
use Rattle.pim_rows.specs.Begun.{Block, block, block_at}
use Rattle.pim_rows.specs.Kept.{kept_of}
use Rattle.pim_rows.proofs.Following.{blocks_followed}
use Rattle.pim_rows.proofs.blocks.Blocks.follow.Goals as goal

pub returns-then-was : goal.returns-then-was
returns-then-was c ms l w line thread was are =
    blocks_followed block ms l
    (kept_of c.args.self.now.starts) (kept_of c.args.self.now.starts) c.in-Some.thread true _
    (sym thread ∙ c.in-Some.is)
    (sym c.if-was.true ∙ was c.in-Some.thread c.in-Some.is) refl refl are

pub returns-then-is_none : goal.returns-then-is_none
returns-then-is_none c ms l w line thread was are =
    blocks_followed block ms l (kept_of c.args.self.now.starts)
    (kept_of c.args.self.now.starts) c.in-Some.thread false false
    (sym thread ∙ c.in-Some.is) (sym c.if-was.false ∙ was c.in-Some.thread c.in-Some.is)
    (sym c.if-is_none.ensures ∙ ap is_some
    (c.blocked.ensures ∙ ap (λ (w : World). blocked_at w c.in-Some.thread) w)) refl are

pub returns : goal.returns
returns c ms l w line thread was are =
    blocks_followed block ms l
    (kept_of c.args.self.now.starts) (kept_of c.begin.new.self) c.in-Some.thread false true
    (sym thread ∙ c.in-Some.is) (sym c.if-was.false ∙ was c.in-Some.thread c.in-Some.is)
    (sym c.if-is_none.ensures
    ∙ ap is_some (c.blocked.ensures ∙ ap (λ (w : World). blocked_at w c.in-Some.thread) w))
    (c.in_ok-begin.ensures
    ∙ rw c.thread.view_is
    (ap (λ (b : Block). set c.in-Some.thread (Some b) (kept_of c.args.self.now.starts))
    (c.of.ensures ∙ ap (block_at c.in-Some.thread c.args.line) w
    ∙ ap (λ n. block_at c.in-Some.thread n (after (now ms) l)) line))) are
