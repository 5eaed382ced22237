use Rattle.std.proofs.Common.{◌∙◌, ◌++◌, sym, ap, ℕ, List, subst}
use Rattle.pim_world.specs.After.{after}
use Rattle.pim_world.specs.Held.{world_of, touched_of}
use Rattle.pim_world.specs.Worlds.{Kernel}
use Rattle.pim_rows.specs.Moments.{now}
use Rattle.pim_rows.specs.AllOpen.{AreSame}
use Rattle.pim_rows.proofs.Calm.{calm_now}
use Rattle.pim_rows.proofs.SameStanding.{same_touched, same_inverted, same_all}
use Rattle.pim_rows.proofs.affected.put_affected.Goals as goal

pub returns-then-affects_all : goal.returns-then-affects_all
returns-then-affects_all c ms is_after are touches opens =
    same_all
    (now ms) (world_of c.args.world.now) c.args.line.now is_after are _
    c.in_ok-put_all_threads.ensures

pub returns-then-is_idle : goal.returns-then-is_idle
returns-then-is_idle c ms is_after are touches opens =
    let P : List ℕ → Type 0 = λ ts. AreSame (now ms) (after (now ms) c.args.line.now) ts in
    subst P (sym (c.in_ok-put_touched.ensures
    ∙ ap (λ (ts : List ℕ). ts ++ touched_of c.args.world.now) c.clear.ensures.items))
    (same_touched (now ms)
    (world_of c.args.world.now) c.args.line.now is_after are (touched_of c.args.world.now)
    (sym c.keeps_rest.ensures ∙ c.if-keeps_rest.true)
    (λ cpu. ap (λ (k : Kernel). k.on cpu) (sym c.kernel.ensures)
    ∙ c.is_idle.ensures c.if-is_idle.true cpu) touches)

pub returns : goal.returns
returns c ms is_after are touches opens =
    let P : List ℕ → Type 0 = λ ts. AreSame (now ms) (after (now ms) c.args.line.now) ts in
    subst P (sym c.in_ok-put_touched-2.ensures)
    (same_inverted (now ms)
    (world_of c.args.world.now) c.args.line.now is_after are (touched_of c.args.world.now)
    _ (sym c.affects_all.ensures ∙ c.if-affects_all.false) touches
    (calm_now ms c.args.opens.now.opens.items
    _ opens c.in_ok-put_inverted.ensures))
