use Rattle.std.proofs.Common.{ℕ, List, [], ◌∷◌, ◌++◌, ◌∙◌, ap, sym}
use Rattle.std.specs.Option.{option_map_or}
use Rattle.pim_world.specs.Held.{world_of, touched_of}
use Rattle.pim_rows.proofs.KeptLevels.{changed_none, changed_all, changed_some}
use Rattle.pim_rows.proofs.run_changes.changed.Goals as goal

pub returns-then-not-may_run : goal.returns-then-not-may_run
returns-then-not-may_run c w is_after even thread unrun moved touches =
    changed_none w (world_of c.args.world.now) c.args.line.now is_after even _ c.new.ensures.items
    (unrun c.if-not-may_run.true)

pub returns-then-moves_all : goal.returns-then-moves_all
returns-then-moves_all c w is_after even thread unrun moved touches =
    changed_all w (world_of c.args.world.now) c.args.line.now is_after even _
    (moved c.if-not-may_run.false (sym c.moves_all.ensures ∙ c.if-moves_all.true))

pub returns : goal.returns
returns c w is_after even thread unrun moved touches =
    changed_some w (world_of c.args.world.now) c.args.line.now is_after even c.args.thread
    (touched_of c.args.world.now)
    c.deref.result.now _ (sym c.moves_all.ensures ∙ c.if-moves_all.false) thread touches
    (c.deref.ensures.value ∙ c.in_ok-touched.ensures
    ∙ ap (λ (ts : List ℕ). option_map_or (λ (t : ℕ). ts ++ t ∷ []) c.args.thread ts)
    c.touched.ensures)
    c.in_ok-threads.ensures
