use Rattle.std.proofs.Common.{◌<◌, ◌+◌, ◌^◌}
use Rattle.pim_rows.specs.Tables.{total}
use Rattle.pim_rows.proofs.Changes.{total-added}
use Rattle.pim_rows.proofs.table.Times.add.Goals as goal

pub invariant_of-self : goal.invariant_of-self
invariant_of-self c =
    let fits : total c.self.inside.rows.items + c.args.time < 2 ^ 64 =
    rw c.self.view_is c.requires in
    total-added c.in-Some.key c.args.time _ _ _ c.add_row.ensures.ok c.add_row.ensures.err fits
