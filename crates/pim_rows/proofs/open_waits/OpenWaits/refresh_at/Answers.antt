use Rattle.std.proofs.Common.{◌∙◌, ap, sym}
use Rattle.pim_base.specs.Lists.{nth}
use Rattle.pim_rows.proofs.Opening.{before_place}
use Rattle.pim_rows.proofs.open_waits.OpenWaits.refresh_at.Goals as goal

pub refresh_in-requires-clause-until : goal.refresh_in-requires-clause-until
refresh_in-requires-clause-until c w e =
    c.requires w
    (ap (nth c.args.self.now.opens.items)
    (sym (before_place c.thread.inside.0 c.if-thread-eq0.false ∙ c.thread.view_is)) ∙ e)
