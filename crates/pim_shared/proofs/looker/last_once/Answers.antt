use Rattle.pim_shared.proofs.Entering.{enters_turns, has_seen_more, ends_after}
use Rattle.pim_shared.proofs.looker.last_once.Goals as goal

pub enter_as-requires : goal.enter_as-requires
enter_as-requires c v = enters_turns _ _ v

pub returns-in-Ok : goal.returns-in-Ok
returns-in-Ok c =
    let e = c.in-Ok.ensures.1 in (
      has_seen_more _ _ _ _ _ c.requires e c.leave.ensures.1 c.get-version.ensures,
      ends_after _ _ _ _ _ c.requires e c.leave.ensures.1 c.get-version.ensures,
    )
