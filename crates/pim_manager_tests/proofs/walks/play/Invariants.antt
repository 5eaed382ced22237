use Rattle.std.proofs.Common.{None}
use Rattle.pim_chain.specs.Views.{stored_at}
use Rattle.pim_chain.specs.Settled.{SettledBut}
use Rattle.pim_manager_tests.proofs.walks.play.Given as goal

abbrev pub invariant-loop-row : goal.invariant-loop-row
invariant-loop-row g l = SettledBut l.tables.state (stored_at l.tables) None
