-- Protocols and waits of the facts, as those of the model.
use Rattle.std.specs.Prelude.{ℕ}
use Rattle.pim_base.specs.declared.steps.Wait.{Wait}
use Rattle.pim_base.specs.declared.steps.Protocol as base
use Rattle.pim_base.specs.declared.steps.Protocol.TheVariants as bases
use Rattle.pim_fact_lines.specs.declared.line.Protocol as line
use Rattle.pim_fact_lines.specs.declared.line.Protocol.TheVariants as lines

-- the protocol of the model
abbrev pub protocol_in_model : line.Protocol → base.Protocol
protocol_in_model lines.None = bases.None
protocol_in_model lines.Inherit = bases.Inherit
protocol_in_model (lines.Protect c) = bases.Protect c

-- a wait for this mutex. Nobody knows its place in a queue: what happened says who got the mutex
abbrev pub wait_for : ℕ → Wait
wait_for m = record { mutex = m; ticket = 0 }
