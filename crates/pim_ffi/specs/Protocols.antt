-- Priorities and protocols in C.
use Rattle.std.specs.Prelude.{ℕ, Bool, nat_le, ◌&&◌, ◌==◌, Option, Some, None, if◌then◌else◌}
use Rattle.std.specs.Option.{option_map}
use Rattle.pim_base.specs.declared.steps.Protocol.{Protocol}
use Rattle.pim_ffi.specs.declared.numbers.TheConstants.{NONE, INHERIT, PROTECT, INHERIT_RECURSIVE, UNKNOWN}
use Rattle.pim_ffi.specs.declared.protocol.CProtocol.{CProtocol}

-- the number is 1 to 99
abbrev pub is_priority : ℕ → Bool
is_priority n = nat_le 1 n && nat_le n 99

-- the priority that C means, if it means one
abbrev pub priority_meant : ℕ → Option ℕ
priority_meant n = if is_priority n then Some n else None

-- the protocol, with 0 for the ceiling that it doesn't have
abbrev pub c_protocol : Protocol → CProtocol
c_protocol Protocol.None = record { kind = NONE; ceiling = 0 }
c_protocol Protocol.Inherit = record { kind = INHERIT; ceiling = 0 }
c_protocol (Protocol.Protect c) = record { kind = PROTECT; ceiling = c }
c_protocol Protocol.InheritRecursive = record { kind = INHERIT_RECURSIVE; ceiling = 0 }

-- the protocol of an unknown mutex
abbrev pub no_protocol : CProtocol
no_protocol = record { kind = UNKNOWN; ceiling = 0 }

-- the protocol that C means, if it means one
abbrev pub protocol_meant : CProtocol → Option Protocol
protocol_meant p =
    if p.kind == NONE then Some Protocol.None
    else if p.kind == INHERIT then Some Protocol.Inherit
    else if p.kind == PROTECT then option_map (λ ceiling. Protocol.Protect ceiling) (priority_meant p.ceiling)
    else if p.kind == INHERIT_RECURSIVE then Some Protocol.InheritRecursive
    else None
