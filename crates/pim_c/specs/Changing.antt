-- Another protocol for a free mutex, as C asks for it.
use Rattle.std.specs.Prelude.{ℕ, ◌==◌, is_none, [], Option, if◌then◌else◌}
use Rattle.std.specs.Option.{option_map, option_map_or}
use Rattle.pim_base.specs.Reports.{refusal_number}
use Rattle.pim_base.specs.State.{State, with_protocol}
use Rattle.pim_manager.specs.Protocols.{protocol_refusal}
use Rattle.pim_c.specs.Answers.{no_answer}
use Rattle.pim_manager.specs.Changed.{TrackedState}
use Rattle.pim_ffi.specs.Protocols.{protocol_meant}
use Rattle.pim_c.specs.declared.answer.CAnswer.{CAnswer}
use Rattle.pim_c.specs.declared.numbers.TheConstants.{SET, REFUSED, REFUSED_NO_PROTOCOL}
use Rattle.pim_ffi.specs.declared.protocol.CProtocol.{CProtocol}

-- why m can't have this protocol, or 0: the struct means none (POSIX.1-2017, pthread_mutexattr_setprotocol: EINVAL), or
-- m can't have another one
abbrev pub c_protocol_refusal : State → ℕ → CProtocol → ℕ
c_protocol_refusal S m p =
    if is_none (protocol_meant p) then REFUSED_NO_PROTOCOL
    else option_map_or refusal_number (protocol_refusal S m) 0

-- the answer with this refusal, or 0
abbrev pub set_or_refused : ℕ → CAnswer
set_or_refused r = record { kind = if r == 0 then SET else REFUSED; refusal = r; number = 0; visits = 0; changed = 0 }

-- the answer, also of a handle without a manager
abbrev pub protocol_answer : Option TrackedState → ℕ → CProtocol → CAnswer
protocol_answer held m p = option_map_or (λ (h : TrackedState). set_or_refused (c_protocol_refusal h.state m p)) held no_answer

-- m has the protocol that C means, no task is listed as changed, and no mutex as handed over
abbrev pub with_meant : TrackedState → ℕ → CProtocol → TrackedState
with_meant h m p = option_map_or (λ q. record { state = with_protocol h.state m q; changed = []; handed = [] }) (protocol_meant p) h

-- the value after the change, or what it was if that is refused
abbrev pub reprotocoled : TrackedState → ℕ → CProtocol → TrackedState
reprotocoled h m p = if c_protocol_refusal h.state m p == 0 then with_meant h m p else h

-- the value behind a handle after the change, or None if it has no manager
abbrev pub after_protocol : Option TrackedState → ℕ → CProtocol → Option TrackedState
after_protocol held m p = option_map (λ h. reprotocoled h m p) held
