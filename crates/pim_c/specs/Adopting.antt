-- A free mutex that a task comes to own, as C asks for it.
use Rattle.std.specs.Prelude.{ℕ, is_none, Option, Some, None, if◌then◌else◌}
use Rattle.std.specs.Option.{option_map, option_map_or}
use Rattle.pim_manager.specs.Adopting.{adopt_fault, with_adopted}
use Rattle.pim_manager.specs.Changed.{TrackedState}
use Rattle.pim_manager.specs.declared.adopt_fault.AdoptFault.{AdoptFault}
use Rattle.pim_c.specs.Answers.{no_answer}
use Rattle.pim_c.specs.declared.answer.CAnswer.{CAnswer}
use Rattle.pim_c.specs.declared.numbers.TheConstants.{GRANTED, REFUSED}
use Rattle.pim_c.specs.declared.numbers.TheConstants.{REFUSED_NO_TASK, REFUSED_NO_MUTEX, REFUSED_PROTECT, REFUSED_BUSY}

-- each fault has the number of a refusal
abbrev pub fault_number : AdoptFault → ℕ
fault_number AdoptFault.NoTask = REFUSED_NO_TASK
fault_number AdoptFault.NoMutex = REFUSED_NO_MUTEX
fault_number AdoptFault.Protect = REFUSED_PROTECT
fault_number AdoptFault.Busy = REFUSED_BUSY

-- granted, or refused for this fault
abbrev pub granted_or_refused : Option AdoptFault → CAnswer
granted_or_refused None = record no_answer { kind = GRANTED }
granted_or_refused (Some f) = record no_answer { kind = REFUSED; refusal = fault_number f }

-- the answer, also of a handle without a manager
abbrev pub adopt_answer : Option TrackedState → ℕ → ℕ → CAnswer
adopt_answer held t m =
    option_map_or (λ (h : TrackedState). granted_or_refused (adopt_fault h.state t m)) held no_answer

-- the value after the change, or what it was if that is refused
abbrev pub adopted : TrackedState → ℕ → ℕ → TrackedState
adopted h t m = if is_none (adopt_fault h.state t m) then with_adopted h t m else h

-- the value behind a handle after the change, or None if it has no manager
abbrev pub after_adopt : Option TrackedState → ℕ → ℕ → Option TrackedState
after_adopt held t m = option_map (λ h. adopted h t m) held
