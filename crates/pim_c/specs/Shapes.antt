-- The values of the structs that cross to C.
use Rattle.pim_base.specs.declared.steps.Reason.{Reason}
use Rattle.pim_base.specs.declared.steps.Waiter.{Waiter}
use Rattle.pim_manager.specs.declared.changed_prios.ChangedPrio.{ChangedPrio}
use Rattle.pim_manager.specs.declared.changed_tasks.ChangedTask.{ChangedTask}
use Rattle.pim_manager.specs.declared.handed_mutexes.HandedMutex.{HandedMutex}
use Rattle.pim_c.specs.declared.handed.CHanded.{CHanded}
use Rattle.pim_c.specs.declared.numbers.TheConstants.{OF_NOTHING, OF_BASE, OF_CEILING, OF_WAITER}
use Rattle.pim_c.specs.declared.reason.CReason.{CReason}
use Rattle.pim_c.specs.declared.waiter.CWaiter.{CWaiter}
use Rattle.pim_c.specs.declared.changed_prio.CChangedPrio.{CChangedPrio}
use Rattle.pim_c.specs.declared.changed_task.CChangedTask.{CChangedTask}

-- the reason, with 0 for what it doesn't name
abbrev pub c_reason : Reason → CReason
c_reason Reason.Base = record { kind = OF_BASE; task = 0; mutex = 0 }
c_reason (Reason.Ceiling m) = record { kind = OF_CEILING; task = 0; mutex = m }
c_reason (Reason.Waiter t m) = record { kind = OF_WAITER; task = t; mutex = m }

-- the reason of an unknown task
abbrev pub no_reason : CReason
no_reason = record { kind = OF_NOTHING; task = 0; mutex = 0 }

abbrev pub c_waiter : Waiter → CWaiter
c_waiter w = record { task = w.task; prio = w.prio; ticket = w.ticket }

abbrev pub c_changed_task : ChangedTask → CChangedTask
c_changed_task c = record { task = c.task; prio = c.prio; reason = c_reason c.reason }

abbrev pub c_changed_prio : ChangedPrio → CChangedPrio
c_changed_prio c = record { task = c.task; prio = c.prio }

abbrev pub c_handed : HandedMutex → CHanded
c_handed h = record { mutex = h.mutex; task = h.task }
