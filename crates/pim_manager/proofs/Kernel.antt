-- Steps that the kernel asks for itself.
use Rattle.std.proofs.Common.{◌≡◌, ◌≢◌, ◌∙◌, ℕ, Bool, true, false, List, [], ◌∷◌, Some, None, ap, arith, length, refl}
use Rattle.std.proofs.lemmas.Bool.Decides.{nat_tests}
use Rattle.pim_base.specs.State.{State, IsTask, owner_of, wait_of}
use Rattle.pim_base.specs.Checks.{owned_by_another, checks}
use Rattle.pim_base.specs.Steps.{unless, answer, after_reply, reply_of}
use Rattle.pim_base.specs.declared.steps.Op.{Op}
use Rattle.pim_base.specs.declared.steps.Refusal.{Refusal}
use Rattle.pim_base.specs.declared.steps.Reply.{Reply}
use Rattle.pim_base.proofs.Places.{length-put}
use Rattle.pim_manager.specs.Kernel.{after_kernel, IsBystander, IsAnsweredAlike, IsForOwned}
use Rattle.pim_manager.specs.declared.kernel_op.KernelOp.{KernelOp}

-- a refused step keeps the number of tasks, so it is enough to look at the other reply
bases_unless :
    (S : State) (a : ℕ) (op : Op) (tests : List (Bool × Refusal)) (r : Reply)
    → length (after_reply S a op r).base ≡ length S.base
    → length (after_reply S a op (unless tests r)).base ≡ length S.base
bases_unless S a op [] r same = same
bases_unless S a op ((true, e) ∷ tests) r same = refl
bases_unless S a op ((false, e) ∷ tests) r same = bases_unless S a op tests r same

-- the kernel's step keeps the number of tasks
pub bases_after_kernel : (S : State) (k : KernelOp) → length (after_kernel S k).base ≡ length S.base
bases_after_kernel S (KernelOp.Cancel t) = bases_unless S 0 (Op.Cancel t) (checks S 0 (Op.Cancel t)) Reply.Withdrawn refl
bases_after_kernel S (KernelOp.SetBase t p) =
    bases_unless S 0 (Op.SetBase t p) (checks S 0 (Op.SetBase t p)) Reply.Set (length-put S.base t p)
bases_after_kernel S (KernelOp.SetCeiling m p) =
    bases_unless S 0 (Op.SetCeiling m p) (checks S 0 (Op.SetCeiling m p)) Reply.Set refl

-- owners are known tasks
abbrev pub OwnersAreTasks : State → Type 0
OwnersAreTasks S = (m t : ℕ) → owner_of S m ≡ Some t → IsTask S t

-- a known task that doesn't wait may ask
may_ask : (S : State) (t : ℕ) (op : Op) → IsTask S t → wait_of S t ≡ None → reply_of S (record { actor = t; op = op }) ≡ answer S t op
may_ask S t op known idle = grind (arith, nat_tests)

-- whoever doesn't own the mutex finds it owned by another, if it is owned
another : (S : State) (t m : ℕ) → OwnersAreTasks S → owner_of S m ≢ Some t → owned_by_another S t m ≡ owned_by_another S 0 m
another S t m owners apart = grind (arith, nat_tests, owners m)

pub answered_alike : (S : State) (t : ℕ) (k : KernelOp) → OwnersAreTasks S → IsBystander S t k → IsAnsweredAlike S t k
answered_alike S t (KernelOp.Cancel u) owners b =
    let is = may_ask S t (Op.Cancel u) b.known b.idle in
    record { reply = is; state = ap (after_reply S t (Op.Cancel u)) is ∙ grind (arith, nat_tests) }
answered_alike S t (KernelOp.SetBase u p) owners b =
    let is = may_ask S t (Op.SetBase u p) b.known b.idle in
    record { reply = is; state = ap (after_reply S t (Op.SetBase u p)) is ∙ grind (arith, nat_tests) }
answered_alike S t (KernelOp.SetCeiling m p) owners b =
    let is = may_ask S t (Op.SetCeiling m p) b.known b.idle in
    let same = another S t m owners b.apart in
    record { reply = is ∙ grind (arith, nat_tests, same); state = ap (after_reply S t (Op.SetCeiling m p)) is ∙ grind (arith, nat_tests, same) }

-- the kernel sets no ceiling of an owned mutex
pub owned_stays : (S : State) (k : KernelOp) → OwnersAreTasks S → IsForOwned S k → after_kernel S k ≡ S
owned_stays S k owners h = grind (arith, nat_tests, owners h.mutex, h.sets, h.owned)
