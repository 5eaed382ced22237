use Rattle.std.proofs.Common.{◌≡◌, ℕ, List, Option, Some, None, MatchOption, length, arith, rules}
use Rattle.std.specs.List.{AllWithin}
use Rattle.std.proofs.lemmas.Iterator.{YieldsList-from_slice, first_from_find}
use Rattle.std.proofs.lemmas.Iterator.Consumers.{YieldsList-from_copied}
use borrow.Author.Tests.{tests}
use Rattle.pim_base.specs.declared.steps.Refusal.{Refusal}
use Rattle.pim_base.specs.declared.steps.TheConstants.Refusal.{ALL}
use Rattle.pim_base.specs.Spelling.{refusal_word}
use Rattle.pim_text.proofs.reply.refusal_of.Goals as goal

-- if no refusal of the list has the name, no refusal has it
named :
    (name : List ℕ) (Found : Refusal → Type 0) (r : Option Refusal)
    → ((r : Refusal) → Found r → name ≡ refusal_word r)
    → MatchOption r (AllWithin (λ r. name ≡ refusal_word r → ⊥) ALL 0 (length ALL)) Found
    → MatchOption r ((r : Refusal) → name ≡ refusal_word r → ⊥) (λ r. name ≡ refusal_word r)
named name Found (Some r) has h = has r h
named name Found None has h = none
  where
    none : (r : Refusal) → name ≡ refusal_word r → ⊥
    none Refusal.NoTask = h 0 Refusal.NoTask (omega arith) (omega arith)
    none Refusal.Waiting = h 1 Refusal.NoTask (omega arith) (omega arith)
    none Refusal.NoMutex = h 2 Refusal.NoTask (omega arith) (omega arith)
    none Refusal.Deadlock = h 3 Refusal.NoTask (omega arith) (omega arith)
    none Refusal.Ceiling = h 4 Refusal.NoTask (omega arith) (omega arith)
    none Refusal.Busy = h 5 Refusal.NoTask (omega arith) (omega arith)
    none Refusal.NotOwner = h 6 Refusal.NoTask (omega arith) (omega arith)
    none Refusal.NotWaiting = h 7 Refusal.NoTask (omega arith) (omega arith)
    none Refusal.Priority = h 8 Refusal.NoTask (omega arith) (omega arith)
    none Refusal.Tickets = h 9 Refusal.NoTask (omega arith) (omega arith)
    none Refusal.NotProtect = h 10 Refusal.NoTask (omega arith) (omega arith)
    none Refusal.Again = h 11 Refusal.NoTask (omega arith) (omega arith)

pub returns : goal.returns
returns c =
    let name = c.args.name.now in
    named name _ c.find.result (λ r found. found.0)
    (first_from_find _ _ c.find.result (λ r. name ≡ refusal_word r) (λ r. name ≡ refusal_word r → ⊥) c.find.ensures.ran
    (YieldsList-from_copied (YieldsList-from_slice ALL cc))
    (λ x q k. search (rules, tests))
    (λ x q k. search (rules, tests)))
