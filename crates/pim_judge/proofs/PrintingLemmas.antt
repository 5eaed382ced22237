-- How what was written so far, and what is in the page, go on.
use Rattle.std.proofs.Common.{◌≡◌, ℕ, List, [], ◌++◌, Option, Some, None, Result, Ok}
use Rattle.std.proofs.Common.{Err, ◌∙◌, ap, sym, append_assoc, refl, inl, inr, subst}
use Rattle.std.proofs.lemmas.List.{append-nil}
use Rattle.std.specs.Result.{IsErrAnd}
use Rattle.pim_judge.specs.declared.fault.Fault.{Fault}
use Rattle.pim_judge.specs.declared.fault.Fault.TheVariants as faults
use Rattle.pim_judge.specs.Prints.{Stops, Prints}
use Rattle.pim_page.specs.Ends.{Told, Puts, Appends, AppendsBut, AppendsFront, Fails, Happened}

-- whole is what is written in the end, and rest is what comes after these bytes
but_more :
    (a b c : Option (List ℕ)) (whole page bytes rest left : List ℕ)
    → AppendsBut a b whole (page ++ (bytes ++ rest))
    → AppendsBut b c (page ++ bytes) left
    → AppendsBut a c whole (left ++ rest)
but_more None b c whole page bytes rest left first second = tt
but_more (Some had) b c whole page bytes rest left (f, is, e) second =
    let g = subst (λ (o : Option (List ℕ)). AppendsBut o c (page ++ bytes) left) e second in (
      f ++ g.0,
      is
          ∙ ap (λ t. f ++ t) (sym (append_assoc page bytes rest) ∙ ap (λ t. t ++ rest) g.1 ∙ append_assoc g.0 left rest)
          ∙ sym (append_assoc f g.0 (left ++ rest)),
      g.2 ∙ ap Some (append_assoc had f g.0),
    )

nothing : (o : Option (List ℕ)) (bytes : List ℕ) → AppendsBut o o bytes bytes
nothing None bytes = tt
nothing (Some had) bytes = ([], refl, ap Some (sym (append-nil had)))

-- nothing was written: all is in the page
pub puts_none : {a : Told} {bytes rest : List ℕ} → bytes ≡ rest → Puts a a bytes rest
puts_none {a} {bytes} {rest} e =
    subst (λ (b : List ℕ). Puts a a bytes b) e
    (record { contents = nothing a.contents bytes; failures = refl; stalls = refl })

-- these bytes came next
pub puts_next :
    {a b c : Told} {whole left : List ℕ} (page bytes rest all : List ℕ)
    → all ≡ bytes ++ rest
    → Puts a b whole (page ++ all)
    → Puts b c (page ++ bytes) left
    → Puts a c whole (left ++ rest)
puts_next {a} {b} {c} {whole} {left} page bytes rest all e first second =
    let now = subst (λ (t : List ℕ). Puts a b whole (page ++ t)) e first in
    record {
      contents = but_more a.contents b.contents c.contents whole page bytes rest left now.contents second.contents;
      failures = second.failures ∙ first.failures;
      stalls = second.stalls ∙ first.stalls;
    }

-- it stopped at these bytes
pub stops_next :
    {a b c : Told} {whole : List ℕ} {fault : Fault} (page bytes rest all : List ℕ)
    → all ≡ bytes ++ rest
    → Puts a b whole (page ++ all)
    → Stops b c (page ++ bytes) fault
    → Stops a c whole fault
stops_next {a} {b} {c} {whole} {fault} page bytes rest all e first second =
    let now = subst (λ (t : List ℕ). Puts a b whole (page ++ t)) e first in
    let (front, fits) = second.contents in
    record {
      contents =
          (front ++ rest, but_more a.contents b.contents c.contents whole page bytes rest front now.contents fits);
      write = λ is. elim (second.write is) as (λ _. Fails a c) [
        | inl h ↦ inl (subst (λ n. Happened n c.failures) first.failures h)
        | inr h ↦ inr (subst (λ n. Happened n c.stalls) first.stalls h)
      ];
      others = second.others;
    }

-- the last bytes
pub puts_last : {a b c : Told} {whole left : List ℕ} (page bytes all : List ℕ) → all ≡ bytes ++ [] →
    Puts a b whole (page ++ all) → Puts b c (page ++ bytes) left → Puts a c whole left
puts_last {a} {b} {c} {whole} {left} page bytes all e first second =
    subst (λ (t : List ℕ). Puts a c whole t) (append-nil left) (puts_next page bytes [] all e first second)

-- what is in the page, and nothing more
pub puts_page :
    {a b c : Told} {whole left : List ℕ} (page : List ℕ)
    → Puts a b whole page
    → Puts b c (page ++ []) left
    → Puts a c whole left
puts_page {a} {b} {c} {whole} {left} page first second =
    puts_last page [] [] refl (subst (λ (t : List ℕ). Puts a b whole t) (sym (append-nil page)) first) second

-- and then nothing is left
pub puts_all :
    {a b c : Told} {whole left : List ℕ} (page : List ℕ)
    → left ≡ []
    → Puts a b whole page
    → Puts b c (page ++ []) left
    → Puts a c whole []
puts_all {a} {b} {c} {whole} {left} page none first second =
    subst (λ (l : List ℕ). Puts a c whole l) none (puts_page page first second)

pub stops_page :
    {a b c : Told} {whole : List ℕ} {fault : Fault} (page : List ℕ)
    → Puts a b whole page
    → Stops b c (page ++ []) fault
    → Stops a c whole fault
stops_page {a} {b} {c} {whole} {fault} page first second =
    stops_next page [] [] [] refl (subst (λ (t : List ℕ). Puts a b whole t) (sym (append-nil page)) first) second

-- an allocation failed
pub stops_memory :
    {a b : Told} {whole left : List ℕ} {fault : Fault}
    → fault ≡ faults.Memory
    → Puts a b whole left
    → Stops a b whole fault
stops_memory {a} {b} {whole} {left} {fault} e first = record {
  contents = (left, first.contents);
  write = λ is. cc;
  others = inr e;
}

-- what an error says
pub prints_err : {T : Type 0} {a b : Told} {bytes : List ℕ} {fault : Fault} (page : List ℕ) (r : Result T Fault) →
    IsErrAnd r (λ e. e ≡ fault) → Stops a b bytes fault → Prints a b bytes page r
prints_err page (Ok x) h s = absurd h
prints_err {T} {a} {b} {bytes} {fault} page (Err e) h s = subst (λ (f : Fault). Stops a b bytes f) (sym h) s

-- an allocation failed before anything was written
pub prints_unwritten :
    {T : Type 0} (a : Told) (bytes page : List ℕ) (r : Result T Fault)
    → IsErrAnd r (λ e. e ≡ faults.Memory)
    → Prints a a bytes page r
prints_unwritten a bytes page r is = prints_err page r is (stops_memory refl (puts_none {bytes = bytes} refl))

but_all : (a b : Option (List ℕ)) (whole : List ℕ) → AppendsBut a b whole [] → Appends a b whole
but_all None b whole h = tt
but_all (Some had) b whole (f, is, e) = e ∙ ap (λ (t : List ℕ). Some (had ++ t)) (sym (is ∙ append-nil f))

-- nothing is left
pub puts_whole : (a b : Told) (whole : List ℕ) → Puts a b whole [] → Appends a.contents b.contents whole
puts_whole a b whole first = but_all a.contents b.contents whole first.contents

pub stops_front :
    (a b : Told) (whole : List ℕ) (fault : Fault)
    → Stops a b whole fault
    → AppendsFront a.contents b.contents whole
stops_front a b whole fault first = first.contents
