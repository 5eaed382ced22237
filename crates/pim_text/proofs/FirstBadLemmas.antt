-- The first bad line, if the first lines of a text are a text again.
use Rattle.std.proofs.Common.{ℕ, ◌-◌, ◌<◌, inl, inr, List, take, drop, length, arith, sym, ap, subst}
use Rattle.std.proofs.lemmas.List.{take-append-drop, take-take, length-take}
use Rattle.std.proofs.lemmas.Bool.{cases_order}
use Rattle.pim_base.specs.Texts.{IsTrace, FirstBad}
use Rattle.pim_base.specs.Scripts.{IsScript}
use Rattle.pim_text.specs.declared.kind.Kind.{Kind}
use Rattle.pim_text.specs.declared.kind.Kind.TheVariants as kinds
use Rattle.pim_text.specs.Kinds.{IsOf}
use Rattle.pim_text.specs.Laws.{AtMostOneIsFirst, ValidHasNone}
use Rattle.pim_text.proofs.GrowthLemmas.{front_is}

-- the first n of such lines are such lines
abbrev HasFronts : (List (List ℕ) → Type 0) → Type 0
HasFronts Is = (ls : List (List ℕ)) (n : ℕ) → 0 < n → Is ls → Is (take n ls)

fronts : (kind : Kind) → HasFronts (IsOf kind)
fronts kind ls n some is =
    front_is kind (take n ls) (drop n ls) (omega (arith, length-take n ls, ap length is.1.0.1))
    (subst (IsOf kind) (sym (take-append-drop n ls)) is)

pub trace_fronts : HasFronts IsTrace
trace_fronts ls n some is = let front = fronts kinds.Trace ls n some (is.0, (is.1, tt)) in (front.0, front.1.0)

pub script_fronts : HasFronts IsScript
script_fronts = fronts kinds.Script

pub valid_has_none : (Is : List (List ℕ) → Type 0) → HasFronts Is → ValidHasNone Is
valid_has_none Is has ls n is bad = bad.2 (has ls n bad.1 is)

-- no later line is the first
not_later :
    (Is : List (List ℕ) → Type 0)
    → HasFronts Is
    → (ls : List (List ℕ)) (n k : ℕ)
    → n < k
    → FirstBad Is ls n
    → FirstBad Is ls k
    → ⊥
not_later Is has ls n k before bad later = elim later.0 [
  | inl one ↦ omega (arith, one, before, bad.1)
  | inr is ↦ bad.2 (subst Is (take-take n (k - 1) ls (omega (arith, before))) (has (take (k - 1) ls) n bad.1 is))
]

pub at_most_one_is_first : (Is : List (List ℕ) → Type 0) → HasFronts Is → AtMostOneIsFirst Is
at_most_one_is_first Is has ls n k bad other = elim (cases_order n k) [
  | inl same ↦ same
  | inr (inl before) ↦ absurd (not_later Is has ls n k before bad other)
  | inr (inr before) ↦ absurd (not_later Is has ls k n before other bad)
]
