-- The scripts that were made, as far as they were compared.
use Rattle.std.proofs.Common.{◌≡◌, ◌<◌, ◌≤◌, ◌∷◌, ◌++◌, ℕ, zero, suc, [], List, Some, Vec, All, length, get_or, slice_get, sym, ap, ◌∙◌, subst, arith, ◌+◌, add-one, below_more}
use Rattle.std.proofs.lemmas.List.{length-map}
use Rattle.std.proofs.lemmas.Option.{same_Some, slice_get_within}
use Rattle.std.specs.Global.{Global}
use Rattle.pim_base.specs.Lists.{nth}
use Rattle.pim_base.specs.Runs.{IsInterleaving, asked_by}
use Rattle.pim_base.specs.declared.steps.Entry.{Entry}
use Rattle.pim_base.specs.declared.steps.Op.{Op}
use Rattle.pim_shared.specs.Gathered.{lines}

-- the task with this number made this script and then one release of all
abbrev pub HasMade : List Entry → ℕ → List Op → Type 0
HasMade es t script = asked_by t es ≡ script ++ Op.ReleaseAll ∷ []

length-lines : (scripts : List (Vec Op Global)) → length (lines scripts) ≡ length scripts
length-lines scripts = length-map scripts (λ (script : Vec Op Global). script.items)

-- each of the first n tasks did so
abbrev pub AllHaveMade : List Entry → List (Vec Op Global) → ℕ → Type 0
AllHaveMade es scripts n = (k : ℕ) → k < n → (script : List Op) → slice_get (lines scripts) k ≡ Some script → HasMade es (suc k) script

slice_get-lines : (scripts : List (Vec Op Global)) (k : ℕ) (v : Vec Op Global) → k < length scripts → v ≡ get_or scripts k v → slice_get (lines scripts) k ≡ Some v.items
slice_get-lines [] k v within is = let none : ⊥ = omega (arith, within) in absurd none
slice_get-lines (s ∷ scripts) zero v within is = ap (λ (w : Vec Op Global). Some w.items) (sym is)
slice_get-lines (s ∷ scripts) (suc k) v within is = slice_get-lines scripts k v (omega (arith, within)) is

-- in an interleaving the script at place k is that of task k + 1
pub has_made_at : (es : List Entry) (scripts : List (Vec Op Global)) (k : ℕ) (v : Vec Op Global) → k < length scripts → v ≡ get_or scripts k v
    → IsInterleaving es (lines scripts) → HasMade es (k + 1) v.items
has_made_at es scripts k v within is all = rw add-one (all.each (suc k) v.items (slice_get-lines scripts k v within is))

-- with that script there is one more
pub one_more_has_made : (es : List Entry) (scripts : List (Vec Op Global)) (k : ℕ) (v : Vec Op Global) → k < length scripts → v ≡ get_or scripts k v
    → AllHaveMade es scripts k → HasMade es (k + 1) v.items → AllHaveMade es scripts (k + 1)
one_more_has_made es scripts k v within is before whole =
    below_more (λ (n : ℕ). (script : List Op) → slice_get (lines scripts) n ≡ Some script → HasMade es (suc n) script) k before
    (λ script stands. subst (λ (n : ℕ). HasMade es n script) (add-one k)
    (subst (HasMade es (k + 1)) (same_Some v.items script (sym (slice_get-lines scripts k v within is) ∙ stands)) whole))

-- all scripts were made, and no other task has a step
pub is_interleaving : (es : List Entry) (scripts : List (Vec Op Global)) (n : ℕ) → length scripts ≤ n → AllHaveMade es scripts n
    → All (λ (e : Entry). (1 ≤ e.step.actor) × (e.step.actor ≤ length scripts)) es → IsInterleaving es (lines scripts)
is_interleaving es scripts n all whole known = record {
  each = each;
  no_other = subst (λ (m : ℕ). All (λ (e : Entry). (1 ≤ e.step.actor) × (e.step.actor ≤ m)) es) (sym (length-lines scripts)) known;
}
  where
    each : (t : ℕ) (script : List Op) → nth (lines scripts) t ≡ Some script → HasMade es t script
    each zero script stands = cc
    each (suc k) script stands =
        let within = slice_get_within (lines scripts) k script stands in
        whole k (omega (arith, within, length-lines scripts, all)) script stands

pub has_actors : (es : List Entry) (scripts : List (Vec Op Global)) → IsInterleaving es (lines scripts) → All (λ (e : Entry). (1 ≤ e.step.actor) × (e.step.actor ≤ length scripts)) es
has_actors es scripts h = subst (λ (m : ℕ). All (λ (e : Entry). (1 ≤ e.step.actor) × (e.step.actor ≤ m)) es) (length-lines scripts) h.no_other
