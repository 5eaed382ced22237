-- What lies outside of a component is untouched.
use Rattle.std.proofs.Common.{◌≡◌, ℕ, zero, suc, ◌==◌, ◌||◌, Bool, true, false, cond, Option, Some}
use Rattle.std.proofs.Common.{None, is_some, option_and_then, filter_map, nat_lt, [], ◌∷◌, length}
use Rattle.std.proofs.Common.{refl, sym, ◌∙◌, ap, le_antisymm}
use Rattle.std.specs.Option.{option_map, option_map_or}
use Rattle.std.proofs.lemmas.Option.{same_Some}
use Rattle.pim_base.specs.Lists.{contains, first_item}
use Rattle.pim_base.specs.State.{State, wait_of}
use Rattle.pim_base.specs.declared.steps.Wait.{Wait}
use Rattle.pim_base.specs.Chains.{chain, blocker}
use Rattle.pim_base.specs.Priorities.{effective_priority}
use Rattle.pim_base.proofs.Hops.{hops, Reaches, reaches_from_contains, first_hop}
use Rattle.pim_waits.specs.Around.{Around, IsSame}
use Rattle.pim_waits.specs.Touched.{IsKept, IsUntouched}
use Rattle.pim_waits.specs.Waiting.{gets, way, runner, blame, other_end, last_item, passes_less}
use Rattle.pim_waits.proofs.Ways.{contains-last_item, filter_map-same}
use Rattle.pim_waits.proofs.Flowing.{outside_effective}

-- the other way round
turned : (S T : State) (inside : ℕ → Bool) → Around S T inside → Around T S inside
turned S T inside around = record {
  tasks = sym around.tasks;
  same = λ t out.
      let s : IsSame S T t = around.same t out in
      record {
        base = sym s.base;
        own = sym s.own;
        wait = λ u e. sym (s.wait u (sym s.blocker ∙ e));
        blocker = sym s.blocker;
        heir = sym s.heir;
      };
  closed = around.closed_after;
  closed_after = around.closed;
}

module _ (S T : State) (inside : ℕ → Bool) (around : Around S T inside) where
  gets_same : (t : ℕ) → inside t ≡ false → effective_priority T t ≡ effective_priority S t
  gets_same t out =
      le_antisymm (outside_effective T S inside (turned S T inside around) t out)
      (outside_effective S T inside around t out)

  way_same : (n t : ℕ) → inside t ≡ false → chain (blocker T) n t ≡ chain (blocker S) n t
  way_same zero t out = refl
  way_same (suc n) t out =
      ap (λ o. t ∷ option_map_or (chain (blocker T) n) o []) (around.same t out).blocker
      ∙ go (way_same n) (blocker S t) refl
    where
      go :
          ((u : ℕ) → inside u ≡ false → chain (blocker T) n u ≡ chain (blocker S) n u)
          → (o : Option ℕ)
          → blocker S t ≡ o
          → t ∷ option_map_or (chain (blocker T) n) o []
          ≡ t ∷ option_map_or (chain (blocker S) n) o []
      go rest None e = refl
      go rest (Some u) e = ap (λ ts. t ∷ ts) (rest u (sym (around.closed t u e) ∙ out))

  outside_on_way : (k t u : ℕ) → hops (blocker S) k t ≡ Some u → inside t ≡ false → inside u ≡ false
  outside_on_way zero t u e out = ap inside (sym (same_Some t u e)) ∙ out
  outside_on_way (suc k) t u e out =
      let f = first_hop (blocker S) k t u e in
      outside_on_way k f.0 u f.2 (sym (around.closed t f.0 f.1) ∙ out)

  kept_outside : (t : ℕ) → inside t ≡ false → IsKept S T t
  kept_outside t out =
      let s : IsSame S T t = around.same t out in
      record { gets = gets_same t out; base = s.base; wait = s.wait; blocker = s.blocker }

  on_way_outside : (t u : ℕ) → inside t ≡ false → contains (way S t) u ≡ true → inside u ≡ false
  on_way_outside t u out on =
      let r : Reaches (blocker S) (length S.base) t u =
      reaches_from_contains (blocker S) (length S.base) t u on in
      outside_on_way r.0 t u r.2 out

  ways_same : (t : ℕ) → inside t ≡ false → way T t ≡ way S t
  ways_same t out = ap (λ n. chain (blocker T) n t) around.tasks ∙ way_same (length S.base) t out

  runner_same : (t : ℕ) → inside t ≡ false → runner T t ≡ runner S t
  runner_same t out =
      ap (λ ts. option_and_then (other_end T t) (last_item ts)) (ways_same t out)
      ∙ go (last_item (way S t)) refl
    where
      go :
          (o : Option ℕ)
          → last_item (way S t) ≡ o
          → option_and_then (other_end T t) o ≡ option_and_then (other_end S t) o
      go None e = refl
      go (Some u) e =
          let here = on_way_outside t u out (contains-last_item (way S t) u e) in
          ap (λ b. cond (u == t || is_some b) None (Some u)) (around.same u here).blocker

  passes_same : (level u : ℕ) → inside u ≡ false → passes_less T level u ≡ passes_less S level u
  passes_same level u out =
      ap (option_and_then (less T)) (around.same u out).blocker ∙ go (blocker S u) refl
    where
      less : State → ℕ → Option ℕ
      less X v =
          cond (nat_lt (gets X v) level) (option_map (λ (w : Wait). w.mutex) (wait_of X u)) None

      go :
          (o : Option ℕ)
          → blocker S u ≡ o
          → option_and_then (less T) o ≡ option_and_then (less S) o
      go None e = refl
      go (Some v) e =
          ap (λ g. cond (nat_lt g level) (option_map (λ (w : Wait). w.mutex) (wait_of T u)) None)
          (gets_same v (sym (around.closed u v e) ∙ out))
          ∙ ap (λ w. cond (nat_lt (gets S v) level) (option_map (λ (w : Wait). w.mutex) w) None)
          ((around.same u out).wait v e)

  blame_same : (t : ℕ) → inside t ≡ false → blame T t ≡ blame S t
  blame_same t out =
      ap (λ ts. first_item (filter_map (passes_less T (gets T t)) ts)) (ways_same t out)
      ∙ ap (λ g. first_item (filter_map (passes_less T g) (way S t))) (gets_same t out)
      ∙ ap first_item
      (filter_map-same (passes_less T (gets S t)) (passes_less S (gets S t)) (way S t)
      (λ u on. passes_same (gets S t) u (on_way_outside t u out on)))

  pub untouched_outside : (t : ℕ) → inside t ≡ false → IsUntouched S T t
  untouched_outside t out = record {
    each = λ u on. kept_outside u (on_way_outside t u out on);
    runner = runner_same t out;
    blame = blame_same t out;
    way = ways_same t out;
  }
