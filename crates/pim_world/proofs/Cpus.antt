-- Which threads are on a CPU.
use Rattle.std.proofs.Common.{◌≡◌, ℕ, ◌≤◌, ◌∷◌, [], Bool, true, false, not, ◌&&◌, cond, length}
use Rattle.std.proofs.Common.{length-append, Option, Some, None, unwrap_or, option_and_then, inl}
use Rattle.std.proofs.Common.{inr, refl, sym, ◌∙◌, ap, arith}
use Rattle.std.specs.Prelude.{◌+◌}
use Rattle.std.proofs.lemmas.Bool.{cases_eq, ne_eqb, eq-eqb, and_from, true≢false}
use Rattle.std.proofs.lemmas.List.{length-replicate}
use Rattle.std.proofs.lemmas.Option.{same_Some, none-some}
use Rattle.pim_base.specs.Lists.{nth, put, holds}
use Rattle.pim_base.proofs.Places.{nth-put_same, nth-put_other, length-put}
use Rattle.pim_base.proofs.Stored.{holds_from}
use Rattle.pim_world.specs.declared.kernel.Off.{Off}
use Rattle.pim_world.specs.Worlds.{Kernel, last_cpu, is_on}
use Rattle.pim_world.specs.After.{set, without, put_on, put_off, with_runs, forgotten, more_kernel}
use Rattle.pim_world.specs.Steady.{IsSteadyKernel}
use Rattle.pim_world.proofs.Unknown.{nth-append_none}

-- how t is off a CPU
abbrev off_at : Kernel → ℕ → Option Off
off_at k t = unwrap_or (nth k.off t) None

pub steady_runs :
    (k : Kernel) (n t level : ℕ)
    → IsSteadyKernel k n
    → IsSteadyKernel (with_runs k t level) n
steady_runs k n t level s = record { cpus = s.cpus; offs = s.offs; on = s.on }

pub steady_forgotten : (k : Kernel) (n : ℕ) → IsSteadyKernel k n → IsSteadyKernel (forgotten k) n
steady_forgotten k n s = record {
  cpus = length-replicate (length k.cpu) None ∙ s.cpus;
  offs = length-replicate (length k.off) None ∙ s.offs;
  on = λ cpu t e. absurd (none-some t e);
}

pub steady_more : (k : Kernel) (n : ℕ) → IsSteadyKernel k n → IsSteadyKernel (more_kernel k) (n + 1)
steady_more k n s = record {
  cpus = length-append k.cpu (None ∷ []) ∙ ap (λ i. i + 1) s.cpus;
  offs = length-append k.off (None ∷ []) ∙ ap (λ i. i + 1) s.offs;
  on =
      λ cpu t e. let before =
      s.on cpu t e in (nth-append_none k.cpu t ∙ before.0, nth-append_none k.off t ∙ before.1);
}

-- a thread that is on a CPU was there last
on_last : (k : Kernel) (n cpu t : ℕ) → IsSteadyKernel k n → k.on cpu ≡ Some t → is_on k t ≡ true
on_last k n cpu t s e =
    ap (λ (last : Option ℕ). holds (option_and_then k.on last) t) (s.on cpu t e).0
    ∙ holds_from (k.on cpu) t e

-- another thread has the same CPU and the same off
other_same :
    (k : Kernel) (n cpu' t u c : ℕ) (off : Option Off)
    → IsSteadyKernel k n
    → (u ≡ t → ⊥)
    → k.on c ≡ Some u
    →
    (unwrap_or (nth (put k.cpu t (Some cpu')) u) None ≡ Some c)
    × (unwrap_or (nth (put k.off t off) u) None ≡ None)
other_same k n cpu' t u c off s ne e =
    let before = s.on c u e in (
      ap (λ v. unwrap_or v None) (nth-put_other k.cpu t u (Some cpu') (λ h. ne (sym h))) ∙ before.0,
      ap (λ v. unwrap_or v None) (nth-put_other k.off t u off (λ h. ne (sym h))) ∙ before.1,
    )

pub steady_on :
    (k : Kernel) (n t cpu : ℕ)
    → (1 ≤ t) × (t ≤ n)
    → not (is_on k t) ≡ true
    → IsSteadyKernel k n
    → IsSteadyKernel (put_on k t cpu) n
steady_on k n t cpu known out s = record {
  cpus = length-put k.cpu t (Some cpu) ∙ s.cpus;
  offs = length-put k.off t None ∙ s.offs;
  on = on;
}
  where
    on :
        (c u : ℕ)
        → set cpu (Some t) k.on c ≡ Some u
        → (last_cpu (put_on k t cpu) u ≡ Some c) × (off_at (put_on k t cpu) u ≡ None)
    on c u e = elim (cases_eq cpu c) [
      | inl here ↦
          let same : t ≡ u =
          same_Some t u (sym (ap (λ b. cond b (Some t) (k.on c)) (eq-eqb cpu c here)) ∙ e) in (
            ap (λ v. unwrap_or (nth (put k.cpu t (Some cpu)) v) None) (sym same)
                ∙ ap (λ v. unwrap_or v None)
                (nth-put_same k.cpu t (Some cpu) known.0 (omega (arith, known.1, s.cpus)))
                ∙ ap Some here,
            ap (λ v. unwrap_or (nth (put k.off t None) v) None) (sym same)
                ∙ ap (λ v. unwrap_or v None)
                (nth-put_same k.off t None known.0 (omega (arith, known.1, s.offs))),
          )
      | inr there ↦
          let before : k.on c ≡ Some u =
          sym (ap (λ b. cond b (Some t) (k.on c)) (ne_eqb cpu c there)) ∙ e in
          other_same k n cpu t u c None s
          (λ same. true≢false (sym out ∙ ap not (on_last k n c t s (before ∙ ap Some same)))) before
    ]

pub steady_off :
    (k : Kernel) (n t : ℕ) (off : Off)
    → IsSteadyKernel k n
    → IsSteadyKernel (put_off k t off) n
steady_off k n t off s = record {
  cpus = s.cpus;
  offs = length-put k.off t (Some off) ∙ s.offs;
  on = on;
}
  where
    left : (c u : ℕ) (b : Bool) → cond b None (k.on c) ≡ Some u → (b ≡ false) × (k.on c ≡ Some u)
    left c u true e = absurd (none-some u e)
    left c u false e = (refl, e)

    on :
        (c u : ℕ)
        → without k t c ≡ Some u
        → (last_cpu k u ≡ Some c) × (off_at (put_off k t off) u ≡ None)
    on c u e =
        let stays = left c u (holds (last_cpu k t) c && holds (k.on c) t) e in
        let other : u ≡ t → ⊥ =
        λ same.
        let here : k.on c ≡ Some t = stays.1 ∙ ap Some same in
        true≢false (sym (and_from _ _ (holds_from (last_cpu k t) c (s.on c t here).0)
        (holds_from (k.on c) t here)) ∙ stays.0) in (
          (s.on c u stays.1).0,
          ap (λ v. unwrap_or v None) (nth-put_other k.off t u (Some off) (λ h. other (sym h)))
              ∙ (s.on c u stays.1).1,
        )
