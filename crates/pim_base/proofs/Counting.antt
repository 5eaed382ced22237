-- How many numbers pass a test, and which.
use Rattle.std.proofs.Common.{◌≡◌, ℕ, zero, suc, ◌+◌, Bool, cond, [], ◌∷◌, length, refl, ap, sym, ◌∙◌, arith, filter, not, ◌==◌, rules}
use Rattle.std.proofs.lemmas.List.{length-append}
use Rattle.pim_base.specs.Lists.{numbers}
use Rattle.pim_base.specs.Counts.{count}
use Rattle.pim_base.specs.Priorities.{effective_priority}
use Rattle.pim_base.specs.RunLaws.{ChangedCountLaw}
use Rattle.pim_base.proofs.Greatest.{filter_numbers-next}

length-cond : (b : Bool) (n : ℕ) → length (cond b (n ∷ []) []) ≡ cond b 1 0
length-cond b n = search rules

pub count-length : (n : ℕ) (test : ℕ → Bool) → count n test ≡ length (filter test (numbers n))
unfolding count
count-length zero test = refl
count-length (suc n) test =
    ap (λ k. k + cond (test (suc n)) 1 0) (count-length n test)
    ∙ ap (λ k. length (filter test (numbers n)) + k) (sym (length-cond (test (suc n)) (suc n)))
    ∙ sym (length-append (filter test (numbers n)) (cond (test (suc n)) (suc n ∷ []) []))
    ∙ ap length (sym (filter_numbers-next test (suc n) n (test (suc n)) (omega arith) refl))

pub changed_count_law : ChangedCountLaw
changed_count_law S T = count-length (length S.base) (λ t. not (effective_priority S t == effective_priority T t))
