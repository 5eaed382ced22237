-- What is written of what is kept.
use Rattle.std.proofs.Common.{◌≡◌, ◌∙◌, ◌++◌, ◌≤◌, ◌+◌, ℕ, zero, suc, List, [], ◌∷◌, refl, sym, ap, flat_map, arith}
use Rattle.std.proofs.lemmas.Grind.{flat_map-append}
use Rattle.std.proofs.lemmas.List.{append-nil, append_assoc}
use Rattle.pim_base.specs.Lists.{numbers}
use Rattle.pim_base.proofs.Greatest.{numbers-more}
use Rattle.pim_world.specs.Worlds.{World}
use Rattle.pim_rows.specs.Moments.{Moment, now, clock}
use Rattle.pim_spans.specs.declared.kind.Kind.{Kind}
use Rattle.pim_spans.specs.Spans.{Window, start, lasting, ended, within}
use Rattle.pim_spans.specs.Words.{span_text}
use Rattle.pim_spans.specs.Holding.{holding}
use Rattle.pim_spans.specs.Kept.{Kept, IsKept, AreKept, all_text}
use Rattle.pim_spans.specs.Found.{place_text, kind_text}
use Rattle.pim_spans.proofs.Kept.{within-append}

-- at one place
place_is :
    (w : Window) (kind : Kind) (n : ℕ) (ms : List Moment) (k : Kept)
    → IsKept w (holding kind n) ms k
    → all_text w (now ms) kind n k ≡ place_text w ms kind n
place_is w kind n ms k is =
    let f = holding kind n in
    let text = span_text (now ms) kind n in
    ap (λ ss. flat_map text ss ++ flat_map text (within w (lasting (clock ms) k.lasts))) is.spans
    ∙ ap (λ l. flat_map text (within w (ended f ms)) ++ flat_map text (within w (lasting (clock ms) l)))
    is.lasts
    ∙ sym (flat_map-append text (within w (ended f ms)) (within w (lasting (clock ms) (start f ms))))
    ∙ ap (flat_map text) (sym (within-append w (ended f ms) (lasting (clock ms) (start f ms))))

pub flat_numbers-more :
    (f : ℕ → List ℕ) (n : ℕ)
    → flat_map f (numbers (n + 1)) ≡ flat_map f (numbers n) ++ f (n + 1)
flat_numbers-more f n =
    ap (flat_map f) (numbers-more n) ∙ flat_map-append f (numbers n) ((n + 1) ∷ [])
    ∙ ap (λ xs. flat_map f (numbers n) ++ xs) (append-nil (f (n + 1)))

-- at all places up to one
same_upto :
    (f g : ℕ → List ℕ) (n k : ℕ)
    → n ≡ k
    → ((i : ℕ) → 1 ≤ i → f i ≡ g i)
    → flat_map f (numbers n) ≡ flat_map g (numbers k)
same_upto f g n k e same = ap (λ n. flat_map f (numbers n)) e ∙ go k
  where
    go : (k : ℕ) → flat_map f (numbers k) ≡ flat_map g (numbers k)
    go zero = refl
    go (suc k) =
        let e : suc k ≡ k + 1 = omega arith in
        ap (λ n. flat_map f (numbers n)) e ∙ flat_numbers-more f k
        ∙ ap (λ xs. xs ++ f (k + 1)) (go k)
        ∙ ap (λ x. flat_map g (numbers k) ++ x) (same (k + 1) (omega arith))
        ∙ sym (flat_numbers-more g k) ∙ ap (λ n. flat_map g (numbers n)) (sym e)

pub kind_is :
    (w : Window) (kind : Kind) (ms : List Moment) (v : World) (kept : ℕ → Kept) (n k : ℕ)
    → v ≡ now ms
    → n ≡ k
    → AreKept w (holding kind) ms kept
    → flat_map (λ n. all_text w v kind n (kept n)) (numbers n) ≡ kind_text w ms kind k
kind_is w kind ms v kept n k e count are =
    ap (λ v. flat_map (λ n. all_text w v kind n (kept n)) (numbers n)) e
    ∙ same_upto (λ n. all_text w (now ms) kind n (kept n)) (place_text w ms kind) n k count
    (λ i low. place_is w kind i ms (kept i) (are i low))

-- one piece after another
pub five :
    (o a b c d e o1 o2 o3 o4 o5 : List ℕ)
    → o1 ≡ o ++ a
    → o2 ≡ o1 ++ b
    → o3 ≡ o2 ++ c
    → o4 ≡ o3 ++ d
    → o5 ≡ o4 ++ e
    → o5 ≡ o ++ (a ++ (b ++ (c ++ (d ++ e))))
five o a b c d e o1 o2 o3 o4 o5 h1 h2 h3 h4 h5 =
    h5 ∙ ap (λ x. x ++ e) (h4 ∙ ap (λ x. x ++ d) (h3 ∙ ap (λ x. x ++ c) (h2 ∙ ap (λ x. x ++ b) h1)))
    ∙ ap (λ x. x ++ e) (ap (λ x. x ++ d) (append_assoc (o ++ a) b c))
    ∙ ap (λ x. x ++ e) (append_assoc (o ++ a) (b ++ c) d)
    ∙ append_assoc (o ++ a) (b ++ c ++ d) e
    ∙ append_assoc o a (b ++ c ++ d ++ e)
    ∙ ap (λ x. o ++ (a ++ x)) (ap (λ x. x ++ e) (append_assoc b c d) ∙ append_assoc b (c ++ d) e ∙ ap (λ x. b ++ x) (append_assoc c d e))

-- one place more
pub one_more :
    (f : ℕ → List ℕ) (n : ℕ) (o o1 o2 : List ℕ)
    → o1 ≡ o ++ flat_map f (numbers n)
    → o2 ≡ o1 ++ f (n + 1)
    → o2 ≡ o ++ flat_map f (numbers (n + 1))
one_more f n o o1 o2 first second =
    second ∙ ap (λ x. x ++ f (n + 1)) first
    ∙ append_assoc o (flat_map f (numbers n)) (f (n + 1))
    ∙ ap (λ x. o ++ x) (sym (flat_numbers-more f n))
