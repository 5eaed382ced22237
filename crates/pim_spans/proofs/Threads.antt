-- What is kept of threads, as it goes on by a line.
use Rattle.std.proofs.Common.{◌≡◌, ◌≢◌, ◌≤◌, ◌<◌, ◌+◌, ◌∙◌, ◌||◌, ℕ, Bool, true, false, List, [], ◌∷◌}
use Rattle.std.proofs.Common.{length, take, get_or, refl, sym, subst, inl, inr}
use Rattle.std.specs.Prelude.{◌==◌}
use Rattle.std.proofs.lemmas.Bool.{eq-eqb}
use Rattle.std.proofs.lemmas.Bool.Decides.{eqb_tells}
use Rattle.std.proofs.lemmas.List.{take_all}
use Rattle.pim_base.specs.Lists.{contains}
use Rattle.pim_rows.specs.Moments.{Moment}
use Rattle.pim_rows.proofs.InOrder.{contains_more}
use Rattle.pim_spans.specs.declared.kind.Kind.TheVariants as kinds
use Rattle.pim_spans.specs.declared.thread_tracks.ThreadTracks.{ThreadTracks}
use Rattle.pim_spans.specs.Spans.{Holding, Window}
use Rattle.pim_spans.specs.Holding.{holding, owned_by}
use Rattle.pim_spans.specs.Kept.{Kept, IsKept, IsEither, AreKept}
use Rattle.pim_spans.specs.Following.{IsThread, AreThreads, IsThreadEither, IsThreadLike, IsUnmoved}
use Rattle.pim_spans.specs.Following.{AreUnmoved}
use Rattle.pim_spans.proofs.Kept.{kept_still}

like_kept : (w : Window) (f : Holding) (hs : List Moment) (old new : Kept)
    → new ≡ old → IsKept w f hs old → IsKept w f hs new
like_kept w f hs old new e is = subst (IsKept w f hs) (sym e) is

like_thread :
    (w : Window) (hs : List Moment) (old new : ThreadTracks) (t : ℕ)
    → IsThreadLike old new t
    → IsThread w hs old t
    → IsThread w hs new t
like_thread w hs old new t like is = record {
  gets = like_kept w (holding kinds.Gets t) hs _ _ like.gets is.gets;
  waits = like_kept w (holding kinds.Waits t) hs _ _ like.waits is.waits;
  inverted = like_kept w (holding kinds.Inverted t) hs _ _ like.inverted is.inverted;
  stalled = like_kept w (holding kinds.Stalled t) hs _ _ like.stalled is.stalled;
}

like_both :
    (a b c : ThreadTracks) (t : ℕ)
    → IsThreadLike a b t
    → IsThreadLike b c t
    → IsThreadLike a c t
like_both a b c t first second = record {
  gets = second.gets ∙ first.gets;
  waits = second.waits ∙ first.waits;
  inverted = second.inverted ∙ first.inverted;
  stalled = second.stalled ∙ first.stalled;
}

like_same : (a : ThreadTracks) (t : ℕ) → IsThreadLike a a t
like_same a t = record { gets = refl; waits = refl; inverted = refl; stalled = refl }

either_before : (w : Window) (m : Moment) (ms : List Moment) (k : ThreadTracks) (t : ℕ)
    → IsThread w ms k t → IsThreadEither w m ms k t
either_before w m ms k t is = record {
  gets = inl is.gets;
  waits = inl is.waits;
  inverted = inl is.inverted;
  stalled = inl is.stalled;
}

either_after : (w : Window) (m : Moment) (ms : List Moment) (k : ThreadTracks) (t : ℕ)
    → IsThread w (m ∷ ms) k t → IsThreadEither w m ms k t
either_after w m ms k t is = record {
  gets = inr is.gets;
  waits = inr is.waits;
  inverted = inr is.inverted;
  stalled = inr is.stalled;
}

still : (w : Window) (m : Moment) (ms : List Moment) (k : ThreadTracks) (t : ℕ)
    → IsUnmoved m ms t → IsThread w ms k t → IsThread w (m ∷ ms) k t
still w m ms k t same is = record {
  gets = kept_still w (holding kinds.Gets t) m ms _ same.gets is.gets;
  waits = kept_still w (holding kinds.Waits t) m ms _ same.waits is.waits;
  inverted = kept_still w (holding kinds.Inverted t) m ms _ same.inverted is.inverted;
  stalled = kept_still w (holding kinds.Stalled t) m ms _ same.stalled is.stalled;
}

-- what is kept of these threads has gone on by a line, and that of the others is as it was
pub record SoFar
    (w : Window) (m : Moment) (ms : List Moment) (ts : List ℕ) (old new : ThreadTracks)
    : Type 0 where
  pub done : (t : ℕ) → 1 ≤ t → contains ts t ≡ true → IsThread w (m ∷ ms) new t
  pub left : (t : ℕ) → contains ts t ≡ false → IsThreadLike old new t

or_first : (a b : Bool) → b ≡ false → (a || b) ≡ true → a ≡ true
or_first true b h e = refl
or_first false b h e = absurd (let no : false ≡ true = sym h ∙ e in cc)

or_neither : (a b : Bool) → (a || b) ≡ false → (a ≡ false) × (b ≡ false)
or_neither true b e = absurd (let no : true ≡ false = e in cc)
or_neither false b e = (refl, e)

module _ (w : Window) (m : Moment) (ms : List Moment) (old : ThreadTracks) where
  pub so_far_none : SoFar w m ms [] old old
  so_far_none = record {
    done = λ t low h. absurd (let no : false ≡ true = h in cc);
    left = λ t h. like_same old t;
  }

  so_far_either :
      (ts : List ℕ) (now : ThreadTracks) (t : ℕ) → 1 ≤ t
      → AreThreads w ms old → SoFar w m ms ts old now
      → IsThreadEither w m ms now t
  so_far_either ts now t low are so = go (contains ts t) refl
    where
      go : (b : Bool) → contains ts t ≡ b → IsThreadEither w m ms now t
      go true among = either_after w m ms now t (so.done t low among)
      go false out = either_before w m ms now t (like_thread w ms old now t (so.left t out) (are t low))

  pub so_far_next :
      (ts : List ℕ) (now next : ThreadTracks) (i x : ℕ)
      → i < length ts
      → x ≡ get_or ts i x
      → AreThreads w ms old
      → SoFar w m ms (take i ts) old now
      → (1 ≤ x → IsThreadEither w m ms now x → IsThread w (m ∷ ms) next x)
      → ((t : ℕ) → t ≢ x → IsThreadLike now next t)
      → SoFar w m ms (take (i + 1) ts) old next
  so_far_next ts now next i x h is are so here others = record {
    done = λ t low among. elim (eqb_tells t x) [
      | inl (_, e) ↦
          let P : ℕ → Type 0 = λ t. 1 ≤ t → IsThread w (m ∷ ms) next t in
          subst P (sym e) (λ low. here low (so_far_either (take i ts) now x low are so)) low
      | inr (differs, ne) ↦
          like_thread w (m ∷ ms) now next t (others t ne)
          (so.done t low (or_first (contains (take i ts) t)
          (t == x) differs (sym (contains_more ts i x t h is) ∙ among)))
    ];
    left = λ t out.
        let parts = or_neither
        (contains (take i ts) t) (t == x) (sym (contains_more ts i x t h is) ∙ out) in
        like_both old now next t (so.left t parts.0)
        (others t (λ e. let no : false ≡ true = sym parts.1 ∙ eq-eqb t x e in cc));
  }

  pub so_far_all :
      (ts : List ℕ) (i : ℕ) (new : ThreadTracks)
      → length ts ≤ i
      → AreThreads w ms old
      → AreUnmoved m ms ts
      → SoFar w m ms (take i ts) old new
      → AreThreads w (m ∷ ms) new
  so_far_all ts i new end are unmoved so t low = go (contains ts t) refl
    where
      all : SoFar w m ms ts old new
      all = subst (λ ts. SoFar w m ms ts old new) (take_all i ts end) so

      go : (b : Bool) → contains ts t ≡ b → IsThread w (m ∷ ms) new t
      go true among = all.done t low among
      go false out =
          like_thread w (m ∷ ms) old new t (all.left t out)
          (still w m ms old t (unmoved t low out) (are t low))

-- ---- who owned mutexes

module _ (w : Window) (m : Moment) (ms : List Moment) (old new : ℕ → Kept) where
  pub owners_same :
      ((n : ℕ) → new n ≡ old n)
      → ((n : ℕ) → holding kinds.Owns n (m ∷ ms) ≡ holding kinds.Owns n ms)
      → AreKept w (holding kinds.Owns) ms old
      → AreKept w (holding kinds.Owns) (m ∷ ms) new
  owners_same same unmoved are n low =
      kept_still w (holding kinds.Owns n) m ms (new n) (unmoved n)
      (like_kept w (holding kinds.Owns n) ms (old n) (new n) (same n) (are n low))

  pub owners_noted :
      (k : ℕ)
      → ((f : Holding) → 1 ≤ k → owned_by k m.world ≡ f (m ∷ ms) → IsEither w f m ms (old k)
      → IsKept w f (m ∷ ms) (new k))
      → ((n : ℕ) → n ≢ k → new n ≡ old n)
      → ((n : ℕ) → k ≢ n → holding kinds.Owns n (m ∷ ms) ≡ holding kinds.Owns n ms)
      → AreKept w (holding kinds.Owns) ms old
      → AreKept w (holding kinds.Owns) (m ∷ ms) new
  owners_noted k here others unmoved are n low = elim (eqb_tells n k) [
    | inl (_, e) ↦
        let P : ℕ → Type 0 = λ n. 1 ≤ n → IsKept w (holding kinds.Owns n) (m ∷ ms) (new n) in
        subst P (sym e) (λ low. here (holding kinds.Owns k) low refl (inl (are k low))) low
    | inr (_, ne) ↦
        kept_still w (holding kinds.Owns n) m ms (new n) (unmoved n (λ e. ne (sym e)))
        (like_kept w (holding kinds.Owns n) ms (old n) (new n) (others n ne) (are n low))
  ]

-- at a place that is given by two names
pub noted_at :
    (w : Window) (f : Holding) (m : Moment) (ms : List Moment) (old new : ℕ → Kept) (p t : ℕ)
    → p ≡ t
    → (1 ≤ p → IsEither w f m ms (old p) → IsKept w f (m ∷ ms) (new p))
    → 1 ≤ t
    → IsEither w f m ms (old t)
    → IsKept w f (m ∷ ms) (new t)
noted_at w f m ms old new p t e here low either =
    let P : ℕ → Type 0 = λ n. 1 ≤ n → IsEither w f m ms (old n) → IsKept w f (m ∷ ms) (new n) in
    subst P e here low either
