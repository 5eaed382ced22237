-- What is kept of one thing, as it goes on by a line.
use Rattle.std.proofs.Common.{◌≡◌, ◌∙◌, ◌++◌, ℕ, List, [], ◌∷◌, Bool, true, false, Option, Some}
use Rattle.std.proofs.Common.{None, refl, sym, ap, inl, inr, map, if◌then◌else◌}
use Rattle.std.specs.List.{filter}
use Rattle.std.specs.Option.{option_map}
use Rattle.std.proofs.lemmas.List.{append-nil, map-append}
use Rattle.std.proofs.lemmas.List.Elements.{filter-append}
use Rattle.pim_world.specs.Standing.{Key}
use Rattle.pim_rows.specs.Moments.{Moment, number, clock, first_moments}
use Rattle.pim_spans.specs.Spans.{Holding, Start, Span, Window, same, since, start, lasting, ended}
use Rattle.pim_spans.specs.Spans.{cut, takes_time, within}
use Rattle.pim_spans.specs.Kept.{Kept, IsKept, IsEither, start_at, kept_of}
use Rattle.pim_spans.proofs.Same.{Decides-same}

pub within-append : (w : Window) (ss ts : List Span) → within w (ss ++ ts) ≡ within w ss ++ within w ts
within-append w ss ts =
    ap (filter takes_time) (map-append (cut w) ss ts)
    ∙ filter-append takes_time (map (cut w) ss) (map (cut w) ts)

-- what holds since these moments
abbrev since_these : List Moment → Option Key → Option Start
since_these hs o =
    option_map (λ said. record { said = said; line = number hs; from = clock hs }) o

said_since : (hs : List Moment) (o : Option Key) → option_map (λ (s : Start). s.said) (since_these hs o) ≡ o
said_since hs None = refl
said_since hs (Some k) = refl

module _ (w : Window) (f : Holding) (m : Moment) (ms : List Moment) where
  abbrev more : Bool → List Span
  more b = ended f ms ++ (if b then [] else lasting m.world.clock (start f ms))

  same_before : f (m ∷ ms) ≡ f ms → same (f ms) (f (m ∷ ms)) ≡ true
  same_before e = (Decides-same (f ms) (f (m ∷ ms))).1 (sym e)

  pub start-same : f (m ∷ ms) ≡ f ms → start f (m ∷ ms) ≡ start f ms
  start-same e =
      ap (λ b. since_these (if b then since f ms else m ∷ ms) (f (m ∷ ms))) (same_before e)
      ∙ ap (since_these (since f ms)) e

  start-other :
      same (f ms) (f (m ∷ ms)) ≡ false
      → start f (m ∷ ms) ≡ start_at m.number m.world.clock (f (m ∷ ms))
  start-other e =
      ap (λ b. since_these (if b then since f ms else m ∷ ms) (f (m ∷ ms))) e

  -- the same holds, so the same is kept
  pub kept_still : (k : Kept) → f (m ∷ ms) ≡ f ms → IsKept w f ms k → IsKept w f (m ∷ ms) k
  kept_still k e is = record {
    lasts = is.lasts ∙ sym (start-same e);
    spans =
        is.spans
        ∙ ap (within w) (sym (ap more (same_before e) ∙ append-nil (ended f ms)));
  }

  said_kept : (hs : List Moment) (k : Kept) → IsKept w f hs k
      → option_map (λ (s : Start). s.said) k.lasts ≡ f hs
  said_kept hs k is =
      ap (option_map (λ (s : Start). s.said)) is.lasts ∙ said_since (since f hs) (f hs)

  -- what holds is what is kept
  pub note_same :
      (k : Kept) (said : Option Key) → said ≡ f (m ∷ ms)
      → same (option_map (λ (s : Start). s.said) k.lasts) said ≡ true
      → IsEither w f m ms k
      → IsKept w f (m ∷ ms) k
  note_same k said e is (inr done) = done
  note_same k said e is (inl kept) =
      kept_still k
      (sym e ∙ sym ((Decides-same (option_map (λ (s : Start). s.said) k.lasts) said).0 is)
      ∙ said_kept ms k kept) kept

  -- something else holds
  pub note_other :
      (k new : Kept) (said : Option Key) (line time : ℕ)
      → said ≡ f (m ∷ ms) → line ≡ m.number → time ≡ m.world.clock
      → same (option_map (λ (s : Start). s.said) k.lasts) said ≡ false
      → new.lasts ≡ start_at line time said
      → new.spans ≡ k.spans ++ within w (lasting time k.lasts)
      → IsEither w f m ms k
      → IsKept w f (m ∷ ms) new
  note_other k new said line time e n c is lasts spans (inr done) =
      absurd (let no : true ≡ false =
      sym ((Decides-same (option_map (λ (s : Start). s.said) k.lasts) said).1
      (said_kept (m ∷ ms) k done ∙ sym e)) ∙ is in cc)
  note_other k new said line time e n c is lasts spans (inl kept) =
      let differs : same (f ms) (f (m ∷ ms)) ≡ false =
      ap (λ o. same o (f (m ∷ ms))) (sym (said_kept ms k kept)) ∙ ap (same (option_map (λ (s : Start). s.said) k.lasts)) (sym e) ∙ is in
      record {
        lasts =
            lasts ∙ ap (λ n. start_at n time said) n ∙ ap (λ c. start_at m.number c said) c
            ∙ ap (start_at m.number m.world.clock) e ∙ sym (start-other differs);
        spans =
            spans ∙ ap (λ ss. ss ++ within w (lasting time k.lasts)) kept.spans
            ∙ ap (λ c. within w (ended f ms) ++ within w (lasting c k.lasts)) c
            ∙ ap (λ l. within w (ended f ms) ++ within w (lasting m.world.clock l)) kept.lasts
            ∙ sym (within-append w (ended f ms) (lasting m.world.clock (start f ms)))
            ∙ ap (within w) (sym (ap more differs));
      }

-- after the first line, if nothing holds before it and after it
pub first_kept :
    (w : Window) (f : Holding) (k : Kept)
    → k ≡ kept_of None
    → f [] ≡ None
    → f first_moments ≡ None
    → IsKept w f first_moments k
first_kept w f k e before after = record {
  lasts = ap (λ (k : Kept). k.lasts) e ∙ sym (ap (since_these (since f first_moments)) after);
  spans =
      ap (λ (k : Kept). k.spans) e
      ∙ sym (ap (λ o. within w (if same o (f first_moments) then [] else lasting 0 (start f []))) before
      ∙ ap (λ o. within w (if same None o then [] else lasting 0 (start f []))) after);
}
