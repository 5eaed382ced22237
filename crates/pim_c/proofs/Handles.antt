-- The machine values of a `RawBox` and of a `Handle`, each a pointer and an allocator: taken apart and put together.
-- Assumes `Logic`.
pub mod Walks
pub use Walks.*
use mathlib.Core.Bool.{true, ◌&&◌}
use lib.Dec.{T}
use Rattle.std.specs.declared.alloc.Allocator.{Ghosts}
use Rattle.std.specs.Box.Ownership.{box_owns}
use Rattle.pim_c.specs.contracts.raw_box.RawBox as raw_box
use denote.Memory.{part_of}
use base.Fraction.{full_share}
use types.SemTy.{Body}
use Rattle.std.proofs.GlobalToken.{dealloc_token-Testable}
use Rattle.std.specs.contracts.alloc.Global as heap
use Rattle.std.proofs.alloc.Global.TheLaws as heap_laws
use Rattle.pim_c.specs.Lending.{with_held}
use Rattle.pim_c.specs.Ownership.{owns_held}
use Rattle.pim_c.specs.contracts.handle.Handle as handle
use Rattle.pim_manager.specs.contracts.tracked_manager.TrackedManager as tracked

-- a struct of two fields
abbrev pub struct_of_two : Val → Val → Val
struct_of_two v w = vstruct (vcons v (vcons w vnil))

-- R is what lies in the box, Z its allocator
module _ (R Z : RattleType) (L : Laws Z) (g : Ghosts Z.Denot) where
  abbrev pub RawBox : RattleType
  RawBox = raw_box.the_row R Z g

  abbrev pub allocator : Al
  allocator = record { row = Z; laws = L; g = g; d = impl [] tnil dnil; drops = impl [] tnil dnil }

  -- the memory at p, with the value x, and the right to free it
  abbrev pub memory : Z.Denot → R.Denot → Ptr → Fml
  memory a x p = box_owns (g.dealloc_token a) R p x

  -- the machine value is of its type, and its parts fit theirs
  pub raw_box_good : (b o : ℕ) (h : Val) → Good (layout Z) h
      → T (has_ty (layout Z) h && true) × WT (struct_of_two (vptr b o) h)
  raw_box_good b o h fits = (and_tt (has_ty (layout Z) h) fits.0, (tt, (fits.1, tt)))

  module _ {M : Type 1} {𝓤 : Ura M} {𝓛 : Logic 𝓤} {K : Type 0} {Γ : List (Item 𝓤)} {G : Goal 𝓤 𝓛.H} where
    -- what is owned at a pointer with memory lies in a block
    pub memory_in_a_block : K → (a : Z.Denot) (x : R.Denot) (p : Ptr)
        → ((b o : ℕ) → p ≡ block_ptr b o → Seq K 𝓛 (‵ (memory a x (block_ptr b o)) ∷ Γ) G)
        → Seq K 𝓛 (‵ (memory a x p) ∷ Γ) G
    memory_in_a_block t a x p k =
        in_a_block t p (memory a x) (fst∗ 𝓤 (never 𝓤) (sem 𝓛 (g.dealloc_token a (bare (lone R.mir)) null_ptr))) k

  module _ {M : Type 1} {𝓤 : Ura M} {𝓛 : Logic 𝓤} {K : Type 0} {Γ : List (Item 𝓤)} {G : Goal 𝓤 𝓛.H} where
    pub opens_raw_box : K → (d : RawBox.Denot) (vs : List Val)
        → ((b o : ℕ) (h : Val) → d.at ≡ block_ptr b o → vs ≡ struct_of_two (vptr b o) h ∷ [] → Good (layout Z) h
        → Seq K 𝓛 (‵ (memory d.alloc d.value (block_ptr b o)) ∷ ‵ (Z.own_val d.alloc (h ∷ [])) ∷ Γ) G)
        → Seq K 𝓛 (‵ (RawBox.own_val d vs) ∷ Γ) G
    opens_raw_box t d vs k =
        fsplit t $ fpick t (λ fields. fsplit t $ feq_l t (λ whole. fsplit t $ feq_l t (λ pointer. fsplit t $
        handle_tells allocator t d.alloc fields.1.0 (λ h handle fits. move t (1 ∷ []) $ drop t $ move t (1 ∷ []) $
        memory_in_a_block t d.alloc d.value d.at (λ b o e.
        k b o h e
        (whole ∙ (λ i. vstruct (of_list ((pointer ∙ ap (λ p. ptr_val p ∷ []) e) i ++ (handle i ++ []))) ∷ [])) fits)))))

    pub closes_raw_box : K → (b o : ℕ) (h : Val) (a : Z.Denot) (x : R.Denot)
        → Step K 𝓛 (‵ (RawBox.own_val (record { at = block_ptr b o; alloc = a; value = x }) (struct_of_two (vptr b o) h ∷ [])) ∷ Γ) G
        (‵ (memory a x (block_ptr b o)) ∷ ‵ (Z.own_val a (h ∷ [])) ∷ Γ) G
    closes_raw_box t b o h a x = step (λ rest. let v : Val = struct_of_two (vptr b o) h in
        nothing t $ move t (2 ∷ 0 ∷ []) $ fjoin t $
        feq_i t (List Val) (vptr b o ∷ []) (vptr b o ∷ []) refl $ fjoin t $
        feq_i t (List Val) (v ∷ []) (v ∷ []) refl $ fjoin t $
        fpack t (Valss (RawPtr ∷ Z ∷ [])) (within (shape (raw_box.the_type R Z g)) (block_ptr b o, (a, tt)) (v ∷ []))
        (vptr b o ∷ [], (h ∷ [], tt)) $ fjoin t $ rest)

-- the allocator
abbrev pub Z : RattleType
Z = heap.the_row

abbrev pub LZ : Laws Z
LZ = heap_laws.the_row_laws

-- what a handle leads to
abbrev pub R : RattleType
R = tracked.the_row

abbrev pub Handle : RattleType
Handle = handle.the_row

-- the manager at the pointer, and the right to free its memory
abbrev pub boxed : Z.Denot → R.Denot → Ptr → Fml
boxed = memory R Z LZ ghosts

abbrev pub handle_val : Ptr → Val → Val
handle_val p h = struct_of_two (ptr_val p) h

pub handle_good : (p : Ptr) (h : Val) → Good (layout Z) h → Good (layout Handle) (handle_val p h)
handle_good null_ptr h fits = (and_tt (has_ty (layout Z) h) fits.0, (record { fits = lit< tt }, (fits.1, tt)))
handle_good (block_ptr b o) h fits = (and_tt (has_ty (layout Z) h) fits.0, (tt, (fits.1, tt)))

pub pointer_good : (p : Ptr) → Good ty_ptr (ptr_val p)
pointer_good (block_ptr b o) = (tt, tt)
pointer_good null_ptr = (tt, record { fits = lit< tt })

module _ {M : Type 1} {𝓤 : Ura M} (𝓛 : Logic 𝓤) where
  -- a pointer with memory can be compared with null
  pub tested : (a : Z.Denot) (x : R.Denot) (p : Ptr)
      → ent 𝓤 (sem 𝓛 (boxed a x p)) (guard 𝓤 (Testable p) (sem 𝓛 (boxed a x p)))
  tested a x p =
      let token = ghosts.dealloc_token a (bare (lone R.mir)) p in
      fact_use 𝓤 (Testable p)
      (via 𝓤 _ (snd∗ 𝓤 (sem 𝓛 (lies_at R full_share p x)) (sem 𝓛 token)) (dealloc_token-Testable 𝓛 a (bare (lone R.mir)) p))
      (guard_i 𝓤 (Testable p) (sem 𝓛 (boxed a x p)))

module _ {M : Type 1} {𝓤 : Ura M} {𝓛 : Logic 𝓤} {K : Type 0} {Γ : List (Item 𝓤)} {G : Goal 𝓤 𝓛.H} where
  pub opens_handle : K → (d : Handle.Denot) (vs : List Val)
      → ((h : Val) → vs ≡ handle_val d.at h ∷ [] → Good (layout Z) h
      → Seq K 𝓛 (‵ (owns_held d.alloc d.held d.at) ∷ ‵ (Z.own_val d.alloc (h ∷ [])) ∷ Γ) G)
      → Seq K 𝓛 (‵ (Handle.own_val d vs) ∷ Γ) G
  opens_handle t d vs k =
      fsplit t $ fpick t (λ fields. fsplit t $ feq_l t (λ whole. fsplit t $ feq_l t (λ pointer. fsplit t $
      handle_tells (allocator R Z LZ ghosts) t d.alloc fields.1.0 (λ h alloc fits. move t (1 ∷ []) $ drop t $ move t (1 ∷ []) $
      k h (whole ∙ (λ i. vstruct (of_list (pointer i ++ (alloc i ++ []))) ∷ [])) fits))))

  pub closes_handle : K → (p : Ptr) (h : Val) (a : Z.Denot) (x : Option R.Denot)
      → Step K 𝓛 (‵ (Handle.own_val (record { at = p; alloc = a; held = x }) (handle_val p h ∷ [])) ∷ Γ) G
      (‵ (owns_held a x p) ∷ ‵ (Z.own_val a (h ∷ [])) ∷ Γ) G
  closes_handle t p h a x = step (λ rest. let v : Val = handle_val p h in
      nothing t $ move t (2 ∷ 0 ∷ []) $ fjoin t $
      feq_i t (List Val) (ptr_val p ∷ []) (ptr_val p ∷ []) refl $ fjoin t $
      feq_i t (List Val) (v ∷ []) (v ∷ []) refl $ fjoin t $
      fpack t (Valss (RawPtr ∷ Z ∷ [])) (within (shape handle.the_type) (p, ((heap.the_field).into a, tt)) (v ∷ []))
      (ptr_val p ∷ [], (h ∷ [], tt)) $ fjoin t $ rest)

  -- a handle is null and has nothing, or leads to a manager
  pub held_cases : K → (a : Z.Denot) (x : Option R.Denot) (p : Ptr)
      → (x ≡ None → p ≡ null_ptr → Seq K 𝓛 Γ G)
      → ((b o : ℕ) (v : R.Denot) → x ≡ Some v → p ≡ block_ptr b o → Testable (block_ptr b o)
      → Seq K 𝓛 (‵ (boxed a v (block_ptr b o)) ∷ Γ) G)
      → Seq K 𝓛 (‵ (owns_held a x p) ∷ Γ) G
  held_cases t a None p none there = feq_l t (λ e. none refl e)
  held_cases t a (Some v) p none there =
      use1 𝓛 (given (Testable p) (‵ (boxed a v p))) (tested 𝓛 a v p) $ learn t (λ testable.
      memory_in_a_block R Z LZ ghosts t a v p (λ b o e. there b o v refl e (subst Testable e testable)))

  -- whether its pointer is null shows whether a handle has a manager
  pub null_shows : K → (a : Z.Denot) (x : Option R.Denot) (p : Ptr)
      → (Testable p → op2_val ptr_eq (ptr_val p) vnull ≡ vbool (is_none x) → Seq K 𝓛 (‵ (owns_held a x p) ∷ Γ) G)
      → Seq K 𝓛 (‵ (owns_held a x p) ∷ Γ) G
  null_shows t a None p k =
      feq_l t (λ e. feq_i t Ptr p null_ptr e $
      k (subst Testable (sym e) (lit< tt)) (ap (λ (r : Ptr). op2_val ptr_eq (ptr_val r) vnull) e))
  null_shows t a (Some v) p k =
      use1 𝓛 (given (Testable p) (‵ (boxed a v p))) (tested 𝓛 a v p) $ learn t (λ testable.
      memory_in_a_block R Z LZ ghosts t a v p (λ b o e. rewrite t 0 (λ (r : Ptr). ‵ (boxed a v r)) (sym e) refl $
      k testable (ap (λ (r : Ptr). op2_val ptr_eq (ptr_val r) vnull) e)))

-- the machine value of a handle in memory
abbrev pub handle_lies : Ptr → Val → ℕ → ℕ → Fml
handle_lies p h b o = cell_at full_share Handle.mir (handle_val p h ∷ []) b o

module _ {M : Type 1} {𝓤 : Ura M} {𝓛 : Logic 𝓤} {K : Type 0} {Γ : List (Item 𝓤)} {G : Goal 𝓤 𝓛.H} where
  -- a handle behind a `&mut` is opened
  pub handle_opens : K → Soaks G → {κ : Lft} {q : Share} {γ : GName} (d : Handle.Denot) (b o : ℕ)
      → ((h : Val) → Good (layout Z) h
      → Seq K 𝓛 (‵ (owns_held d.alloc d.held d.at) ∷ ‵ (Z.own_val d.alloc (h ∷ [])) ∷ ‵ (handle_lies d.at h b o)
      ∷ ‵ (fobor κ q (Body (mem Handle) b o γ)) ∷ ‵ (fobs γ (Handle.coded.code d)) ∷ ‵ (fauth γ (Handle.coded.code d)) ∷ Γ) G)
      → Seq K 𝓛 (‵ (fobs γ (Handle.coded.code d)) ∷ ‵ (fbor κ (Body (mem Handle) b o γ)) ∷ ‵ (flft κ q) ∷ Γ) G
  handle_opens t z d b o k =
      opens t z Handle {h = d} b o (λ vs. move t (1 ∷ []) $ opens_handle t d vs (λ h ws fits.
      rewrite t 2 (λ (us : List Val). ‵ (cell_at full_share Handle.mir us b o)) ws refl $ k h fits))

module _ {M : Type 1} {𝓤 : Ura M} (𝓛 : Logic 𝓤) (d : Handle.Denot) (rb ro b o : ℕ) (h : Val) where
  -- all of a handle but its manager
  abbrev pub Besides : Fml
  Besides =
      fsep (ghosts.dealloc_token d.alloc (bare (lone R.mir)) (block_ptr b o))
      (fsep (Z.own_val d.alloc (h ∷ [])) (handle_lies (block_ptr b o) h rb ro))

  -- with a manager it is a handle again
  pub handle_back : d.at ≡ block_ptr b o → (w : R.Denot)
      → ent 𝓤 (sep 𝓤 (sem 𝓛 ((mem R).own_at w b o)) (sem 𝓛 Besides)) (sem 𝓛 ((mem Handle).own_at (with_held d w) rb ro))
  unfolding part_of
  handle_back at w =
      qed 𝓛 (‵ (part_at R full_share w b o) ∷ ‵ Besides ∷ []) ∵ move ! (1 ∷ []) $ fsplit3 ! $ move ! (3 ∷ 0 ∷ []) $ fjoin ! $
      rewrite ! 0 (λ (p : Ptr). ‵ (boxed d.alloc w p)) (sym at) refl $ closes_handle ! d.at h d.alloc (Some w) $
      rewrite ! 1 (λ (p : Ptr). ‵ (handle_lies p h rb ro)) (sym at) refl $ move ! (1 ∷ 0 ∷ []) $ fjoin ! $
      fpack ! (List Val) (λ us. fsep (cell_at full_share Handle.mir us rb ro) (Handle.own_val (with_held d w) us))
      (handle_val d.at h ∷ []) $ done !
