-- `is_empty` compares the pointer with null.
use Rattle.pim_c.proofs.Handles.{◌≡◌, List, [], ◌∷◌, refl, named, Val, vbool, emp, ftrue, flft, ‵, raw, ◌⊛◌, ◌$◌, ◌∵◌}
use Rattle.pim_c.proofs.Handles.{ !, qed, by, move, keep, split, join, fsplit3, fjoin, fjoin3, use0, feq_i, stop, fld}
use Rattle.pim_c.proofs.Handles.{lit, load, of_opd, bin, returns, enter, alloc_all, pass_all, free_all, look_at, get}
use Rattle.pim_c.proofs.Handles.{through, is, sets, sub, whole, look_in, fact, fact_i, tables, MutRef, mut_vals}
use Rattle.pim_c.proofs.Handles.{mut_Tells, tests_null, plain, nothing, closes, Stays, stay_ref, walk_of, Goes-ref}
use Rattle.pim_c.proofs.Handles.{is_none, proved, leaves, Handle, handle_val, pointer_good, closes_handle, null_shows}
use Rattle.pim_c.proofs.Handles.{handle_opens}
use Rattle.pim_c.specs.contracts.handle.Handle.is_empty.{ended, clauses}
use Rattle.pim_c.specs.contracts.handle.Handle.is_empty.Key.{name as #self}
use Rattle.pim_c.proofs.handle.Handle.is_empty.Statement.{statement}
use Rattle.pim_c.proofs.handle.Handle.is_empty.Code as code

abbrev stayed : Stays ended.signature.params ended.kept
stayed = (stay_ref (0 ∷ []) tt (plain (λ _. Handle)), tt)

pub is_empty_spec : {M : Type 1} → statement M
is_empty_spec 𝓤 𝓛 𝓜 𝓡 wired =
    let 𝓣 = tables 𝓤 𝓛.H 𝓜 𝓡 𝓡.env in let c = clauses 𝓛 𝓜.mem 𝓡.returns in let fn = code.function in
    proved 𝓛 ended stayed c 𝓜 𝓡 (Goes-ref 𝓛 1 0 tt (plain (λ _. Handle)), tt) #self fn (code.unfolded 𝓤 𝓛.H 𝓜 𝓡 wired)
    (λ κs. (mut_vals, tt)) (λ κs. (mut_Tells (named 0) κs.0 Handle, tt)) (λ κs qs bounds a _ are.
    let κ = κs.0 in let s = a.0 in let d = s.now in let b = s.ref_ptr.0 in let o = s.ref_ptr.1 in let empty = is_none d.held in
    let y : (walk_of 𝓛 ended stayed c).Ghost = ((κs, qs, bounds, a, (mut_vals s, tt)), tt) in
    qed 𝓛 (((‵ (flft κ qs.0) ⊛ ‵ ftrue) ⊛ ‵ ((MutRef (named 0) κ Handle).own_val s (mut_vals s)) ⊛ ‵ ftrue) ∷ ‵ ftrue ∷ []) ∵
    split ! $ split ! $ move ! (2 ∷ []) $ split ! $ keep ! (0 ∷ 2 ∷ []) $
    enter ! _ _ _ _ _ $ alloc_all ! (λ l. pass_all ! refl ((tt, tt), tt) $
    fsplit3 ! $ move ! (1 ∷ 2 ∷ 3 ∷ []) $ handle_opens ! tt d b o (λ h fits. null_shows ! d.alloc d.held d.at (λ testable shown.
    -- [what it leads to; the allocator; its machine value; the open borrow; obs; auth; where it is; the locals]
    sets ! (of_opd ! (load ! (through ! refl (fld ! refl (stop !))) (look_in ! 2 (sub ! 0 refl (whole !))))) refl (pointer_good d.at) $
    sets ! (is ! (bin ! (get ! refl) (lit ! tt) (tests_null d.at testable)) shown) refl (tt, tt) $
    closes_handle ! d.at h d.alloc d.held $ move ! (1 ∷ 0 ∷ []) $ closes ! tt Handle d (handle_val d.at h ∷ []) b o $
    move ! (3 ∷ 0 ∷ 1 ∷ []) $ fjoin3 ! $ returns ! (look_at ! 0 refl) $ free_all ! refl $
    feq_i ! (List Val) (vbool empty ∷ []) (vbool empty ∷ []) refl $
    nothing ! $ move ! (2 ∷ 0 ∷ []) $ fjoin ! $ nothing ! $ move ! (3 ∷ 0 ∷ []) $ join ! $
    use0 𝓛 (raw (fact 𝓤 (d ≡ d))) (fact_i 𝓤 (d ≡ d) (emp 𝓤) refl) $
    use0 𝓛 (raw (fact 𝓤 (empty ≡ empty))) (fact_i 𝓤 (empty ≡ empty) (emp 𝓤) refl) $ join ! $
    keep ! (1 ∷ 2 ∷ 3 ∷ 0 ∷ []) $ by ! (leaves 𝓛 ended stayed c y (vbool empty) empty (d, tt) (tt, tt))))))
