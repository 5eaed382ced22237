-- `held_mut` lends the manager, and the handle follows it.
use Rattle.pim_c.proofs.Handles.{[], ◌∷◌, refl, sym, named, Val, vptr, SProp, id⊢, GName, ftrue, flft, sem, ‵, raw}
use Rattle.pim_c.proofs.Handles.{◌⊛◌, some, later, at_ret, ◌$◌, ◌∵◌, !, qed, done, move, keep, drop, split, split3}
use Rattle.pim_c.proofs.Handles.{join, fsplit, fsplit3, fjoin, fjoin3, use1, pick, await, rewrite, suffices, frame}
use Rattle.pim_c.proofs.Handles.{group, stop, fld, load, of_opd, addr, first, blocks, exec, returns, enter, alloc_all}
use Rattle.pim_c.proofs.Handles.{pass_all, free_all, look_at, get, through, sets, sets_last, env, sub, whole, look_in}
use Rattle.pim_c.proofs.Handles.{fact, tables, no, Ptr, MutRef, mut_vals, mut_Tells, plain, mut_ref_to, heard}
use Rattle.pim_c.proofs.Handles.{nothing, Stays, stay_dropped, walk_of, says, ends_at, Goes-spent_ref, ◌≢◌, None}
use Rattle.pim_c.proofs.Handles.{after, proved, Handle, R, held_cases, handle_lies, handle_opens, Besides}
use Rattle.pim_c.proofs.Handles.{handle_back}
use denote.Follow.{follows, Part, lends_Part}
use denote.MutBor.{MutBor}
use Rattle.pim_c.specs.Lending.{with_held}
use Rattle.pim_c.specs.contracts.handle.Handle.held_mut.{ended, clauses}
use Rattle.pim_c.specs.contracts.handle.Handle.held_mut.Key.{name as #self}
use Rattle.pim_c.proofs.handle.Handle.held_mut.Statement.{statement}
use Rattle.pim_c.proofs.handle.Handle.held_mut.Code as code

abbrev stayed : Stays ended.signature.params ended.kept
stayed = (stay_dropped (mut_ref_to (0 ∷ []) tt (plain (λ _. Handle))) no, tt)

pub held_mut_spec : {M : Type 1} → statement M
held_mut_spec 𝓤 𝓛 𝓜 𝓡 wired =
    let 𝓣 = tables 𝓤 𝓛.H 𝓜 𝓡 𝓡.env in let c = clauses 𝓛 𝓜.mem 𝓡.returns in let fn = code.function in
    proved 𝓛 ended stayed c 𝓜 𝓡 (Goes-spent_ref 𝓛 1 (0 ∷ []) tt (plain (λ _. Handle)), tt) #self fn (code.unfolded 𝓤 𝓛.H 𝓜 𝓡 wired)
    (λ κs. (mut_vals, tt)) (λ κs. (mut_Tells (named 0) κs.0 Handle, tt)) (λ κs qs bounds a _ are.
    let κ = κs.0 in let q = qs.0 in let s = a.0 in let d = s.now in let rb = s.ref_ptr.0 in let ro = s.ref_ptr.1 in let γ = s.ghost_name in
    let y : (walk_of 𝓛 ended stayed c).Ghost = ((κs, qs, bounds, a, (mut_vals s, tt)), tt) in
    let Post : Val → SProp 𝓤 = (walk_of 𝓛 ended stayed c).post y in
    qed 𝓛 (((‵ (flft κ q) ⊛ ‵ ftrue) ⊛ ‵ ((MutRef (named 0) κ Handle).own_val s (mut_vals s)) ⊛ ‵ ftrue) ∷ raw (fact 𝓤 (d.held ≢ None)) ∷ []) ∵
    move ! (1 ∷ []) $ heard ! (d.held ≢ None) (λ has. split ! $ split ! $ move ! (2 ∷ []) $ split ! $ keep ! (0 ∷ 2 ∷ []) $
    enter ! _ _ _ _ _ $ alloc_all ! (λ l. pass_all ! refl ((tt, tt), tt) $
    fsplit3 ! $ drop ! $ handle_opens ! tt d rb ro (λ h fits. held_cases ! d.alloc d.held d.at (λ none null. absurd (has none)) (λ b o v one at testable.
    fsplit ! $ rewrite ! 3 (λ (p : Ptr). ‵ (handle_lies p h rb ro)) at refl $
    -- [the manager; the right to free it; the allocator; the handle's machine value; the open borrow; obs; auth; the locals]
    sets ! (of_opd ! (load ! (through ! refl (fld ! refl (stop !))) (look_in ! 3 (sub ! 0 refl (whole !))))) refl (tt, tt) $
    sets ! (of_opd ! (get ! refl)) refl (tt, tt) $
    first ! $ blocks ! $ sets_last ! (addr ! (through ! refl (stop !))) refl (tt, tt) $
    exec ! 𝓣.C 𝓣.Λ (env fn.locals l) (after 3 fn.body) (at_ret (env fn.locals l) Post) $
    sets ! (of_opd ! (get ! refl)) refl (tt, tt) $
    move ! (1 ∷ 2 ∷ 3 ∷ []) $ fjoin3 ! $ move ! (2 ∷ 3 ∷ 4 ∷ 1 ∷ 0 ∷ []) $ group ! 5 $
    let Rest = sem 𝓛 (Besides 𝓛 d rb ro b o h) in let back = handle_back 𝓛 d rb ro b o h at in let code' = Handle.coded.code d in
    use1 𝓛 (later (some (λ (δ : GName). raw (Part 𝓛 Handle R (with_held d) (named 0) κ q rb ro b o γ Rest back v δ))))
    (lends_Part 𝓛 Handle R (with_held d) (named 0) κ q rb ro b o γ Rest back code' code' v) $ await ! tt $ pick ! (λ δ.
    let r : MutBor R.Denot = record { ref_ptr = (b, o); ghost_name = δ; now = v } in
    returns ! (look_at ! 0 refl) $ free_all ! refl $ keep ! (0 ∷ []) $
    use1 𝓛 (‵ ((MutRef (named 0) κ R).own_val r (vptr b o ∷ [])) ⊛ ‵ (flft κ q) ⊛ ‵ (follows Handle R γ δ (with_held d))) (id⊢ 𝓤 _) $ split3 ! $
    suffices ! _ (ends_at 𝓛 ended stayed c y (vptr b o) r (tt, tt) (tt, tt)) $
    nothing ! $ nothing ! $ fjoin ! $ join ! $ nothing ! $ move ! (2 ∷ 0 ∷ []) $ join ! $ join ! $ frame ! $ says ! (sym one) $ done !))))))
