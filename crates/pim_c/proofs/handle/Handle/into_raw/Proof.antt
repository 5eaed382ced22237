-- `into_raw` distinguishes a null pointer from a pointer to a manager.
use Rattle.pim_c.proofs.Handles.{◌≡◌, List, [], ◌∷◌, ◌++◌, refl, sym, ap, ◌∙◌, subst, lit<, Val, vptr, vcons, vnil}
use Rattle.pim_c.proofs.Handles.{SProp, ent, emp, id⊢, ftrue, WpFn, ‵, raw, ◌⊛◌, at_ret, ◌$◌, ◌∵◌, !, qed, by, move}
use Rattle.pim_c.proofs.Handles.{keep, drop, split, fsplit, fjoin, suffices, use0, use1, stop, fld, lit, of_opd, bin}
use Rattle.pim_c.proofs.Handles.{no_more, and_then, first, branches, exec, returns, enter, alloc_all, pass_all}
use Rattle.pim_c.proofs.Handles.{free_all, look_at, get, get_in, sets, sets_last, env, agg, sub, whole, fact, fact_i}
use Rattle.pim_c.proofs.Handles.{tables, yes, RattleType, owns, types_at, type_at, plain, Ptr, block_ptr, null_ptr}
use Rattle.pim_c.proofs.Handles.{ptr_val, tests_null, nothing, layout, alive, Stays, stay_dropped, walk_of, None}
use Rattle.pim_c.proofs.Handles.{Some, ghosts, Goes-blank, after, Good, and_tt, proved_at, leaves, struct_of_two}
use Rattle.pim_c.proofs.Handles.{RawBox, raw_box_good, closes_raw_box, Handle, Z, LZ, R, handle_good, opens_handle}
use Rattle.pim_c.proofs.Handles.{held_cases}
use types.Match.{live}
use Rattle.std.proofs.option.Made.{Some-of, none_of}
use Rattle.pim_c.specs.contracts.handle.Handle.into_raw.{ended, clauses}
use Rattle.pim_c.specs.contracts.handle.Handle.into_raw.Key.{name as #self}
use Rattle.pim_c.proofs.handle.Handle.into_raw.Statement.{statement}
use Rattle.pim_c.proofs.handle.Handle.into_raw.Code as code

pub into_raw_spec : {M : Type 1} → statement M
into_raw_spec 𝓤 𝓛 𝓜 𝓡 wired =
    let H = 𝓛.H in let 𝓣 = tables 𝓤 H 𝓜 𝓡 𝓡.env in let En = ended in let c = clauses 𝓛 𝓜.mem 𝓡.returns in let fn = code.function in let Raw : RattleType = RawBox R Z LZ ghosts in
    let hs : Stays En.signature.params En.kept = (stay_dropped (plain (λ _. Handle)) yes, tt) in
    proved_at 𝓛 En hs c 𝓜 𝓡 (Goes-blank 𝓛 0 (plain (λ _. Handle)) yes (λ κs x f. tt), tt) #self fn (code.unfolded 𝓤 H 𝓜 𝓡 wired) (λ z are.
    let κs = z.0.0 in let qs = z.0.1 in let v = z.0.3.0 in let a = v.alloc in let Out : RattleType = type_at En.signature.result κs in let Post : Val → SProp 𝓤 = (walk_of 𝓛 En hs c).post z in let Run : List Val → SProp 𝓤 = λ ws. WpFn 𝓤 H 𝓣.C 𝓣.Λ fn ws Post in
    qed 𝓛 ((raw (alive 𝓛 En.signature κs qs) ⊛ ‵ (owns (types_at En.signature.params κs) z.0.3 z.0.4)) ∷ ‵ ftrue ∷ []) ∵ move ! (1 ∷ []) $ drop ! $ split ! $ move ! (1 ∷ []) $ fsplit ! $ opens_handle ! v z.0.4.0 (λ h ws fits.
    held_cases ! a v.held v.at
    (λ none null. let w : Val = struct_of_two (ptr_val null_ptr) h in let told : z.0.4.0 ≡ w ∷ [] = ws ∙ ap (λ (p : Ptr). struct_of_two (ptr_val p) h ∷ []) null in
    suffices ! (Run (w ∷ [])) (subst (λ (us : List Val). ent 𝓤 (Run (w ∷ [])) (Run us)) (sym (λ i. told i ++ [])) (id⊢ 𝓤 (Run (w ∷ [])))) $
    enter ! 𝓣.C 𝓣.Λ fn (w ∷ []) Post $ alloc_all ! (λ l. pass_all ! refl (handle_good null_ptr h fits, tt) $ let Ev = env fn.locals l in
    sets ! (of_opd ! (get_in ! (fld ! refl (stop !)) (sub ! 0 refl (whole !)))) refl (tt, record { fits = lit< tt }) $ sets ! (of_opd ! (get_in ! (fld ! refl (stop !)) (sub ! 1 refl (whole !)))) refl fits $
    sets ! (bin ! (get ! refl) (lit ! tt) tt) refl (tt, tt) $ first ! $ branches ! (get ! refl)
    (λ _. sets_last ! (agg ! (and_then ! (lit ! tt) (no_more !))) refl (tt, (record { fits = lit< tt }, tt)) $ exec ! 𝓣.C 𝓣.Λ Ev (after 4 fn.body) (at_ret Ev Post) $ sets ! (of_opd ! (get ! refl)) refl (tt, (record { fits = lit< tt }, tt)) $
    drop ! $ use0 𝓛 (‵ (Out.own_val None (live 0 vnil ∷ []))) (none_of 𝓛 Raw) $ use0 𝓛 (raw (fact 𝓤 (None ≡ v.held))) (fact_i 𝓤 (None ≡ v.held) (emp 𝓤) (sym none)) $ nothing ! $ nothing ! $ fjoin ! $
    returns ! (look_at ! 0 refl) $ free_all ! refl $ keep ! (4 ∷ 0 ∷ 2 ∷ 1 ∷ []) $ by ! (leaves 𝓛 En hs c z (live 0 vnil) None (tt, tt) (tt, tt))) (λ wrong. absurd wrong)))
    (λ b o x one at t. let w : Val = struct_of_two (vptr b o) h in let told : z.0.4.0 ≡ w ∷ [] = ws ∙ ap (λ (p : Ptr). struct_of_two (ptr_val p) h ∷ []) at in
    let d : Raw.Denot = record { at = block_ptr b o; alloc = a; value = x } in let typed = raw_box_good R Z LZ ghosts b o h fits in let v₁ : Val = live 1 (vcons w vnil) in
    let good : Good (layout Out) v₁ = (and_tt _ typed.0, (record { fits = lit< tt }, (typed.1, tt))) in
    suffices ! (Run (w ∷ [])) (subst (λ (us : List Val). ent 𝓤 (Run (w ∷ [])) (Run us)) (sym (λ i. told i ++ [])) (id⊢ 𝓤 (Run (w ∷ [])))) $
    enter ! 𝓣.C 𝓣.Λ fn (w ∷ []) Post $ alloc_all ! (λ l. pass_all ! refl (handle_good (block_ptr b o) h fits, tt) $ let Ev = env fn.locals l in
    sets ! (of_opd ! (get_in ! (fld ! refl (stop !)) (sub ! 0 refl (whole !)))) refl (tt, tt) $ sets ! (of_opd ! (get_in ! (fld ! refl (stop !)) (sub ! 1 refl (whole !)))) refl fits $
    sets ! (bin ! (get ! refl) (lit ! tt) (tests_null (block_ptr b o) t)) refl (tt, tt) $ first ! $ branches ! (get ! refl) (λ wrong. absurd wrong) (λ _.
    sets ! (of_opd ! (get ! refl)) refl (tt, tt) $ sets ! (agg ! (and_then ! (get ! refl) (and_then ! (get ! refl) (no_more !)))) refl typed $ sets_last ! (agg ! (and_then ! (lit ! tt) (and_then ! (get ! refl) (no_more !)))) refl good $
    exec ! 𝓣.C 𝓣.Λ Ev (after 4 fn.body) (at_ret Ev Post) $ sets ! (of_opd ! (get ! refl)) refl good $ closes_raw_box R Z LZ ghosts ! b o h a x $
    use1 𝓛 (‵ (Out.own_val (Some d) (v₁ ∷ []))) (Some-of 𝓛 Raw d w) $ use0 𝓛 (raw (fact 𝓤 (Some x ≡ v.held))) (fact_i 𝓤 (Some x ≡ v.held) (emp 𝓤) (sym one)) $ nothing ! $ nothing ! $ fjoin ! $
    returns ! (look_at ! 0 refl) $ free_all ! refl $ keep ! (4 ∷ 0 ∷ 2 ∷ 1 ∷ []) $ by ! (leaves 𝓛 En hs c z v₁ (Some d) (tt, tt) (tt, tt)))))))
