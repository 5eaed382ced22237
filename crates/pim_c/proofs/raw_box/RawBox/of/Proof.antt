-- `of` calls `Box::into_raw_with_allocator`, and stores the pointer with the allocator.
use Rattle.pim_c.proofs.Handles.{◌≡◌, List, [], ◌∷◌, ◌++◌, refl, sym, ap, ◌∙◌, subst, a_type, dcons, dnil, Val, vptr}
use Rattle.pim_c.proofs.Handles.{vstruct, of_list, inst_fn, SProp, ent, emp, id⊢, ftrue, fsep, flft, WpFn, ‵, raw}
use Rattle.pim_c.proofs.Handles.{◌⊛◌, some, later, ◌$◌, ◌∵◌, !, qed, by, move, keep, drop, split, split3, join}
use Rattle.pim_c.proofs.Handles.{fsplit, fjoin, fpick, pick, suffices, use0, use1, await, rewrite, feq_l, stop, fld}
use Rattle.pim_c.proofs.Handles.{of_opd, no_more, and_then, returns, enter, alloc_all, pass_all, free_all, look_at}
use Rattle.pim_c.proofs.Handles.{get, get_in, sets, lands_as, agg, sub, whole, fact, fact_i, tables, no, RattleType}
use Rattle.pim_c.proofs.Handles.{owns, types_at, plain, RawPtr, Ptr, block_ptr, ptr_val, nothing, only, heard, param}
use Rattle.pim_c.proofs.Handles.{bounded, param_laws, triple_of, calls_at, framed, Stays, stay_dropped, walk_of}
use Rattle.pim_c.proofs.Handles.{Goes-blank, handle_tells, proved_at, leaves, box_out, box_in, struct_of_two, memory}
use Rattle.pim_c.proofs.Handles.{memory_in_a_block, allocator, raw_box_good, closes_raw_box}
use denote.Struct.Tuple.{Tuple}
use Rattle.std.proofs.boxed.Box.into_raw_with_allocator.Met.{met}
use Rattle.std.proofs.BoxSteps.Form as box
use Rattle.std.specs.contracts.boxed.Box.into_raw_with_allocator as callee
use Rattle.pim_c.specs.contracts.raw_box.RawBox.of as f
use Rattle.pim_c.proofs.raw_box.RawBox.of.Statement.{statement}
use Rattle.pim_c.proofs.raw_box.RawBox.of.Code as code

pub of_spec : {M : Type 1} → statement M
of_spec 𝓤 𝓛 𝓜 𝓡 wired T A L LA g d dx dd is_allocator glue glued =
    let 𝓣 = tables 𝓤 𝓛.H 𝓜 𝓡 𝓡.env in let R : RattleType = param 0 T in let Z : RattleType = param 1 A in let LZ = param_laws 1 A LA in
    let ended = f.ended T A g d dx dd in let c = f.clauses T A g d dx dd 𝓛 𝓜.mem 𝓡.returns in
    let types = bounded (a_type ∷ a_type ∷ []) (T, (A, tt)) (dcons d (dcons dx (dcons dd dnil))) in let fn = inst_fn types code.function in
    let E : box.Bx = record { row = T; laws = L; al = record { row = A; laws = LA; g = g; d = d; drops = dd } } in
    let stayed : Stays ended.signature.params ended.kept = (stay_dropped (plain (λ _. box.B E)) no, tt) in
    proved_at 𝓛 ended stayed c 𝓜 𝓡 (Goes-blank 𝓛 2 (plain (λ _. box.B E)) no (λ κs x w. tt), tt)
    (f.Key.name types) fn (code.unfolded 𝓤 𝓛.H 𝓜 𝓡 wired (T, (A, tt)) d dx dd) (λ z are.
    let κs = z.0.0 in let qs = z.0.1 in let v = z.0.3.0 in let a = v.alloc in
    let Post : Val → SProp 𝓤 = (walk_of 𝓛 ended stayed c).post z in let Run : List Val → SProp 𝓤 = λ ws. WpFn 𝓤 𝓛.H 𝓣.C 𝓣.Λ fn ws Post in
    let tokens = ‵ (flft κs.0 qs.0) ⊛ ‵ (flft κs.1.0 qs.1.0) ⊛ ‵ ftrue in
    qed 𝓛 ((tokens ⊛ ‵ (owns (types_at ended.signature.params κs) z.0.3 z.0.4)) ∷ raw ((c κs z.0.3).requires z.1) ∷ []) ∵
    split ! $ move ! (1 ∷ []) $ fsplit ! $
    box_out E ! v z.0.4.0 (λ b o h at ws fits. box_in E ! v b o v.value at refl $
    -- [the box; nothing; the tokens; the requires], and then what the call is to be given
    let w : Val = box.word E h b o in let typed = raw_box_good R Z LZ g b o h fits in
    let G = triple_of 𝓛 (callee.signature T A g d dd dx) (callee.spec T A g d dd dx 𝓛 𝓜.mem 𝓡.returns) in
    let y : G.Ghost = ((κs, qs, tt, (v, tt), (w ∷ [], tt)), tt) in let Pair = Tuple (RawPtr ∷ Z ∷ []) in
    fjoin ! $ move ! (1 ∷ 0 ∷ []) $ join ! $ join ! $ use1 𝓛 (raw (G.pre y)) (id⊢ 𝓤 _) $
    suffices ! (Run (w ∷ [])) (subst (λ (us : List Val). ent 𝓤 (Run (w ∷ [])) (Run us)) (sym (λ i. ws i ++ [])) (id⊢ 𝓤 (Run (w ∷ [])))) $
    enter ! 𝓣.C 𝓣.Λ fn (w ∷ []) Post $ alloc_all ! (λ l. pass_all ! refl (typed, tt) $
    sets ! (of_opd ! (get ! refl)) refl typed $
    calls_at ! (framed 𝓤 𝓛.H 𝓜 𝓣) G
    (met 𝓤 𝓛 𝓜 𝓡 (code.calls-std_alloc::boxed::Box::into_raw_with_allocator 𝓡.env wired) T A L LA g d dd dx is_allocator glued glue) y
    (and_then ! (get ! refl) (no_more !)) (λ u.
    use1 𝓛 (later (some (λ (r : Ptr × A.Denot). (tokens ⊛ ‵ (Pair.own_val r (u ∷ []))) ⊛
    some (λ (_ : (Unit {0} × (Unit {0} × Unit {0})) × Unit {0}). ‵ (fsep (fsep ftrue (fsep ftrue ftrue)) ftrue) ⊛
    (raw (fact 𝓤 (r.1 ≡ a)) ⊛ ‵ (memory R Z LZ g a v.value r.0)))))) (id⊢ 𝓤 _) $
    await ! tt $ pick ! (λ r. split ! $ move ! (1 ∷ []) $ pick ! (λ _. split3 ! $ drop ! $ heard ! (r.1 ≡ a) (λ same.
    -- [the memory; the tokens with the pair]
    memory_in_a_block R Z LZ g ! a v.value r.0 (λ b' o' at'.
    move ! (1 ∷ []) $ split ! $ move ! (1 ∷ []) $ fpick ! (λ fields. fsplit ! $ feq_l ! (λ pair. fsplit ! $ feq_l ! (λ pointer. fsplit ! $
    rewrite ! 0 (λ (s : A.Denot). ‵ (A.own_val s fields.1.0)) same refl $
    handle_tells (allocator R Z LZ g) ! a fields.1.0 (λ h' alloc fits'.
    let typed' = raw_box_good R Z LZ g b' o' h' fits' in
    lands_as ! (ap only (pair ∙ (λ j. vstruct (of_list ((pointer ∙ ap (λ (p : Ptr). ptr_val p ∷ []) at') j ++ (alloc j ++ []))) ∷ []))) refl typed' $
    sets ! (of_opd ! (get_in ! (fld ! refl (stop !)) (sub ! 0 refl (whole !)))) refl (tt, tt) $
    sets ! (of_opd ! (get_in ! (fld ! refl (stop !)) (sub ! 1 refl (whole !)))) refl fits' $
    sets ! (of_opd ! (get ! refl)) refl fits' $
    sets ! (agg ! (and_then ! (get ! refl) (and_then ! (get ! refl) (no_more !)))) refl typed' $
    move ! (3 ∷ 0 ∷ []) $ closes_raw_box R Z LZ g ! b' o' h' a v.value $
    -- [the raw box; ..]
    use0 𝓛 (raw (fact 𝓤 (v.value ≡ v.value))) (fact_i 𝓤 (v.value ≡ v.value) (emp 𝓤) refl) $ nothing ! $ nothing ! $ fjoin ! $
    returns ! (look_at ! 0 refl) $ free_all ! refl $ keep ! (4 ∷ 0 ∷ 2 ∷ 1 ∷ []) $
    by ! (leaves 𝓛 ended stayed c z (struct_of_two (vptr b' o') h') (record { at = block_ptr b' o'; alloc = a; value = v.value })
    ((tt, (tt, tt)), tt) (tt, tt))))))))))))))
