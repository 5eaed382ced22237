-- `empty` stores a null pointer with the allocator.
use Rattle.pim_c.proofs.Handles.{◌≡◌, List, [], ◌∷◌, ◌++◌, refl, sym, subst, Val, SProp, ent, emp, id⊢, ftrue, WpFn}
use Rattle.pim_c.proofs.Handles.{‵, raw, ◌⊛◌, ◌$◌, ◌∵◌, !, qed, by, move, keep, drop, split, fsplit, fjoin, feq_i}
use Rattle.pim_c.proofs.Handles.{suffices, rewrite, use0, lit, no_more, and_then, returns, enter, alloc_all, pass_all}
use Rattle.pim_c.proofs.Handles.{free_all, look_at, get, sets, agg, fact, fact_i, tables, yes, owns, types_at, plain}
use Rattle.pim_c.proofs.Handles.{Ptr, null_ptr, ptr_val, nothing, layout, alive, Stays, stay_dropped, walk_of}
use Rattle.pim_c.proofs.Handles.{Goes-dropped, None, one, proved_at, leaves, struct_of_two, Handle, Z, LZ}
use Rattle.pim_c.proofs.Handles.{handle_good, closes_handle}
use Rattle.pim_c.specs.contracts.handle.Handle.empty.{ended, clauses}
use Rattle.pim_c.specs.contracts.handle.Handle.empty.Key.{name as #self}
use Rattle.pim_c.proofs.handle.Handle.empty.Statement.{statement}
use Rattle.pim_c.proofs.handle.Handle.empty.Code as code

pub empty_spec : {M : Type 1} → statement M
empty_spec 𝓤 𝓛 𝓜 𝓡 wired =
    let H = 𝓛.H in let 𝓣 = tables 𝓤 H 𝓜 𝓡 𝓡.env in let En = ended in let c = clauses 𝓛 𝓜.mem 𝓡.returns in let fn = code.function in
    let hs : Stays En.signature.params En.kept = (stay_dropped (plain (λ _. Z)) yes, tt) in
    proved_at 𝓛 En hs c 𝓜 𝓡 (Goes-dropped 𝓛 0 (plain (λ _. Z)) yes (λ κs x f. refl), tt) #self fn (code.unfolded 𝓤 H 𝓜 𝓡 wired) (λ z are.
    let κs = z.0.0 in let qs = z.0.1 in let Post : Val → SProp 𝓤 = (walk_of 𝓛 En hs c).post z in let Run : List Val → SProp 𝓤 = λ ws. WpFn 𝓤 H 𝓣.C 𝓣.Λ fn ws Post in
    let a = z.0.3.0 in let h = one (layout Z) z.0.4.0 ((LZ.lawful 𝓛).typed a z.0.4.0 are.0) in let w : Val = struct_of_two (ptr_val null_ptr) h.0 in let made : Handle.Denot = record { at = null_ptr; alloc = a; held = None } in
    qed 𝓛 ((raw (alive 𝓛 En.signature κs qs) ⊛ ‵ (owns (types_at En.signature.params κs) z.0.3 z.0.4)) ∷ ‵ ftrue ∷ []) ∵ move ! (1 ∷ []) $ drop ! $ split ! $ move ! (1 ∷ []) $ fsplit ! $
    rewrite ! 0 (λ (us : List Val). ‵ (Z.own_val a us)) h.1 refl $ feq_i ! Ptr null_ptr null_ptr refl $ closes_handle ! null_ptr h.0 a None $
    suffices ! (Run (h.0 ∷ [])) (subst (λ (us : List Val). ent 𝓤 (Run (h.0 ∷ [])) (Run us)) (sym (λ i. h.1 i ++ [])) (id⊢ 𝓤 (Run (h.0 ∷ [])))) $
    enter ! 𝓣.C 𝓣.Λ fn (h.0 ∷ []) Post $ alloc_all ! (λ l. pass_all ! refl (h.2, tt) $
    sets ! (agg ! (and_then ! (lit ! tt) (and_then ! (get ! refl) (no_more !)))) refl (handle_good null_ptr h.0 h.2) $
    use0 𝓛 (raw (fact 𝓤 (made.held ≡ None))) (fact_i 𝓤 (made.held ≡ None) (emp 𝓤) refl) $ nothing ! $ nothing ! $ fjoin ! $
    returns ! (look_at ! 0 refl) $ free_all ! refl $ keep ! (4 ∷ 0 ∷ 2 ∷ 1 ∷ []) $ by ! (leaves 𝓛 En hs c z w made (tt, tt) (tt, tt))))
