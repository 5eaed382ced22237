-- `from_raw` moves the pointer and the allocator over.
use Rattle.pim_c.proofs.Handles.{◌≡◌, List, [], ◌∷◌, ◌++◌, refl, sym, subst, Val, vptr, SProp, ent, emp, id⊢, ftrue}
use Rattle.pim_c.proofs.Handles.{WpFn, ‵, raw, ◌⊛◌, ◌$◌, ◌∵◌, !, qed, by, move, keep, drop, split, fsplit, fjoin}
use Rattle.pim_c.proofs.Handles.{suffices, use0, stop, fld, of_opd, no_more, and_then, returns, enter, alloc_all}
use Rattle.pim_c.proofs.Handles.{pass_all, free_all, look_at, get, get_in, sets, agg, sub, whole, fact, fact_i}
use Rattle.pim_c.proofs.Handles.{tables, yes, RattleType, owns, types_at, plain, block_ptr, nothing, alive, Stays}
use Rattle.pim_c.proofs.Handles.{stay_dropped, walk_of, Some, ghosts, Goes-blank, proved_at, leaves, struct_of_two}
use Rattle.pim_c.proofs.Handles.{RawBox, raw_box_good, opens_raw_box, Handle, Z, LZ, R, handle_good, closes_handle}
use Rattle.pim_c.specs.contracts.handle.Handle.from_raw.{ended, clauses}
use Rattle.pim_c.specs.contracts.handle.Handle.from_raw.Key.{name as #self}
use Rattle.pim_c.proofs.handle.Handle.from_raw.Statement.{statement}
use Rattle.pim_c.proofs.handle.Handle.from_raw.Code as code

pub from_raw_spec : {M : Type 1} → statement M
from_raw_spec 𝓤 𝓛 𝓜 𝓡 wired =
    let H = 𝓛.H in let 𝓣 = tables 𝓤 H 𝓜 𝓡 𝓡.env in let En = ended in let c = clauses 𝓛 𝓜.mem 𝓡.returns in let fn = code.function in let Raw : RattleType = RawBox R Z LZ ghosts in
    let hs : Stays En.signature.params En.kept = (stay_dropped (plain (λ _. Raw)) yes, tt) in
    proved_at 𝓛 En hs c 𝓜 𝓡 (Goes-blank 𝓛 0 (plain (λ _. Raw)) yes (λ κs x f. tt), tt) #self fn (code.unfolded 𝓤 H 𝓜 𝓡 wired) (λ z are.
    let κs = z.0.0 in let qs = z.0.1 in let v = z.0.3.0 in let a = v.alloc in let Post : Val → SProp 𝓤 = (walk_of 𝓛 En hs c).post z in let Run : List Val → SProp 𝓤 = λ ws. WpFn 𝓤 H 𝓣.C 𝓣.Λ fn ws Post in
    qed 𝓛 ((raw (alive 𝓛 En.signature κs qs) ⊛ ‵ (owns (types_at En.signature.params κs) z.0.3 z.0.4)) ∷ ‵ ftrue ∷ []) ∵ move ! (1 ∷ []) $ drop ! $ split ! $ move ! (1 ∷ []) $ fsplit ! $ opens_raw_box R Z LZ ghosts ! v z.0.4.0 (λ b o h e ws fits.
    let w : Val = struct_of_two (vptr b o) h in let made : Handle.Denot = record { at = block_ptr b o; alloc = a; held = Some v.value } in closes_handle ! (block_ptr b o) h a (Some v.value) $
    suffices ! (Run (w ∷ [])) (subst (λ (us : List Val). ent 𝓤 (Run (w ∷ [])) (Run us)) (sym (λ i. ws i ++ [])) (id⊢ 𝓤 (Run (w ∷ [])))) $
    enter ! 𝓣.C 𝓣.Λ fn (w ∷ []) Post $ alloc_all ! (λ l. pass_all ! refl (raw_box_good R Z LZ ghosts b o h fits, tt) $
    sets ! (of_opd ! (get_in ! (fld ! refl (stop !)) (sub ! 0 refl (whole !)))) refl (tt, tt) $ sets ! (of_opd ! (get_in ! (fld ! refl (stop !)) (sub ! 1 refl (whole !)))) refl fits $
    sets ! (of_opd ! (get ! refl)) refl (tt, tt) $ sets ! (agg ! (and_then ! (get ! refl) (and_then ! (get ! refl) (no_more !)))) refl (handle_good (block_ptr b o) h fits) $
    use0 𝓛 (raw (fact 𝓤 (made.held ≡ Some v.value))) (fact_i 𝓤 (made.held ≡ Some v.value) (emp 𝓤) refl) $ nothing ! $ nothing ! $ fjoin ! $
    returns ! (look_at ! 0 refl) $ free_all ! refl $ keep ! (4 ∷ 0 ∷ 2 ∷ 1 ∷ []) $ by ! (leaves 𝓛 En hs c z w made (tt, tt) (tt, tt)))))
