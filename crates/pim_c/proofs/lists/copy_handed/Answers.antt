use Rattle.std.proofs.Common.{◌∷◌, ◌++◌, [], ◌∙◌, List, append_assoc, append-nil, ap, ap₂, arith, length}
use Rattle.std.proofs.Common.{length-append, map, refl, sym, slice_set}
use Rattle.pim_manager.specs.declared.handed_mutexes.HandedMutex.{HandedMutex}
use Rattle.pim_ffi.specs.Copied.{copied}
use Rattle.pim_c.specs.Shapes.{c_handed}
use Rattle.pim_ffi.proofs.Copies.{copied_more, copied_past}
use Rattle.pim_c.proofs.lists.copy_handed.Goals as goal
use Rattle.pim_c.proofs.lists.copy_handed.Goals.{then-count-to, else-count-to}

pub loop-handed-init : goal.loop-handed-init
loop-handed-init c = ([], record { parts = c.into_iter-handed-iterator.ensures.into_iter_gives ∙ c.handed-handed-items.ensures.handed; counted = refl; copies = refl })

pub loop-handed-preserved : goal.loop-handed-preserved
loop-handed-preserved c =
    let next : HandedMutex = c.in-Some.handed in let old = c.args.to.now in
    let done : List HandedMutex = c.loop-handed.invariant.0 in let before = c.loop-handed.invariant.1 in
    let counted = before.counted in
    let more = length-append done (next ∷ []) in (
      done ++ next ∷ [],
      record {
        parts = append_assoc done (next ∷ []) c.next.new.self ∙ ap (λ ts. done ++ ts) (sym c.in-Some.ensures.steps) ∙ before.parts;
        counted = omega (arith, counted, more);
        copies = elim c.if-count-to.branch [
          | then-count-to w ↦
              let room = w.if-count-to in let same = c.loop-handed.auto.to in
              w.to-is
              ∙ ap (λ n. slice_set c.loop-handed.to n w.of.result) counted
              ∙ ap₂ (λ ys y. slice_set ys (length done) y) before.copies w.of.ensures
              ∙ copied_more c_handed done old next (omega (arith, counted, room.true, same))
          | else-count-to w ↦
              let full = w.if-count-to in let same = c.loop-handed.auto.to in
              w.to-is ∙ before.copies ∙ copied_past c_handed done old next (omega (arith, counted, full.false, same))
        ];
      },
    )

pub returns-clause-copied : goal.returns-clause-copied
returns-clause-copied c =
    let before = c.loop-handed.invariant.1 in
    let all = ap (λ ts. c.loop-handed.invariant.0 ++ ts) (sym c.in-None.ensures.steps.0) ∙ before.parts in
    before.copies ∙ ap (λ ts. copied (map c_handed ts) c.args.to.now) (sym (append-nil c.loop-handed.invariant.0) ∙ all)
