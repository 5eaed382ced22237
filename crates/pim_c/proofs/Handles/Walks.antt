-- What the proofs about raw memory use of the toolchain. `Handles` hands it on, so that each of them imports it there.
pub use Rattle.std.proofs.Common.{◌≡◌, List, [], ◌∷◌, ◌++◌, refl, sym, subst, ap, ◌∙◌, lit<, ℕ}
pub use mir.Val.{Val, vptr, vcons, vnil, vbool, vstruct, of_list, vnull, has_ty, op2_val, WT}
pub use base.Logic.{SProp, ent, emp, id⊢, sep, guard, guard_i, via, snd∗, never, fst∗}
pub use base.Fml.{ftrue, flft, GName, fsep, Lft, Share, Fml, fobs, fauth, fbor, fobor}
pub use prog.Wp.{WpFn}
pub use types.Kit.{‵, raw, ◌⊛◌, ◌$◌, ◌∵◌, !, qed, by, move, keep, drop, split, fsplit, fjoin, feq_i, suffices}
pub use types.Kit.{rewrite, use0, at_ret, use1, join, fsplit3, fjoin3, some, later, done, split3, pick, await, frame}
pub use types.Kit.{group, fpick, feq_l, Item, Goal, Soaks, Seq, Step, step, fpack, learn, given}
pub use types.Run.{lit, no_more, and_then, returns, enter, stop, fld, of_opd, bin, first, branches, exec, load, addr}
pub use types.Run.{blocks}
pub use types.ByLocal.{alloc_all, pass_all, free_all, look_at, get, sets, get_in, sets_last, env, through, is}
pub use types.ByLocal.{lands_as, lands_last}
pub use types.Part.{agg, sub, whole, look_in}
pub use contract.Monad.{fact, fact_i, fact_use}
pub use contract.Running.{tables}
pub use denote.Exit.{yes, no}
pub use denote.RattleType.{owns, RattleType, Valss}
pub use denote.Signature.{types_at, plain, type_at, mut_ref_to}
pub use denote.RawPtr.{Ptr, null_ptr, ptr_val, block_ptr, tests_null, lies_at, Testable, in_a_block}
pub use denote.Steps.{nothing, closes, heard, only, opens}
pub use denote.Param.{layout, param, bounded}
pub use denote.Triple.Entry.{alive}
pub use denote.Triple.Walked.{Stays, stay_dropped, walk_of, Goes-dropped, stay_ref, Goes-ref, says, ends_at}
pub use denote.Triple.Walked.{Goes-spent_ref}
pub use Rattle.std.specs.Prelude.{None, Some, is_none, ◌≢◌, Option}
pub use Rattle.std.proofs.cell.Inside.{one, Good}
pub use Rattle.std.proofs.raw_atomic.Walks.{proved_at, leaves, proved}
pub use Rattle.std.specs.contracts.impls.GlobalAllocator.TheImpl.{ghosts}
pub use Rattle.std.proofs.alloc.Calls.{Goes-blank, handle_tells, Al}
pub use Rattle.std.proofs.VecSteps.Shapes.{after}
pub use Rattle.std.proofs.ResultValues.{and_tt}
pub use mir.Syntax.{named, a_type, dcons, dnil, ptr_eq, ty_ptr, impl, tnil}
pub use denote.Ref.{MutRef, mut_vals, mut_Tells}
pub use types.Logic.{sem, Logic}
pub use mir.MapTy.{inst_fn}
pub use denote.Builtin.{RawPtr}
pub use denote.Param.Laws.{param_laws, Laws}
pub use denote.Triple.Spec.{triple_of}
pub use denote.Triple.Call.{calls_at, calls_at_last}
pub use denote.Triple.Table.{framed}
pub use Rattle.std.proofs.BoxSteps.Steps.{box_out, box_in}
pub use seplogic.Ra.Ura.{Ura}
pub use mir.Raw.{raw as bare}
pub use denote.Memory.{lone, mem, cell_at, part_at}
pub use denote.Struct.Struct.{within}
pub use denote.Struct.Owning.{shape}
