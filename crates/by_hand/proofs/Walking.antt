-- What the walks by hand take from the libraries, passed on under one name.
pub use mathlib.Core.Path.{◌≡◌, refl, sym, ◌∙◌, ap, subst}
pub use mathlib.Core.Bool.{Bool}
pub use mathlib.Core.List.{List, [], ◌∷◌}
pub use Prim.Native.Nat.{ℕ, ◌+◌, ◌-◌, ◌*◌, ◌<◌, ◌≤◌, ◌^◌}
pub use native.Mathlib.Omega.{arith}
pub use lib.ListN.{length, get_or}
pub use lib.Dec.{lit<, T as Holds}
pub use Rattle.by_hand.proofs.Again.{LentAgain, lends_again, comes_back}
pub use Rattle.by_hand.proofs.Calls.{contract_of, calls_with, calls_plain, calls_lent, unsaid, counting, calls_of, loops_of, framed, meets}
pub use seplogic.Ra.Ura.{Ura}
pub use base.Fraction.{full_share}
pub use mir.Syntax.{named, w32, w64, ty_int, Ty, imm, ty_bool, ty_ref, loop, erased, mut, w8, ty_unit, ty_ptr}
pub use lib.Signed.{mag}
pub use mir.Val.{Val, vint, of_z, WT, has_ty, vbool, vunit, vptr}
pub use mir.ValLaws.{of_z_fits}
pub use base.Logic.{SProp, ent, via, fst∗, ex_e, emp, id⊢, ex, guard, ex_i, guard_i, guard_e}
pub use base.Fml.{flent, Lft, Share, Fml, ftrue, flft, fat, froom, fdies, GName}
pub use prog.Memory.{Memory}
pub use prog.Routine.{Routine}
pub use prog.Wp.{Heap, Calls, Loops, WpFn, Out, Env, after_seq, after_block, Wp, at_return}
pub use ghost.Atoms.{Atoms}
pub use contract.Monad.{Fun, fact_i}
pub use contract.Running.{Running}
pub use prog.Model.{Model}
pub use types.Logic.{Logic}
pub use types.Kit.{Item, ‵, raw, given, learn, some, later, ◌⊛◌, ⋆, ◌$◌, ◌∵◌, !, qed, by, move, drop, use1, use2, split, join, pick, rewrite, fsplit, fjoin, suffices, frame, await, done, any_q, at_ret, keep, use3, feq_l, feq_i}
pub use types.Part.{whole, sub, look_in, agg}
pub use types.Run.{look, init, forget, stop, fld, from, load, of_opd, and_then, no_more, assigns, land, returns, enter, alloc1, alloc0, params1, pass1, pass0, free1, free0, store, lit, bin, assigns_last, stays, leaves_loop, exec, hop, addr, unit_lit, look_raw}
pub use denote.RattleType.{RattleType, owns}
pub use denote.Laws.{Is, shows}
pub use denote.Plain.{uint_Makes, uint_vals, uint_Tells, uint_Lawful, Nothing-Lawful, nothing_vals, Nothing-Tells}
pub use denote.Signed.{sint_Makes, sint_vals, sint_Tells, sint_Lawful}
pub use denote.Builtin.{i32, u64, usize, u8}
pub use denote.Ref.{Bor, MutBor, NamedLft}
pub use denote.Slice.{slice_val, ShrSlice, Room, shr_slice_vals, mut_slice_vals, shr_slice_Tells, shr_slice_copy, shr_slice_Lawful, slice_ty, MutSlice, mut_slice_Tells}
pub use denote.Signature.{plain, named_lft}
pub use denote.Steps.{owned, nothing}
pub use denote.Triple.Entry.{on_entry, Vals}
pub use denote.Triple.Table.{cited}
pub use denote.Triple.Walked.{says, Stays, stay_none_slice, stay_none, walk_of, Goes-none_slice, Goes-none, ends_at, walked, gave_slice, Goes-gave_slice, needs, stay_slice, Goes-slice}
pub use denote.Exit.{yes}
pub use denote.Memory.{pointee}
pub use contract.Lifetimes.{Lfts}
pub use types.Tokens.{lft_new, lft_end, lent_back}
pub use denote.Lend.{lends_shr_slice}
pub use denote.Index.{place_is, elem_out, elem_back, looks_slice, shuts_slice}
unfoldable pub use prog.Wp.{after_turn}
