-- The names that a proof by hand uses, passed on from the libraries that have them, so that such a proof needs one line for them.
pub use mathlib.Core.Path.{◌≡◌, refl, sym, ◌∙◌, ap, subst}
pub use Prim.Native.Nat.{ℕ, suc, ◌+◌, ◌-◌, ◌*◌, ◌≤◌, ◌<◌, ◌^◌, zero-le}
pub use mathlib.Core.Bool.{true, false}
pub use mathlib.Core.List.{List, [], ◌∷◌}
pub use lib.ListN.{length, get_or, set, take, drop, replicate}
pub use seplogic.Ra.Ura.{Ura}
pub use base.Fraction.{full_share}
pub use mir.Syntax.{named, erased, w8, w64, ty_array}
pub use mir.Val.{Val, vint, vptr}
pub use base.Logic.{SProp, ent, emp, sep, ex, guard, via, fst∗, snd∗, id⊢}
pub use base.Fml.{Lft, Share, GName, Fml, ftrue, fsep, fat, fdies, flft, flent, fobs, fauth, fbor, fobor}
pub use prog.Routine.{Routine}
pub use prog.Wp.{Heap, Env, Calls, Loops, WpFn, Tables}
pub use types.Logic.{sem}
pub use ghost.Atoms.{Atoms}
pub use contract.Monad.{fact}
pub use prog.Model.{Model}
pub use contract.Running.{Running}
pub use contract.Monad.{fact_i, fact_mono}
pub use types.Kit.{drop as let_go, Item, ‵, raw, given, some, later, ◌⊛◌, ⋆, prop, runs, at_ret, Sq, ◌$◌, ◌∵◌, !, qed, by, move, keep}
pub use types.Kit.{use1, use2, use3, split, join, pick, learn, rewrite, fsplit, fsplit3, fjoin, fjoin3, feq_l, feq_i, check, show, suffices, frame, await}
pub use types.Kit.{done}
pub use types.Run.{look, look_raw, init, store, store_raw, forget, stop, hop, fld, from, load, lit, false_lit, of_opd, bin, addr}
pub use types.Run.{and_then, no_more, assigns, assigns_last, branches, returns, returns_within}
pub use types.Run.{exec}
pub use types.Part.{agg, rep, whole, sub, look_in, store_in}
pub use types.SemTy.{Body, cells, Arr}
pub use types.Tokens.{lft_new, lft_end}
pub use sound.WpLaws.{FmC, fm_of}
pub use denote.RattleType.{RattleType, owns}
pub use denote.Memory.{mem, cell_at}
pub use denote.Shadow.{pure_i}
pub use denote.Laws.{Is, shows}
pub use denote.Plain.{uint_Makes, uint_Tells}
pub use denote.Builtin.{u8, usize}
pub use denote.Ref.{Bor, MutBor, NamedLft, MutRef, shr_vals, mut_vals, mut_Tells, mut_Lawful}
pub use denote.Slice.{slice_val, ShrSlice, MutSlice, Room, finally, heres, coded_holeys, shr_slice_at, mut_slice_at, shr_slice_vals, mut_slice_vals}
pub use denote.Slice.{shr_slice_Tells}
pub use denote.Slice.{shr_slice_Lawful, shr_slice_copy}
pub use denote.Lend.{Held, lends_slice, slice_back}
pub use denote.Index.{row, place_is, elem_out, elem_back, elem_put, opens_slice, closes_slice, looks_slice, shuts_slice}
pub use denote.Steps.{only, opens, closes, owned, peeks, heard, nothing}
pub use denote.Struct.Steps.{spelt}
pub use denote.Struct.Declared.{Declared}
pub use denote.Struct.Rest.{all_own, field_own, rest, own_open, own_out, own_shut}
pub use denote.Struct.Values.{Values}
pub use denote.Signature.{Slot, plain, named_lft}
pub use denote.Exit.{yes}
pub use denote.Triple.Entry.{on_entry}
pub use denote.Triple.Spec.{triple_of}
pub use denote.Triple.Statement.{Contract, Triple}
pub use denote.Triple.Clauses.{Clauses, Lasts, lasts}
pub use denote.Triple.Table.{cited}
pub use denote.Triple.Walked.{says, Stays, stay_none, stay_none_slice, stay_ref, walk_of, Goes-none, Goes-none_slice}
pub use denote.Triple.Walked.{Goes-ref, Walks, ends_at, walked}
