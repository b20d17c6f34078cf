-- What the walks import, in one place: names of the kit, by the file that they come from.
-- It says nothing of the crate.
pub use Prim.Native.Nat.{ℕ, ◌<◌, ◌*◌, ◌^◌, ◌≤◌, ◌+◌, ◌-◌}
pub use base.Fml.{Lft, GName, Share, ftrue, flft, Fml}
pub use base.Logic.{SProp, ent, sep, emp, id⊢, via}
pub use contract.Monad.{Fun, fact, fact_i}
pub use contract.Running.{tables}
unfoldable pub use contract.Running.{tables_of}
pub use denote.Builtin.{usize, u64, u16, u8}
pub use denote.Exit.{yes}
pub use denote.Index.{shuts_slice, row}
pub use denote.Memory.{pointee}
pub use denote.RattleType.{RattleType, owns}
pub use denote.Ref.{Bor, MutBor}
pub use denote.Slice.{slice_ty, slice_val, Room, shr_slice_Tells, mut_slice_Tells}
pub use denote.Steps.{nothing, heard}
pub use denote.Triple.Clauses.{Clauses, Ended, closing}
pub use denote.Triple.Entry.{on_entry}
pub use denote.Triple.Spec.{Meets}
pub use denote.Triple.Statement.{Contract, Triple}
pub use denote.Triple.Table.{cited}
pub use denote.Triple.Walked.{needs, Stays, AllGo, walk_of, ends_at, walked, walk_Meets}
pub use ghost.Atoms.{Atoms}
pub use base.Fraction.{full_share}
pub use seplogic.Ra.Ura.{Ura}
pub use lib.Dec.{T as Tr, ltb, ltb→lt, lit<}
pub use lib.ListN.{length, get_or, set, length-set}
pub use mathlib.Core.List.{List, [], ◌∷◌}
pub use mathlib.Core.Path.{◌≡◌, refl, sym, ap, subst, ◌∙◌}
pub use mir.Syntax.{named, w8, w16, w64, ty_ptr, Ty, ty_int}
pub use mir.Val.{Val, vint}
pub use native.Mathlib.Nat.{zero-add}
pub use native.Mathlib.Omega.{arith}
pub use prog.Memory.{Memory}
pub use prog.Routine.{Routine}
pub use prog.Wp.{Heap, WpFn, Tables, Wp, after_seq, after_block, at_return}
unfoldable pub use prog.Wp.{after_turn}
pub use sound.WpLaws.{WpFn-mono, fm_of}
pub use types.Kit.{‵, ◌⊛◌, ⋆, ◌$◌, ◌∵◌, !, qed, by, move, split, join, fsplit, fjoin, suffices, done, drop, Item}
pub use types.Kit.{raw, Sq, runs, any_q, at_ret, use1, feq_l, use0}
pub use types.Logic.{sem}
pub use types.Part.{agg}
pub use types.Run.{look, look_raw, init, forget, stop, hop, from, load, lit, of_opd, bin, assigns}
pub use types.Run.{store_raw, unit_lit, store, addr, and_then, no_more, assigns_last, land, land_last, first}
pub use types.Run.{blocks, exec}
