-- What the walks cite.
pub use Rattle.std.proofs.Common.{◌≡◌, List, [], ◌∷◌, refl, ap, ℕ, sym, ◌+◌, ◌-◌, ◌^◌, ◌<◌, Bool, arith, lit<, ltb→lt, eqb→eq, w64, nltb→le}
pub use Rattle.std.proofs.raw_atomic.Walks.{proved}
pub use Rattle.std.proofs.alloc.Calls.{Goes-blank}
pub use mir.Syntax.{a_type, dcons, dnil, ty_int, named, ty_ptr}
pub use mir.Val.{Val, vptr, vint, vcons, vnil}
pub use mir.MapTy.{inst_fn}
pub use base.Fraction.{full_share}
pub use base.Logic.{emp, id⊢, never, fst∗}
pub use base.Fml.{Lft, ftrue, flft, Share, Fml, fat, fdead, fex, ftok, fsep, fobor}
pub use types.Kit.{‵, raw, ◌⊛◌, some, later, await, at_ret, ◌$◌, ◌∵◌, !, qed, move, keep, drop, split, split3, join, fsplit, fjoin, fpick, feq_i, pick, suffices, done, use0, use1, fpack, feq_l, rewrite, use2, Sq, runs, given, learn, fsplit3, frame, use3, group}
pub use types.Run.{stop, fld, of_opd, and_then, no_more, first, blocks, exec, returns, enter, look, load, store, bin, lit, neg_lit, branches, skips, returns_within, well_typed, assigns_last, hop, addr}
pub use types.ByLocal.{alloc_all, pass_all, free_all, look_at, get, get_in, sets, is, lands_last, env, lands_as, through, holding, forget_but, sets_last}
pub use types.Part.{sub, whole, agg}
pub use contract.Monad.{fact, fact_i}
pub use contract.BorrowLft.{◌⊑◌}
pub use contract.Running.{tables}
pub use denote.Exit.{no, yes}
pub use denote.Param.{param, bounded}
pub use denote.Param.Laws.{param_laws}
pub use denote.RattleType.{RattleType}
pub use denote.RawPtr.{Ptr, ptr_val, block_ptr, in_a_block, RawPtr, lies_at, ◌+ₚ◌}
pub use denote.Signature.{plain}
pub use denote.Steps.{nothing, heard, peeks, only}
pub use denote.Triple.Walked.{says, Stays, stay_dropped, walk_of, ends_at, Goes-dropped}
pub use Rattle.std.proofs.VecSteps.Shapes.{after}
pub use denote.Laws.{Is, shows}
pub use denote.Triple.Clauses.{Lasts, lasts}
pub use denote.Param.NoDrop.{glues}
pub use denote.Triple.Call.{calls_at_last, calls_at}
pub use denote.Triple.Spec.{triple_of}
pub use denote.Triple.Table.{framed}
pub use mir.Raw.{raw as bare}
pub use denote.Memory.{lone, part_at, shared_of}
pub use base.Mask.{every}
pub use types.Match.{live}
pub use types.Na.{na_inv, na_inv_dup}
pub use types.RcWeak.{rest, rest_some}
pub use denote.Builtin.{usize, RefOf}
pub use denote.Plain.{uint_in, uint_out}
pub use Rattle.std.specs.Prelude.{Some, None}
pub use types.Tokens.{shr_bor-open, obor_close}
pub use types.Within.{tokens_halve}
pub use denote.Opens.{Shut, hide}
pub use denote.Ref.{ShrRef, shr_vals, shr_Tells}
pub use types.Logic.{sem}
pub use Rattle.std.proofs.RcSteps.{word, word_ty, Ptr-Good, word-Good, some_Good, is_not}
pub use Rattle.std.proofs.option.Made.{Some-of, none_of}
