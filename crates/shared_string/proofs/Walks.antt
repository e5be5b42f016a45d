-- Steps that the walks share. Assumes `Logic`.
use Rattle.std.proofs.Common.{ℕ, ◌+◌, List, [], ◌∷◌, T, refl, subst}
use seplogic.Ra.Ura.{Ura}
use mir.Syntax.{Fn, Callee, ty_ptr}
use mir.Raw.{raw}
use mir.Val.{Val, has_ty, WT}
use base.Fml.{Lft, Share, fat, flft}
use base.Logic.{ent, sep, never, fst∗}
use base.Mask.{every}
use prog.Model.{Model}
use prog.Routine.{over, ◌≼⁺◌}
use prog.Wp.{Calls, Loops, WpFn, Tables}
use sound.WpLaws.{WpFn-mono}
use contract.Beside.{Carries}
use contract.Lifetimes.{Lfts, Shares, AllOutlive}
use contract.Named.{bare_unfolds}
use contract.Running.{Running, tables_of, bare_tables}
use types.Logic.{Logic, sem}
use types.Kit.{Goal, Soaks, Seq, Step, step, Item, ‵, ◌$◌, move, drop, rewrite, fsplit, fjoin, fjoin3, fpack, feq_l, feq_i}
use types.Na.{na_inv}
use denote.Laws.{Spells, Tellss, Ises, valss}
use denote.Copied.{plain_Copied}
use denote.Memory.{lone, cell_at, part_at, hidden_shr}
use denote.Opens.{Shut, hide, unhide}
use denote.RawPtr.{Ptr, null_ptr, RawPtr, coded_ptr, ptr_own, rawptr_pure, ptr_val}
use denote.RattleType.{RattleType, Valss, flat}
use denote.Signature.{Signature, types_at}
use denote.Steps.{nothing, looks, shuts}
use denote.Struct.Laws.{RawPtr-laws}
use denote.Struct.Struct.{Shape, Struct, within}
use denote.Triple.Clauses.{Ended, Clauses, closing}
use denote.Triple.Entry.{Args, on_entry}
use denote.Triple.Handed.{holding, hands}
use denote.Triple.Spec.{Meets, triple_of}
use denote.Triple.Statement.{Contract}
use denote.Triple.Table.{entered}
use denote.Triple.Walked.{Stays, AllGo, walk_of, walked, walk_Meets}
use Rattle.std.proofs.RcSteps.{word}
use Rattle.std.specs.contracts.alloc.Global.{the_row as global_row}
use Rattle.std.proofs.alloc.Global.TheLaws as global
use Rattle.shared_string.specs.contracts.owner.Owner.{the_row}
use Rattle.shared_string.specs.Whole.{whole_owns, may_free}
use Rattle.shared_string.specs.Ownership.{Text, Times, holds, sees, key, shared, owner, owner_shares}

-- `Owner` and `Whole`, but for their names
abbrev one_pointer : Shape
one_pointer = record { name = []; args = []; types = []; fields = RawPtr ∷ [] }

abbrev pub Word : RattleType
Word = Struct one_pointer

-- a handle of the heap is a value of its type
pub global_typed : (g : (global_row).Denot) → T (has_ty global.mir (global.lowered g)) × WT (global.lowered g)
global_typed g = (tt, ((tt, tt), tt))

-- nothing is owned at the null pointer
pub not_null : {M : Type 1} {𝓤 : Ura M} (𝓛 : Logic 𝓤) (R : RattleType) (x : R.Denot) → ent 𝓤 (sem 𝓛 (whole_owns R null_ptr x)) (never 𝓤)
not_null {𝓤 = 𝓤} 𝓛 R x = fst∗ 𝓤 (never 𝓤) (sem 𝓛 (may_free (raw (lone R.mir)) null_ptr))

module _ {M : Type 1} {𝓤 : Ura M} {𝓛 : Logic 𝓤} {K : Type 0} {Γ : List (Item 𝓤)} {G : Goal 𝓤 𝓛.H} where
  -- a pointer behind a `&` is read, and shut
  pub pointer_out : K → Soaks G → {κ : Lft} {q : Share} (p : Ptr) (b o : ℕ)
      → ((s : Share) → Seq K 𝓛 (‵ (fat s ty_ptr b o (ptr_val p)) ∷ Shut 𝓛 κ q (part_at RawPtr s p b o) ∷ Γ) G) → Seq K 𝓛 (‵ (hidden_shr RawPtr κ p b o) ∷ ‵ (flft κ q) ∷ Γ) G
  pointer_out t z p b o k =
      looks t z RawPtr (plain_Copied 𝓛 Ptr coded_ptr (ty_ptr ∷ []) ptr_own rawptr_pure ptr_val RawPtr-laws.tells).opens p b o (λ s vs. move t (1 ∷ []) $ feq_l t (λ e.
      rewrite t 0 (λ (us : List Val). ‵ (cell_at s RawPtr.mir us b o)) e refl $ move t (2 ∷ []) $ drop t $ k s))

  pub pointer_back : K → Soaks G → {κ : Lft} {q s : Share} (p : Ptr) (b o : ℕ)
      → Step K 𝓛 (‵ (flft κ q) ∷ Γ) G (‵ (fat s ty_ptr b o (ptr_val p)) ∷ Shut 𝓛 κ q (part_at RawPtr s p b o) ∷ Γ) G
  pointer_back t z {s = s} p b o = step (λ k. feq_i t (List Val) (ptr_val p ∷ []) (ptr_val p ∷ []) refl $ move t (1 ∷ 0 ∷ []) $ shuts t z RawPtr s p (ptr_val p ∷ []) b o $ k)

  -- what a `&` to an owner shows
  pub owner_seen : K → {κ : Lft} (d : (the_row).Denot) (b o : ℕ)
      → Step K 𝓛 (‵ (hidden_shr RawPtr κ d.at b (o + 0)) ∷ ‵ (owner_shares d.at d.text κ) ∷ Γ) G (‵ (hidden_shr the_row κ d b o) ∷ Γ) G
  owner_seen t d b o = step (λ k. unhide t $ fsplit t $ fsplit t $ fsplit t $ hide t $ move t (1 ∷ 2 ∷ []) $ drop t $ drop t $ k)

  -- a handle by value is its pointer
  pub word_made : K → (c : Ptr) → Step K 𝓛 (‵ ((Word).own_val (c, tt) (word c ∷ [])) ∷ Γ) G Γ G
  word_made t c = step (λ k. nothing t $ feq_i t (List Val) (ptr_val c ∷ []) (ptr_val c ∷ []) refl $ fjoin t $ feq_i t (List Val) (word c ∷ []) (word c ∷ []) refl $ fjoin t $
      fpack t (Valss (RawPtr ∷ [])) (within one_pointer (c, tt) (word c ∷ [])) (ptr_val c ∷ [], tt) $ k)

module _ {M : Type 1} {𝓤 : Ura M} {𝓛 : Logic 𝓤} {K : Type 0} {Γ : List (Item 𝓤)} {G : Goal 𝓤 𝓛.H} where
  -- an owner by value
  pub owner_made : K → (c : Ptr) (x : Text) (a : Times)
      → Step K 𝓛 (‵ ((the_row).own_val (record { at = c; text = x }) (word c ∷ [])) ∷ Γ) G (‵ (holds a) ∷ ‵ (na_inv (key c x) (shared c x a)) ∷ ‵ (sees c x (a.0 ∷ [])) ∷ Γ) G
  owner_made t c x a = step (λ k. fjoin3 t $ fpack t Times (owner c x) a $ word_made t c $ fjoin t $ k)

-- a walk that holds the thread's token, which opens what the owners share
module _ {M : Type 1} {𝓤 : Ura M} (𝓛 : Logic 𝓤) (E : Ended) (hs : Stays E.signature.params E.kept) (c : Clauses 𝓤 E) where
  open 𝓛 use {H, A}

  abbrev S : Signature
  S = E.signature

  abbrev pub held : Clauses 𝓤 E
  held = holding 𝓤 E (A.tok every) c

  abbrev pub W : Contract 𝓤
  W = walk_of 𝓛 E hs held

  pub proved_holding : (𝓜 : Model 𝓤 H) (𝓡 : Running 𝓤 H 𝓜) → AllGo 𝓛 S.lifetimes S.params E.kept hs → (k : Callee) (e : Fn) → over 𝓡.env e ≼⁺ 𝓡.env k
      → (sp : (κs : Lfts S.lifetimes) → Spells (types_at S.params κs)) → ((κs : Lfts S.lifetimes) → Tellss (types_at S.params κs) (Ises (types_at S.params κs)) (sp κs))
      → ((C : Calls 𝓤 H) (Λ : Loops 𝓤 H) (κs : Lfts S.lifetimes) (qs : Shares S.lifetimes) (bounds : AllOutlive S.lifetimes S.outlives κs) (a : Args S κs) (g : (c κs a).ghost)
      → ent 𝓤 (sep 𝓤 (on_entry 𝓛 S κs qs a (valss (types_at S.params κs) (sp κs) a)) ((held κs a).requires g))
      (WpFn 𝓤 H C Λ e (flat (types_at S.params κs) (valss (types_at S.params κs) (sp κs) a)) (W.post ((κs, qs, bounds, a, valss (types_at S.params κs) (sp κs) a), g))))
      → Meets 𝓛 S (𝓡.run (𝓡.env k)) (closing 𝓛 E c)
  unfolding tables_of
  proved_holding 𝓜 𝓡 go k e is sp tells walk =
      let 𝓒 : Carries 𝓤 H 𝓜 (A.tok every) = subst (Carries 𝓤 H 𝓜) 𝓛.turn_is 𝓡.carries in
      let 𝓣 : Tables 𝓤 H = tables_of 𝓤 H 𝓒.inner (bare_tables 𝓤 H 𝓒.inner 𝓡.allowed 𝓡.how 𝓡.env) in
      hands 𝓛 E (A.tok every) c 𝓜 𝓒 𝓡 (𝓡.env k)
      (entered 𝓤 H (triple_of 𝓛 S (closing 𝓛 E held)) 𝓣.C 𝓣.Λ k e (bare_unfolds 𝓤 H 𝓒.inner 𝓡.allowed 𝓡.how 𝓡.env k e is)
      (walk_Meets 𝓛 E hs go held (WpFn 𝓤 H 𝓣.C 𝓣.Λ e) (WpFn-mono 𝓤 H 𝓛.laws 𝓣 e) (walked 𝓛 E hs held (WpFn 𝓤 H 𝓣.C 𝓣.Λ e) sp tells (λ κs qs bounds a g _. walk 𝓣.C 𝓣.Λ κs qs bounds a g))))
