-- What is expected of members of mappings, as answers of calls.
use Rattle.std.proofs.Common.{◌≡◌, ◌<◌, ◌++◌, ℕ, Bool, true, false, if◌then◌else◌, unwrap_or, List, [], ◌∷◌, length, All, Option, Some, None, Ok, IfSome, slice_get, refl, sym, subst}
use Rattle.std.proofs.lemmas.List.Elements.{All-head, All-nil, All-tail}
use Rattle.bal_base.specs.declared.text.Text.{Text}
use Rattle.checks.specs.Checks.{Comes}
use Rattle.descriptors.specs.Described.{plain}
use Rattle.flow_narrowing.specs.Flows.{IfShared}
use Rattle.operations.specs.Structures.{IsMappingAtom}
use Rattle.type_model.specs.declared.atoms.AtomDef.{AtomDef}
use Rattle.type_model.specs.declared.atoms.AtomDef.TheVariants.{List as ListAtom, Mapping as MappingAtom, Arrow, Error as ErrorAtom, Future as FutureAtom}
use Rattle.type_model.specs.declared.atoms.FieldDef.{FieldDef}
use Rattle.type_model.specs.declared.basic.BasicSet.TheVariants.{Never}
use Rattle.type_model.specs.declared.basic.Choice.{Choice}
use Rattle.type_model.specs.declared.basic.SemType.{Basic}
use Rattle.type_model.specs.declared.basic.Ty.{Ty}
use Rattle.type_model.specs.Defined.{DefBelow, IsClosed, TyBelow}
use Rattle.type_model.specs.Places.{is_same_text, key_type}
use Rattle.typed_tree.specs.SharedTypes.{Shared}
use Rattle.made_atoms.proofs.Groups.{all-at}
use Rattle.check_words.specs.Constructors.{IsMemberWant, IsWantCopy, expects_member, member_type}
use Rattle.check_words.specs.State.{ConstructorAtWork, IsLast, State}
use Rattle.check_words.specs.Words.{Atoms}
use Rattle.check_words.proofs.Coming.{given, next}
use Rattle.check_words.proofs.Flowing.{want-put}
use Rattle.check_words.proofs.Same.{are-same}
use Rattle.needs_of_structures.proofs.Wanted.{copied-below}
use Rattle.needs_of_choices.specs.ByKeys.{IsKeyCopy, IsKeyCopyOf}

-- ---- mappings of an atom

module _ (env : Atoms) (atom : ℕ) where
  pub key-there : (def : AtomDef) (key : Option Text) (w : Option Shared) → slice_get env atom ≡ Some def → IsKeyCopy def key w → IsKeyCopyOf env atom key w
  key-there (MappingAtom fields rest) key w e h = rw e h
  key-there (ListAtom fixed rest) key w e h = absurd h
  key-there (Arrow args outcome alone) key w e h = absurd h
  key-there (ErrorAtom detail) key w e h = absurd h
  key-there (FutureAtom outcome) key w e h = absurd h

module _ (env : Atoms) (atom : ℕ) (P : List FieldDef → Option Ty → Type 0) where
  pub mapping-case : (Q : Type 0) → IsMappingAtom env atom P → ((fields : List FieldDef) (rest : Option Ty) → slice_get env atom ≡ Some (MappingAtom fields rest) → P fields rest → Q) → Q
  mapping-case Q h f = by (slice_get env atom) refl
    where
      by : (o : Option AtomDef) → slice_get env atom ≡ o → Q
      by None e = absurd (rw e at h)
      by (Some (ListAtom fixed rest)) e = absurd (rw e at h)
      by (Some (MappingAtom fields rest)) e = f fields rest e (rw e at h)
      by (Some (Arrow args outcome alone)) e = absurd (rw e at h)
      by (Some (ErrorAtom detail)) e = absurd (rw e at h)
      by (Some (FutureAtom outcome)) e = absurd (rw e at h)

module _ (P : Ty → Type 0) where
  if-has : (rest : Option Ty) → IfSome rest P → P (plain (Basic Never)) → P (unwrap_or rest (plain (Basic Never)))
  if-has None h p = p
  if-has (Some t) h p = h

  key-has : (fields : List FieldDef) (rest : Option Ty) (key : Text) → All (λ f. P f.ty) fields → IfSome rest P → IfSome (key_type fields rest key) P
  key-has [] rest key h k = k
  key-has (f ∷ fields) rest key h k = by (is_same_text f.name key) (All-head (λ f. P f.ty) f fields h) (key-has fields rest key (All-tail (λ f. P f.ty) f fields h) k)
    where
      by : (b : Bool) → P f.ty → IfSome (key_type fields rest key) P → IfSome (if b then Some f.ty else key_type fields rest key) P
      by true here behind = here
      by false here behind = behind

  member-has : (fields : List FieldDef) (rest : Option Ty) (key : Option Text) → All (λ f. P f.ty) fields → IfSome rest P → IfSome (member_type fields rest key) P
  member-has fields rest None h k = k
  member-has fields rest (Some key) h k = key-has fields rest key h k

module _ (env : Atoms) (c : ConstructorAtWork) where
  -- with the very type at the last key
  pub member-want : (atom : ℕ) (key : Option Text) (w : Option Shared) → c.choice ≡ Some atom → IsLast c.keys key → IsKeyCopyOf env atom key w → IsMemberWant env c w
  member-want atom key w e l h = rw e (key, record { before = l.kept; is = l.is }, h)

  pub no-member-want : (w : Option Shared) → c.choice ≡ None → w ≡ None → IsMemberWant env c w
  no-member-want w e is = rw e is

  pub member-want-below : (w : Option Shared) → IsClosed env → IsMemberWant env c w → IfShared (TyBelow (length env)) w
  member-want-below w closed h = by c.choice refl
    where
      by : (o : Option ℕ) → c.choice ≡ o → IfShared (TyBelow (length env)) w
      by None e = let is : w ≡ None = rw e at h in subst (IfShared (TyBelow (length env))) (sym is) tt
      by (Some atom) e = let k = rw e at h in
          mapping-case env atom (λ fields rest. IsWantCopy (unwrap_or (member_type fields rest k.0) (plain (Basic Never))) w) _ k.2
          (λ fields rest is copy. let d = all-at (DefBelow (length env)) env atom (MappingAtom fields rest) is closed in
          copied-below (length env) (unwrap_or (member_type fields rest k.0) (plain (Basic Never))) w
          (if-has (TyBelow (length env)) (member_type fields rest k.0) (member-has (TyBelow (length env)) fields rest k.0 d.0 d.1)
          (tt, All-nil (λ (c : Choice). c.atom < length env), All-nil (λ (c : Choice). c.atom < length env))) copy)

-- ---- what is wanted

module _ (s : State) (w : Option Shared) (ws : List (Option Shared)) (more : ws ≡ s.wants ++ w ∷ []) where
  pub member-wanted : (c : ConstructorAtWork) → IsLast s.constructors c → IsMemberWant s.atoms c w → Comes expects_member s (Ok tt) (record s { wants = ws })
  member-wanted c l h = next _ _ _ _ _ c s (given _ s c l) (next _ _ _ _ _ w s (given _ s w h) (want-put s w w ws (are-same w) more))
