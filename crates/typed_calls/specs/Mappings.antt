-- What mapping constructors are, as typed parts, member by member.
use Rattle.std.specs.Prelude.{◌≡◌, ◌++◌, ◌*◌, ℕ, false, List, [], ◌∷◌, All, map, Option, Some, None, length, unwrap_or, ⊤}
use Rattle.std.specs.List.{AllZip, list_any}
use Rattle.bal_base.specs.declared.place.Place.{Place}
use Rattle.bal_base.specs.declared.shape.Shape.{Str}
use Rattle.bal_base.specs.declared.text.Text.{Text}
use Rattle.descriptors.specs.declared.names.Names.{Names}
use Rattle.descriptors.specs.Described.{plain}
use Rattle.operations.specs.Kinds.{IsString}
use Rattle.operations.specs.Rows.{IsSingle, IsWithin, Surroundings}
use Rattle.operations.specs.Structures.{IsMappingAtom, MayStandIn, MemberFits}
use Rattle.type_model.specs.declared.answers.TypeLimit.{TypeLimit}
use Rattle.type_model.specs.declared.atoms.AtomDef.{AtomDef}
use Rattle.type_model.specs.declared.atoms.FieldDef.{FieldDef}
use Rattle.type_model.specs.declared.basic.BasicSet.TheVariants.{Never}
use Rattle.type_model.specs.declared.basic.SemType.{Basic}
use Rattle.type_model.specs.declared.basic.Ty.{Ty}
use Rattle.type_model.specs.Calls.{Asked}
use Rattle.type_model.specs.Defined.{IsClosed}
use Rattle.type_model.specs.Inclusion.{Sub}
use Rattle.typed_tree.specs.declared.expr.TypedExpr.{TypedExpr}
use Rattle.typed_tree.specs.SharedTypes.{Shared}
use Rattle.expr_needs.specs.declared.expected.Expected.{Expected}
use Rattle.expr_needs.specs.Needs.{ChoosesMapping, ComputesKey, ExpectsMember, IsMember, MakesMapping, MemberSeen}
use Rattle.check_words.specs.Constructors.{RequiredAreThere, is_key, member_type, with_key, with_member}
use Rattle.check_words.specs.State.{AreLast, ConstructorAtWork, IsLast, State, all_but, replaced}
use Rattle.tree_promises.specs.Made.{AreTypedExprs, sem}
use Rattle.typed_needs.specs.Items.{AreFirst, WantsWithin}
use Rattle.typed_needs.specs.Pieces.{IsBefore, IsMet, MakesTyped}
use Rattle.typed_calls.specs.Errors.{AreDistinct, Pair, parts_of}

-- the type that a member with this key has to be of: where the rest has no type, there is none
abbrev pub type_at : List FieldDef → Option Ty → Option Text → Ty
type_at fields rest key = unwrap_or (member_type fields rest key) (plain (Basic Never))

-- a key that isn't computed is none of these
abbrev pub IsNewKey : Option Text → List (Option Text) → Type 0
IsNewKey (Some text) keys = list_any (is_key text) keys ≡ false
IsNewKey None keys = ⊤

module _ (env : List AtomDef) where
  -- the part is a string, and this text alone where the key isn't computed
  abbrev pub IsKeyPart : Option Text → TypedExpr → Type 0
  IsKeyPart (Some text) e = IsSingle env (sem e) (Str text)
  IsKeyPart None e = IsWithin env IsString (sem e)

  -- each value is below the type that it adds where nothing is chosen, and else in the type of each key that its key may be
  abbrev pub MembersChosen : Option ℕ → List Ty → List Pair → Type 0
  MembersChosen None types pairs = AllZip (λ p t. Sub env (sem p.1) t.sem) pairs types
  MembersChosen (Some atom) types pairs = IsMappingAtom env atom (λ fields rest. All (λ p. MemberFits env fields rest (sem p.0, sem p.1)) pairs)

  -- a mapping constructor at work, whose members so far are these
  pub record HoldsMembers (c : ConstructorAtWork) (pairs : List Pair) : Type 0 where
    pub keys : AllZip (λ key p. IsKeyPart key p.0) c.keys pairs
    pub distinct : AreDistinct c.keys
    pub many : length c.types ≡ length pairs
    pub fit : MembersChosen c.choice c.types pairs
    pub frozen : All (λ p. MayStandIn env c.immutable (sem p.1)) pairs

  -- each field that is required is among these members
  abbrev pub HasAllRequired : Option ℕ → List MemberSeen → Type 0
  HasAllRequired None members = ⊤
  HasAllRequired (Some atom) members = IsMappingAtom env atom (λ fields rest. RequiredAreThere fields members)

  -- of the member behind this key what the place asks is wanted, where something was chosen
  abbrev pub AwaitsMember : Option ℕ → Option Text → Option Shared → Type 0
  AwaitsMember None key w = w ≡ None
  AwaitsMember (Some atom) key w = IsMappingAtom env atom (λ fields rest. WantsWithin env w (type_at fields rest key))

module _ (passes : List AtomDef → Asked → TypeLimit → Type 0) (names : Names) (env : List AtomDef) (place : Surroundings) where
  abbrev pub MappingIsChosen : Type 0
  MappingIsChosen =
      (e : Expected) (members : List MemberSeen) (at : Place) (old new : State) → AreFirst env old.atoms → IsMet passes names env (ChoosesMapping e members at) old new
      → (c : ConstructorAtWork) × (new ≡ record old { constructors = old.constructors ++ c ∷ [] }) × (c.keys ≡ []) × HoldsMembers env c [] × HasAllRequired env c.choice members

  -- a computed key, which is the last part
  abbrev pub KeyIsComputed : Type 0
  KeyIsComputed =
      (old new : State) (c : ConstructorAtWork) → IsMet passes names env ComputesKey old new → IsLast old.constructors c
      → new ≡ record old { constructors = replaced old.constructors (with_key None c) }

  abbrev pub MemberIsExpected : Type 0
  MemberIsExpected =
      (old new : State) (c : ConstructorAtWork) (key : Option Text) → AreFirst env old.atoms → IsMet passes names env ExpectsMember old new
      → IsLast old.constructors (with_key key c) → (w : Option Shared) × (new ≡ record old { wants = old.wants ++ w ∷ [] }) × AwaitsMember env c.choice key w

  -- what is known of the constructor behind a member
  pub record TakesMember (old new : State) (c : ConstructorAtWork) (pairs : List Pair) : Type 0 where
    pub type : Ty
    pub constructors : new.constructors ≡ replaced old.constructors (with_member type c)
    pub wants : new.wants ≡ all_but 1 old.wants
    pub found : new.found ≡ old.found
    pub holds : HoldsMembers env (with_member type c) pairs

  abbrev pub MemberIsTaken : Type 0
  MemberIsTaken =
      (at : Place) (old new : State) (c : ConstructorAtWork) (key : Option Text) (k e : TypedExpr) (w : Option Shared) (pairs : List Pair) → IsClosed old.atoms
      → AreFirst env old.atoms → IsBefore env old → IsBefore env new → IsMet passes names env (IsMember at) old new → IsLast old.constructors (with_key key c)
      → AreLast old.found 2 (k ∷ e ∷ []) → IsLast old.wants w → AwaitsMember env c.choice key w → IsNewKey key c.keys → IsKeyPart env key k → HoldsMembers env c pairs
      → TakesMember old new (with_key key c) (pairs ++ (k, e) ∷ [])

  -- the keys are those of the members that were seen
  abbrev pub MappingIsTyped : Type 0
  MappingIsTyped =
      (count : ℕ) (at : Place) (old new : State) (c : ConstructorAtWork) (members : List MemberSeen) (pairs : List Pair) → IsBefore env old → IsBefore env new
      → AreFirst env new.atoms → IsMet passes names env (MakesMapping count at) old new → IsLast old.constructors c → length pairs ≡ count
      → AreLast old.found (2 * count) (parts_of pairs) → AreTypedExprs env place (parts_of pairs) → c.keys ≡ map (λ m. m.key) members
      → HasAllRequired env c.choice members → HoldsMembers env c pairs → MakesTyped passes names env place (2 * count) old new

  pub record MappingsAreTyped : Type 0 where
    pub chosen : MappingIsChosen
    pub computed : KeyIsComputed
    pub expected : MemberIsExpected
    pub taken : MemberIsTaken
    pub made : MappingIsTyped

abbrev pub AllMappingsAreTyped : (List AtomDef → Asked → TypeLimit → Type 0) → Type 0
AllMappingsAreTyped passes = (names : Names) (env : List AtomDef) (place : Surroundings) → MappingsAreTyped passes names env place
