-- Lines of the table of expressions for constructors: of lists, of mappings, member by member, and of errors, detail by detail.
use Rattle.std.specs.Prelude.{◌≡◌, ◌≤◌, ◌++◌, List, [], ◌∷◌, All, IfSome, Option, length, map}
use Rattle.std.specs.Global.{Box}
use Rattle.bal_base.specs.declared.place.Place.{Place}
use Rattle.bal_base.specs.declared.text.Text.{Text}
use Rattle.bal_tree.specs.declared.expr.Call.TheOpen as layer
use Rattle.bal_tree.specs.declared.name.Word.{Word}
use Rattle.bal_tree.specs.ExprLayers.{DetailOf, MemberOf}
use Rattle.descriptors.specs.declared.names.Names.{Names}
use Rattle.operations.specs.Rows.{Surroundings}
use Rattle.type_model.specs.declared.answers.TypeLimit.{TypeLimit}
use Rattle.type_model.specs.declared.atoms.AtomDef.{AtomDef}
use Rattle.type_model.specs.Calls.{Asked}
use Rattle.typed_tree.specs.declared.expr.TypedExpr.{TypedExpr}
use Rattle.expr_needs.specs.ExprTable.{Reading, detail_step, error_needs, freely, key_step, list_needs, mapping_needs, member_step}
use Rattle.expr_needs.specs.Needs.{MemberSeen}
use Rattle.check_words.specs.Constructors.{with_key}
use Rattle.check_words.specs.State.{ConstructorAtWork, IsLast, State, replaced}
use Rattle.tree_promises.specs.Made.{AreTypedExprs}
use Rattle.tree_promises.specs.Types.{IsTypedExpr}
use Rattle.typed_needs.specs.Between.{IsKept, IsSoFar, IsTypedUnit, units_in}
use Rattle.typed_needs.specs.Placing.{AreNamed}
use Rattle.typed_calls.specs.Errors.{HoldsDetails, Pair}
use Rattle.typed_calls.specs.Mappings.{HasAllRequired, HoldsMembers, IsKeyPart, IsNewKey}
use Rattle.typed_exprs.specs.Lines.{Claim, Knows, Path, Run}

module _ (passes : List AtomDef → Asked → TypeLimit → Type 0) (names : Names) (env : List AtomDef) where
  -- ---- keys

  -- a key is a part more, and one of the constructor that is open
  pub record TakesKey (place : Surroundings) (key : Option Text) (c : ConstructorAtWork) (old new : State) : Type 0 where
    pub part : TypedExpr
    pub found : new.found ≡ old.found ++ part ∷ []
    pub typed : IsTypedExpr env place part
    pub units : All (IsTypedUnit env place) (units_in (part ∷ []))
    pub kept : IsKept place new
    pub constructors : new.constructors ≡ replaced old.constructors (with_key key c)
    pub fresh : IsNewKey key c.keys
    pub is : IsKeyPart env key part

  pub record KnowsKey (k : Reading) : Type 0 where
    pub moves : (old new : State) → 1 ≤ length old.units → Run passes names env (freely k) old new → Path old new
    pub takes : (place : Surroundings) (old new : State) (c : ConstructorAtWork) → 1 ≤ length old.units → Run passes names env (freely k) old new → IsKept place old
        → IsSoFar env place new → AreNamed env names place → IsLast old.constructors c → TakesKey place k.key c old new

  -- ---- pairs

  -- a key and a value are two parts more; the constructor that is open has them
  pub record TakesPair (Holds : ConstructorAtWork → List Pair → Type 0) (place : Surroundings) (pairs : List Pair) (old new : State) : Type 0 where
    pub key : TypedExpr
    pub value : TypedExpr
    pub found : new.found ≡ old.found ++ key ∷ value ∷ []
    pub typed : AreTypedExprs env place (key ∷ value ∷ [])
    pub units : All (IsTypedUnit env place) (units_in (key ∷ value ∷ []))
    pub kept : IsKept place new
    pub now : ConstructorAtWork
    pub constructors : new.constructors ≡ replaced old.constructors now
    pub holds : Holds now (pairs ++ (key, value) ∷ [])

  -- `Holds`: what a constructor holds behind these, which are pairs
  pub record KnowsPair (Holds : List Reading → ConstructorAtWork → List Pair → Type 0) (d : Reading) : Type 0 where
    pub moves : (old new : State) → 1 ≤ length old.units → Run passes names env (freely d) old new → Path old new
    pub takes : (done : List Reading) (place : Surroundings) (old new : State) (c : ConstructorAtWork) (pairs : List Pair) → 1 ≤ length old.units
        → Run passes names env (freely d) old new → IsKept place old → IsSoFar env place new → AreNamed env names place → IsLast old.constructors c → Holds done c pairs
        → TakesPair (Holds (done ++ d ∷ [])) place pairs old new

  -- the details of an error
  abbrev pub HoldsDetailsOf : List Reading → ConstructorAtWork → List Pair → Type 0
  HoldsDetailsOf done c pairs = HoldsDetails env c pairs

  -- the members of a mapping, of which these were seen
  pub record HoldsMembersOf (seen : List MemberSeen) (done : List Reading) (c : ConstructorAtWork) (pairs : List Pair) : Type 0 where
    pub members : HoldsMembers env c pairs
    pub required : HasAllRequired env c.choice seen
    pub keys : c.keys ≡ map (λ m. m.key) done

  abbrev pub KnowsDetail : Reading → Type 0
  KnowsDetail = KnowsPair HoldsDetailsOf

  abbrev pub KnowsMember : Reading → Type 0
  KnowsMember m = (seen : List MemberSeen) → KnowsPair (HoldsMembersOf seen) m

  -- ---- the lines

  pub record ConstructorsAreTyped : Type 0 where
    pub list : (items : List Reading) (at : Place) → All (Knows passes names env) items → Claim passes names env (λ e. list_needs items at e)
    -- a key that is a word or a string, and a computed one
    pub word : (w : Word) → KnowsKey (key_step (layer.Word w))
    pub text : (text : Text) (at : Place) → KnowsKey (key_step (layer.Str text at))
    pub computed : (a : Box Reading) (at : Place) → Knows passes names env a.value → KnowsKey (key_step (layer.Computed a at))
    pub member : (m : MemberOf Reading) → KnowsKey m.key → Knows passes names env m.value.value → KnowsMember (member_step m)
    pub mapping : (ms : List Reading) (at : Place) → All KnowsMember ms → Claim passes names env (λ e. mapping_needs ms at e)
    pub detail : (d : DetailOf Reading) → Knows passes names env d.value.value → KnowsDetail (detail_step d)
    pub error : (m : Reading) (c : Option (Box Reading)) (ds : List Reading) (at : Place) → Knows passes names env m → IfSome c (λ x. Knows passes names env x.value)
        → All KnowsDetail ds → Claim passes names env (λ e. error_needs m c ds at)

abbrev pub AllConstructorsAreTyped : (List AtomDef → Asked → TypeLimit → Type 0) → Type 0
AllConstructorsAreTyped passes = (names : Names) (env : List AtomDef) → ConstructorsAreTyped passes names env
