-- What error constructors are, as typed parts, detail by detail.
use Rattle.std.specs.Prelude.{◌≡◌, ◌≢◌, ◌++◌, ◌+◌, ◌*◌, ℕ, false, List, [], ◌∷◌, All, Option, Some, None, length, ⊤}
use Rattle.std.specs.List.{list_any}
use Rattle.bal_base.specs.declared.place.Place.{Place}
use Rattle.bal_base.specs.declared.shape.Shape.{Str}
use Rattle.bal_base.specs.declared.text.Text.{Text}
use Rattle.descriptors.specs.declared.names.Names.{Names}
use Rattle.operations.specs.Kinds.{IsImmutableData, IsNil}
use Rattle.operations.specs.Rows.{IsSingle, IsWithin, Surroundings}
use Rattle.type_model.specs.declared.answers.TypeLimit.{TypeLimit}
use Rattle.type_model.specs.declared.atoms.AtomDef.{AtomDef}
use Rattle.type_model.specs.declared.basic.Ty.{Ty}
use Rattle.type_model.specs.Calls.{Asked}
use Rattle.type_model.specs.Inclusion.{Sub}
use Rattle.typed_tree.specs.declared.expr.TypedExpr.{TypedExpr}
use Rattle.expr_needs.specs.declared.kind.Kind.TheVariants as kind
use Rattle.expr_needs.specs.Needs.{BeginsKeys, GivesKey, IsDetail, LacksCause, MakesError, TakesKey}
use Rattle.check_words.specs.Constructors.{at_work, is_key, with_key, with_member}
use Rattle.check_words.specs.State.{AreLast, ConstructorAtWork, IsLast, State, replaced}
use Rattle.tree_promises.specs.Made.{AreTypedExprs, sem}
use Rattle.tree_promises.specs.Types.{IsTypedExpr}
use Rattle.typed_needs.specs.Asked.{IsOfIt}
use Rattle.typed_needs.specs.Items.{AreFirst}
use Rattle.typed_needs.specs.Pieces.{IsBefore, IsMet, MakesTyped}

-- a key and a value
abbrev pub Pair : Type 0
Pair = TypedExpr × TypedExpr

-- the parts of pairs, in order
abbrev pub parts_of : List Pair → List TypedExpr
parts_of [] = []
parts_of (p ∷ ps) = p.0 ∷ p.1 ∷ parts_of ps

-- no text stands twice among keys
abbrev pub Differ : Option Text → Option Text → Type 0
Differ (Some a) (Some b) = a ≢ b
Differ (Some a) None = ⊤
Differ None key = ⊤

abbrev pub AreDistinct : List (Option Text) → Type 0
AreDistinct [] = ⊤
AreDistinct (key ∷ keys) = All (Differ key) keys × AreDistinct keys

module _ (env : List AtomDef) where
  -- the part is this text alone
  abbrev pub KeyIs : Option Text → TypedExpr → Type 0
  KeyIs (Some text) e = IsSingle env (sem e) (Str text)
  KeyIs None e = ⊥

  -- of each detail the key is known, and the type has its value, which can't change
  abbrev pub DetailFits : Option Text → Ty → Pair → Type 0
  DetailFits key t p = KeyIs key p.0 × Sub env (sem p.1) t.sem × IsWithin env IsImmutableData (sem p.1)

  abbrev pub DetailsFit : List (Option Text) → List Ty → List Pair → Type 0
  DetailsFit [] [] [] = ⊤
  DetailsFit (key ∷ keys) (t ∷ types) (p ∷ ps) = DetailFits key t p × DetailsFit keys types ps
  DetailsFit [] [] (p ∷ ps) = ⊥
  DetailsFit [] (t ∷ types) ps = ⊥
  DetailsFit (key ∷ keys) [] ps = ⊥
  DetailsFit (key ∷ keys) (t ∷ types) [] = ⊥

  -- a constructor of an error at work, whose details so far are these
  pub record HoldsDetails (c : ConstructorAtWork) (pairs : List Pair) : Type 0 where
    pub fit : DetailsFit c.keys c.types pairs
    pub distinct : AreDistinct c.keys

  -- with a key that isn't there yet, and its value, it holds a detail more
  abbrev pub DetailsGrow : Type 0
  DetailsGrow =
      (c : ConstructorAtWork) (pairs : List Pair) (text : Text) (t : Ty) (p : Pair) → HoldsDetails c pairs → list_any (is_key text) c.keys ≡ false → DetailFits (Some text) t p
      → HoldsDetails (with_member t (with_key (Some text) c)) (pairs ++ p ∷ [])

module _ (passes : List AtomDef → Asked → TypeLimit → Type 0) (names : Names) (env : List AtomDef) (place : Surroundings) where
  -- a constructor begins that holds nothing, as those of errors, and of waits for all, do
  abbrev pub KeysBegin : Type 0
  KeysBegin = (old new : State) → IsMet passes names env BeginsKeys old new → new ≡ record old { constructors = old.constructors ++ at_work None false ∷ [] }

  -- a key as a part, which the constructor has then
  pub record GivesKeyPart (text : Text) (c : ConstructorAtWork) (old new : State) : Type 0 where
    pub part : TypedExpr
    pub fresh : list_any (is_key text) c.keys ≡ false
    pub constructors : new.constructors ≡ replaced old.constructors (with_key (Some text) c)
    pub found : new.found ≡ old.found ++ part ∷ []
    pub typed : IsTypedExpr env place part
    pub single : IsSingle env (sem part) (Str text)

  abbrev pub KeyIsGiven : Type 0
  KeyIsGiven =
      (text : Text) (at : Place) (old new : State) (c : ConstructorAtWork) → IsBefore env new → IsMet passes names env (GivesKey text at) old new → IsLast old.constructors c
      → GivesKeyPart text c old new

  -- a key that stands for no part, as those of waits for all
  abbrev pub KeyIsTaken : Type 0
  KeyIsTaken =
      (text : Text) (at : Place) (old new : State) (c : ConstructorAtWork) → IsMet passes names env (TakesKey text at) old new → IsLast old.constructors c
      → (list_any (is_key text) c.keys ≡ false) × (new ≡ record old { constructors = replaced old.constructors (with_key (Some text) c) })

  abbrev pub DetailIsTaken : Type 0
  DetailIsTaken =
      (at : Place) (old new : State) (c : ConstructorAtWork) (e : TypedExpr) → IsBefore env old → IsMet passes names env (IsDetail at) old new → IsLast old.constructors c
      → IsLast old.found e
      → (t : Ty) × (new ≡ record old { constructors = replaced old.constructors (with_member t c) }) × Sub env (sem e) t.sem × IsWithin env IsImmutableData (sem e)

  -- where there is no cause, nil stands for it
  pub record LacksCausePart (old new : State) : Type 0 where
    pub part : TypedExpr
    pub found : new.found ≡ old.found ++ part ∷ []
    pub typed : IsTypedExpr env place part
    pub nil : IsWithin env IsNil (sem part)

  abbrev pub CauseIsLacking : Type 0
  CauseIsLacking = (at : Place) (old new : State) → IsBefore env new → IsMet passes names env (LacksCause at) old new → LacksCausePart old new

  -- a message, a cause or nil, and details
  abbrev pub ErrorIsTyped : Type 0
  ErrorIsTyped =
      (count : ℕ) (at : Place) (old new : State) (c : ConstructorAtWork) (message cause : TypedExpr) (pairs : List Pair) → IsBefore env new → AreFirst env new.atoms
      → IsMet passes names env (MakesError count at) old new → IsLast old.constructors c → length pairs ≡ count
      → AreLast old.found (2 + 2 * count) (message ∷ cause ∷ parts_of pairs) → AreTypedExprs env place (message ∷ cause ∷ parts_of pairs)
      → IsOfIt passes names env kind.Text message → IsOfIt passes names env kind.ErrorOrNil cause → HoldsDetails env c pairs
      → MakesTyped passes names env place (2 + 2 * count) old new

  pub record ErrorsAreTyped : Type 0 where
    pub begun : KeysBegin
    pub keys : KeyIsGiven
    pub taken : KeyIsTaken
    pub details : DetailIsTaken
    pub grow : DetailsGrow env
    pub lacking : CauseIsLacking
    pub made : ErrorIsTyped

abbrev pub AllErrorsAreTyped : (List AtomDef → Asked → TypeLimit → Type 0) → Type 0
AllErrorsAreTyped passes = (names : Names) (env : List AtomDef) (place : Surroundings) → ErrorsAreTyped passes names env place
