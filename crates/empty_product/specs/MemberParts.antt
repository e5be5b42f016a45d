-- What stands at keys of mappings: what is told of the members at one key, and of those at all keys of a list.
use Rattle.std.specs.Prelude.{◌≡◌, ◌⊎◌, ℕ, List, [], ◌∷◌, ◌++◌, length, Any, Bool, Option, Some, None, Contains, slice_get}
use Rattle.std.specs.Global.{Vec}
use Rattle.std.specs.List.{AllZip}
use Rattle.bal_base.specs.declared.text.Text.{Text}
use Rattle.bal_base.specs.declared.shape.Shape.{Shape}
use Rattle.type_model.specs.declared.atoms.AtomDef.{AtomDef}
use Rattle.type_model.specs.declared.answers.Keys.TheVariants.{Field}
use Rattle.type_model.specs.Parts.{StandsIn}
use Rattle.type_diagrams.specs.declared.kind.Kind.TheVariants.{Mapping as Mappings}
use Rattle.type_diagrams.specs.declared.path.Path.{Path}
use Rattle.type_diagrams.specs.declared.projection.Projection.{Projection}
use Rattle.type_diagrams.specs.declared.projection.Projection.TheVariants.{Parts, Ask}
use Rattle.type_diagrams.specs.declared.turn.Turn.TheVariants.{Ask as AskTurn}
use Rattle.type_diagrams.specs.Conditions.{Condition, AreOne, IsShapeOf, LooksAtKinds}
use Rattle.type_diagrams.specs.Members.{atoms_in}
use Rattle.type_diagrams.specs.Tables.{Table, IsDiagram, condition}
use Rattle.type_diagrams.specs.Turns.{IsShapeOn, HasLower, Turns}
use Rattle.empty_product.specs.declared.further.Further.TheVariants.{Ask as AskFurther}
use Rattle.empty_product.specs.Further.{RestAsking, AreSplit, TellsFurther}
use Rattle.empty_product.specs.Keys.{AreInOrder, HasNamedKeys, IsBehind, Names}
use Rattle.empty_product.specs.Mappings.{AreWays, IsRestAskingOf, wanted_at}
use Rattle.empty_product.specs.Slots.{Place, Asking}
use Rattle.empty_product.specs.Standing.{TellsStanding}

-- these are keys with so many behind them
pub record IsRoom (keys : List Text) (count : ℕ) (all : List Text) : Type 0 where
  pub fresh : List Text
  pub long : length fresh ≡ count
  pub all_are : all ≡ keys ++ fresh
  pub ordered : AreInOrder all

-- ---- the members at one key

module _ (env : List AtomDef) (wanted : List ℕ) (marked : Bool) (table : Table) (kept : List (ℕ × Option Shape)) where
  -- of mappings that avoid the staying atoms at these keys
  pub record TellsPlaced (keys : List Text) (target : ℕ) (staying : List ℕ) (found : Condition) (p : Projection) : Type 0 where
    pub places : List Place
    pub askings : List (List Asking)
    pub ways : AreWays env wanted marked keys staying places askings
    pub tells : TellsStanding env table kept places askings target found p

  -- Some atoms are avoided by further members, and the others at these keys. There is room for all members of
  -- one mapping.
  pub record IsPlaced (keys : List Text) (target : ℕ) (rest : Condition) (askings : List RestAsking) (found : Condition) (p : Projection) : Type 0 where
    pub further : List Shape
    pub staying : List ℕ
    pub split : AreSplit env table kept rest askings further staying
    pub all : Vec Text
    pub room : IsRoom keys (length further) all.items
    pub placed : TellsPlaced keys target staying found p

  abbrev pub AsksFurther : Condition → List RestAsking → Projection → Type 0
  AsksFurther rest askings (Parts question) = ⊥
  AsksFurther rest askings (Ask question) = TellsFurther env table kept rest askings (AskFurther question)

  -- of mappings in all wanted atoms and in no unwanted one
  pub record TellsMembers (unwanted : List ℕ) (key : Text) (found : Condition) (p : Projection) : Type 0 where
    pub keys : List Text
    pub named : HasNamedKeys env (wanted ++ unwanted) keys
    pub target : ℕ
    pub is_target : slice_get keys target ≡ Some key
    pub fresh : Text
    pub behind : IsBehind keys fresh
    pub rest : Condition
    pub rest_is : AreOne rest (wanted_at env wanted marked fresh)
    pub askings : List RestAsking
    pub askings_are : AllZip (IsRestAskingOf env fresh) unwanted askings
    pub told : AsksFurther rest askings p ⊎ IsPlaced keys target rest askings found p

-- ---- the members at some keys of a path's shapes

module _ (env : List AtomDef) (atoms : List ℕ) where
  -- no atom names the key
  abbrev pub IsFree : Text → Type 0
  IsFree key = (a : ℕ) → Contains atoms a → ¬ Names env a key

  -- the keys are one, or no atom names either
  abbrev pub AreAlike : Text → Text → Type 0
  AreAlike k key = (k ≡ key) ⊎ (IsFree k × IsFree key)

  -- the part stands at the key, or, where no atom names this, at another one that no atom names
  pub record StandsLike (key : Text) (x y : Shape) : Type 0 where
    pub at : Text
    pub alike : AreAlike at key
    pub stands : StandsIn (Field at) x y

  -- the keys at which a question about one or all of them looks
  abbrev pub AreAskedKeys : Option Text → List Text → Type 0
  AreAskedKeys (Some name) keys = keys ≡ name ∷ []
  AreAskedKeys None keys = (named : List Text) × HasNamedKeys env atoms named × ((fresh : Text) × IsBehind named fresh × (keys ≡ named ++ fresh ∷ []))

module _ (env : List AtomDef) (table : Table) (kept : List (ℕ × Option Shape)) (p : Path) (unwanted : List ℕ) (keys : List Text) where
  abbrev pub StandsAtOne : Shape → Shape → Type 0
  StandsAtOne x y = Any (λ key. StandsIn (Field key) x y) keys

  abbrev pub StandsLikeOne : Shape → Shape → Type 0
  StandsLikeOne x y = Any (λ key. StandsLike env (atoms_in p.pos ++ unwanted) key x y) keys

  -- each shape of the question stands at one of the keys in a shape of the path; and whatever stands there, or
  -- at a key that is as one of them, is a shape of the question, or the whole has a lower one in a question held
  -- to be empty
  pub record AreMembers (question : ℕ) : Type 0 where
    pub diagram : IsDiagram table question
    pub looks : LooksAtKinds env (condition table question)
    pub from : (y : Shape) → IsShapeOf env (condition table question) y → (x : Shape) × IsShapeOn env Mappings p x × StandsAtOne x y
    pub to : (x y : Shape) → IsShapeOn env Mappings p x → StandsLikeOne x y → IsShapeOf env (condition table question) y ⊎ HasLower env table kept x

  abbrev pub TellsParts : Projection → Type 0
  TellsParts (Parts question) = AreMembers question
  TellsParts (Ask question) = Turns env table kept Mappings p (AskTurn question)
