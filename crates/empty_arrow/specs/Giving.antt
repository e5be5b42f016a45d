-- What functions give to arguments.
use Rattle.std.specs.Prelude.{◌≡◌, ◌↔◌, ◌++◌, ◌+◌, ◌≤◌, ℕ, List, length, [], All, Any, Option, Some, None, IsSomeAnd}
use Rattle.bal_base.specs.declared.shape.Shape.{Shape}
use Rattle.bal_base.specs.declared.shape.Case.{Case}
use Rattle.bal_base.specs.Valid.{CaseIsValid, IsValid}
use Rattle.type_model.specs.declared.basic.SemType.{SemType}
use Rattle.type_model.specs.declared.atoms.AtomDef.{AtomDef}
use Rattle.type_model.specs.Application.{Answers, arguments_of as list_of}
use Rattle.type_model.specs.Defined.{IsDefined}
use Rattle.type_model.specs.Membership.{In}
use Rattle.type_diagrams.specs.declared.kind.Kind.TheVariants.{Function as Functions}
use Rattle.type_diagrams.specs.declared.path.Path.{Path}
use Rattle.type_diagrams.specs.Kinds.{the_mark}
use Rattle.type_diagrams.specs.Conditions.{Condition, Meets, IsShapeOf}
use Rattle.type_diagrams.specs.Members.{arguments_of, outcome_of}
use Rattle.type_diagrams.specs.Turns.{IsShapeOn}
use Rattle.empty_arrow.specs.Pairs.{FitsArrow}

-- the path has no more literals than there are
abbrev pub IsShort : Path → Type 0
IsShort p = length p.pos + length p.neg ≤ the_mark + 2

module _ (env : List AtomDef) where
  -- the shape is in one of the types
  abbrev pub IsInOne : List SemType → Shape → Type 0
  IsInOne types x = Any (λ t. In env x t) types

  -- the shapes of the types are the results that these functions give to such arguments; they never fail
  pub record GiveResults (IsOne : Shape → Type 0) (args : Condition) (types : List SemType) : Type 0 where
    pub defined : All (IsDefined env) types
    pub all : (f : Shape) → IsOne f → (arguments : Shape) (answer : Option Shape) → IsShapeOf env args arguments → Answers f arguments answer → IsSomeAnd answer (IsInOne types)
    pub least : (x : Shape) → IsValid x → IsInOne types x → (f : Shape) × IsOne f × (arguments : Shape) × IsShapeOf env args arguments × Answers f arguments (Some x)

  -- one of these functions fails at these arguments
  abbrev pub FailAt : (Shape → Type 0) → Condition → Shape → Type 0
  FailAt IsOne args arguments = IsShapeOf env args arguments × (f : Shape) × IsOne f × Answers f arguments None

  -- what is told of these functions: arguments at which one of them fails, or none, and their results are added
  abbrev pub TellsResults : (Shape → Type 0) → Condition → List SemType → List SemType → Option Shape → Type 0
  TellsResults IsOne args old new (Some arguments) = FailAt IsOne args arguments
  TellsResults IsOne args old new None = (more : List SemType) × (new ≡ old ++ more) × GiveResults IsOne args more

  -- the functions of some paths
  abbrev pub IsOnOne : List Path → Shape → Type 0
  IsOnOne paths f = Any (λ p. IsShapeOn env Functions p f) paths

  -- ---- functions that are in some arrows, by their pairs

  -- a result that the arrow gives
  abbrev pub IsGivenBy : Option Shape → ℕ → Type 0
  IsGivenBy answer a = IsSomeAnd answer (Meets env (outcome_of env a))

  -- a pair with such arguments, with a result of each arrow that takes them, and as all other arrows ask
  pub record IsAllowed (args : Condition) (taken arrows : List ℕ) (c : Case) : Type 0 where
    pub valid : CaseIsValid c
    pub arguments : Meets env args (list_of c)
    pub given : All (IsGivenBy c.result) taken
    pub fits : All (FitsArrow env c) arrows

  -- the types have exactly the results of the pairs that are allowed, each of which has one
  pub record HaveResults (args : Condition) (taken arrows : List ℕ) (types : List SemType) : Type 0 where
    pub defined : All (IsDefined env) types
    pub all : (c : Case) → IsAllowed args taken arrows c → IsSomeAnd c.result (IsInOne types)
    pub least : (x : Shape) → IsValid x → IsInOne types x → (c : Case) × IsAllowed args taken arrows c × (c.result ≡ Some x)

  -- arguments that no arrow takes
  pub record AreOutside (args : Condition) (taken arrows : List ℕ) (s : Shape) : Type 0 where
    pub shape : IsShapeOf env args s
    pub none : taken ≡ []
    pub outside : All (λ a. ¬ Meets env (arguments_of env a) s) arrows

  -- what is told of the pairs: arguments that no arrow takes, or none, and the types of the results are added
  abbrev pub TellsGiven : Condition → List ℕ → List ℕ → List SemType → List SemType → Option Shape → Type 0
  TellsGiven args taken arrows old new (Some s) = AreOutside args taken arrows s
  TellsGiven args taken arrows old new None = (more : List SemType) × (new ≡ old ++ more) × HaveResults args taken arrows more

  -- the shapes of the type are the results that all these arrows give
  pub record IsMeeting (taken : List ℕ) (t : SemType) : Type 0 where
    pub defined : IsDefined env t
    pub shapes : (x : Shape) → In env x t ↔ All (λ a. Meets env (outcome_of env a) x) taken

  -- the shapes of the type are those that are in one of the types
  pub record IsEither (types : List SemType) (t : SemType) : Type 0 where
    pub defined : All (IsDefined env) types → IsDefined env t
    pub shapes : (x : Shape) → In env x t ↔ IsInOne types x

  -- the shapes of the type are those that are in both
  pub record IsBoth (s t both : SemType) : Type 0 where
    pub defined : IsDefined env s → IsDefined env t → IsDefined env both
    pub shapes : (x : Shape) → In env x both ↔ (In env x s × In env x t)
