-- What the functions of a type give to arguments of a type.
use Rattle.std.specs.Prelude.{◌≡◌, List, Option, Some, None, Contains, false}
use Rattle.bal_base.specs.Shapes.{graph_list}
use Rattle.bal_base.specs.Valid.{IsValid}
use Rattle.bal_base.specs.declared.shape.Shape.{Shape, Nil, Bool as BoolShape, Int, Str, List as ListOf, List', Mapping', Error', Function, Future'}
use Rattle.bal_base.specs.declared.shape.Case.{Case}
use Rattle.type_model.specs.declared.basic.SemType.{SemType, Basic}
use Rattle.type_model.specs.declared.basic.BasicSet.TheVariants.{FunctionAll, ListAll}
use Rattle.type_model.specs.declared.atoms.AtomDef.{AtomDef}
use Rattle.type_model.specs.declared.atoms.AtomDef.TheVariants.{Arrow}
use Rattle.type_model.specs.declared.answers.Apply.{Apply}
use Rattle.type_model.specs.declared.answers.Apply.TheVariants.{Result, Outside}
use Rattle.type_model.specs.Defined.{IsDefined}
use Rattle.type_model.specs.Membership.{In, Fits}
use Rattle.type_model.specs.Inclusion.{IsShapeOf, Sub}

-- the arguments of a case, as the unmarked list that they are
abbrev pub arguments_of : Case → Shape
arguments_of c = ListOf false c.args

-- a function shape answers so to these arguments; a failure is `None`
abbrev pub Answers : Shape → Shape → Option Shape → Type 0
Answers (Function isolated graph) arguments answer =
    (c : Case) × Contains (graph_list graph) c × (arguments_of c ≡ arguments) × (c.result ≡ answer)
Answers Nil arguments answer = ⊥
Answers (BoolShape b) arguments answer = ⊥
Answers (Int i) arguments answer = ⊥
Answers (Str t) arguments answer = ⊥
Answers (List' mark _ items) arguments answer = ⊥
Answers (Mapping' mark _ fields) arguments answer = ⊥
Answers (Error' _ detail) arguments answer = ⊥
Answers (Future' _ results) arguments answer = ⊥

module _ (env : List AtomDef) where
  abbrev pub IsFunctionType : SemType → Type 0
  IsFunctionType f = Sub env f (Basic FunctionAll)

  abbrev pub IsListType : SemType → Type 0
  IsListType t = Sub env t (Basic ListAll)

  -- some function of f answers so to some arguments
  abbrev pub CanAnswer : SemType → Shape → Option Shape → Type 0
  CanAnswer f arguments answer = (x : Shape) × IsShapeOf env f x × Answers x arguments answer

  -- each function of f gives a result in r to all arguments in args
  abbrev pub IsBelowArrow : SemType → SemType → SemType → Type 0
  IsBelowArrow f args r = (x : Shape) → IsValid x → In env x f → Fits env x (Arrow args r false)

  -- x is a result that some function of f gives to some arguments in args
  abbrev pub IsResult : SemType → SemType → Shape → Type 0
  IsResult f args x = (arguments : Shape) × IsShapeOf env args arguments × CanAnswer f arguments (Some x)

  -- the least type of the results: f is below args -> r, and r has no shape that isn't a result
  pub record IsLeastResult (f args r : SemType) : Type 0 where
    pub below : IsBelowArrow f args r
    pub least : (x : Shape) → IsValid x → In env x r → IsResult f args x

  -- arguments in args outside the domain of f: some function of f fails at them
  abbrev pub IsOutside : SemType → SemType → Shape → Type 0
  IsOutside f args arguments = IsShapeOf env args arguments × CanAnswer f arguments None

  -- the result type of an application names defined atoms alone
  abbrev pub NamesDefined : Apply → Type 0
  NamesDefined (Result r) = IsDefined env r
  NamesDefined (Outside arguments) = Unit {0}

  -- what an application gives
  abbrev pub Applies : SemType → SemType → Apply → Type 0
  Applies f args (Result r) = IsLeastResult f args r
  Applies f args (Outside arguments) = IsOutside f args arguments
