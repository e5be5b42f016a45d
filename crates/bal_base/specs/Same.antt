-- Shapes that are the same but for where their parts lie in memory.
use Rattle.std.specs.Prelude.{◌≡◌, Option, Some, None, ⊤}
use Rattle.std.specs.List.{AllZip}
use Rattle.bal_base.specs.declared.text.Text.{Text}
use Rattle.bal_base.specs.declared.shape.Shape.{Shape, Nil, Bool, Int, Str, List', Mapping', Error', Function, Future', Row_of-Shape, end_of-Shape, more_of-Shape, Row_of-Fields-items-2 as Row_of-Field, end_of-Fields-items-2 as end_of-Field, more_of-Fields-items-2 as more_of-Field}
use Rattle.bal_base.specs.declared.shape.Case.{Case, Held-Case-result, None', Some'}
use Rattle.bal_base.specs.declared.shape.Graph.{Graph, Graph', Row_of-Case, end_of-Case, more_of-Case}

abbrev mutual
  pub IsSame : Shape → Shape → Type 0
  IsSame Nil Nil = ⊤
  IsSame Nil _ = ⊥
  IsSame (Bool a) (Bool b) = a ≡ b
  IsSame (Bool a) _ = ⊥
  IsSame (Int i) (Int j) = i ≡ j
  IsSame (Int i) _ = ⊥
  IsSame (Str s) (Str t) = s ≡ t
  IsSame (Str s) _ = ⊥
  IsSame (List' mark _ items) (List' mark' _ items') = (mark ≡ mark') × AreSame items items'
  IsSame (List' mark _ items) _ = ⊥
  IsSame (Mapping' mark _ fields) (Mapping' mark' _ fields') = (mark ≡ mark') × FieldsSame fields fields'
  IsSame (Mapping' mark _ fields) _ = ⊥
  IsSame (Error' _ detail) (Error' _ detail') = IsSame detail detail'
  IsSame (Error' _ detail) _ = ⊥
  IsSame (Function isolated graph) (Function isolated' graph') = (isolated ≡ isolated') × GraphSame graph graph'
  IsSame (Function isolated graph) _ = ⊥
  IsSame (Future' _ results) (Future' _ results') = AreSame results results'
  IsSame (Future' _ results) _ = ⊥

  pub AreSame : {n m : _} → Row_of-Shape n → Row_of-Shape m → Type 0
  AreSame end_of-Shape end_of-Shape = ⊤
  AreSame end_of-Shape (more_of-Shape y rest') = ⊥
  AreSame (more_of-Shape x rest) end_of-Shape = ⊥
  AreSame (more_of-Shape x rest) (more_of-Shape y rest') = IsSame x y × AreSame rest rest'

  pub FieldsSame : {n m : _} → Row_of-Field n → Row_of-Field m → Type 0
  FieldsSame end_of-Field end_of-Field = ⊤
  FieldsSame end_of-Field (more_of-Field key' y rest') = ⊥
  FieldsSame (more_of-Field key x rest) end_of-Field = ⊥
  FieldsSame (more_of-Field key x rest) (more_of-Field key' y rest') = (key ≡ key') × IsSame x y × FieldsSame rest rest'

  pub GraphSame : Graph → Graph → Type 0
  GraphSame (Graph' _ cases) (Graph' _ cases') = CasesSame cases cases'

  pub CasesSame : {n m : _} → Row_of-Case n → Row_of-Case m → Type 0
  CasesSame end_of-Case end_of-Case = ⊤
  CasesSame end_of-Case (more_of-Case _ args' result' rest') = ⊥
  CasesSame (more_of-Case _ args result rest) end_of-Case = ⊥
  CasesSame (more_of-Case _ args result rest) (more_of-Case _ args' result' rest') =
      AreSame args args' × ResultSame result result' × CasesSame rest rest'

  pub ResultSame : Held-Case-result → Held-Case-result → Type 0
  ResultSame None' None' = ⊤
  ResultSame None' (Some' y) = ⊥
  ResultSame (Some' x) None' = ⊥
  ResultSame (Some' x) (Some' y) = IsSame x y

-- the same of parts, where functions see them as lists and options
abbrev pub IsSameField : Text × Shape → Text × Shape → Type 0
IsSameField f g = (f.0 ≡ g.0) × IsSame f.1 g.1

abbrev pub IsSameResult : Option Shape → Option Shape → Type 0
IsSameResult None None = ⊤
IsSameResult None (Some y) = ⊥
IsSameResult (Some x) None = ⊥
IsSameResult (Some x) (Some y) = IsSame x y

abbrev pub IsSameCase : Case → Case → Type 0
IsSameCase c d = AllZip IsSame c.args.items.items d.args.items.items × IsSameResult c.result d.result
