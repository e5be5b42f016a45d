-- Which shapes are valid.
use Rattle.std.specs.Prelude.{◌≡◌, ℕ, ◌+◌, ◌<◌, List, length, get_or, IsTrue, true, ⊤, ℤ, pos, negsuc, ◌≤ℤ◌, All, IfSome}
use Rattle.std.specs.declared.cmp.Ordering.TheVariants.{Less}
use Rattle.std.specs.Ordering.{nat_cmp}
use Rattle.std.specs.Cmp.Lexicographic.{slice_cmp}
use Rattle.std.specs.Str.{all_scalars}
use Rattle.bal_base.specs.Limits.{greatest_int}
use Rattle.bal_base.specs.declared.text.Text.{Text}
use Rattle.bal_base.specs.declared.shape.Shape.{Shape, Nil, Bool, Int, Str, List', Mapping', Error', Function, Future', Row_of-Shape, end_of-Shape, more_of-Shape, items-the_row-Shape as shapes_in, Row_of-Fields-items-2 as Row_of-Field, end_of-Fields-items-2 as end_of-Field, more_of-Fields-items-2 as more_of-Field, items-the_row-Fields-items-2 as fields_in}
use Rattle.bal_base.specs.declared.shape.Case.{Case, Held-Case-result, None', Some'}
use Rattle.bal_base.specs.declared.shape.Graph.{Graph, Graph', Row_of-Case, end_of-Case, more_of-Case}

-- what may stand in a marked list or mapping
abbrev pub IsFrozen : Shape → Type 0
IsFrozen Nil = ⊤
IsFrozen (Bool b) = ⊤
IsFrozen (Int i) = ⊤
IsFrozen (Str t) = ⊤
IsFrozen (List' mark _ items) = IsTrue mark
IsFrozen (Mapping' mark _ fields) = IsTrue mark
IsFrozen (Error' _ detail) = ⊥
IsFrozen (Function isolated graph) = ⊥
IsFrozen (Future' _ results) = ⊥

abbrev pub IsMarkedMapping : Shape → Type 0
IsMarkedMapping Nil = ⊥
IsMarkedMapping (Bool b) = ⊥
IsMarkedMapping (Int i) = ⊥
IsMarkedMapping (Str t) = ⊥
IsMarkedMapping (List' mark _ items) = ⊥
IsMarkedMapping (Mapping' mark _ fields) = IsTrue mark
IsMarkedMapping (Error' _ detail) = ⊥
IsMarkedMapping (Function isolated graph) = ⊥
IsMarkedMapping (Future' _ results) = ⊥

-- each key is below the next, by their code points
abbrev pub KeysRise : List (Text × Shape) → Type 0
KeysRise fs = (k : ℕ) (d : Text × Shape) → k + 1 < length fs → slice_cmp nat_cmp (get_or fs k d).0 (get_or fs (k + 1) d).0 ≡ Less

-- the numbers that an int has, and the numbers of a text's characters
abbrev pub IsInt : ℤ → Type 0
IsInt i = (negsuc greatest_int ≤ℤ i) × (i ≤ℤ pos greatest_int)

abbrev pub IsText : Text → Type 0
IsText t = all_scalars t ≡ true

abbrev pub AreTexts : List (Text × Shape) → Type 0
AreTexts fs = All (λ f. IsText f.0) fs

abbrev mutual
  pub IsValid : Shape → Type 0
  IsValid Nil = ⊤
  IsValid (Bool b) = ⊤
  IsValid (Int i) = IsInt i
  IsValid (Str t) = IsText t
  IsValid (List' mark _ items) = (IsTrue mark → All IsFrozen (shapes_in _ items)) × AreValid items
  IsValid (Mapping' mark _ fields) = AreTexts (fields_in _ fields) × KeysRise (fields_in _ fields) × (IsTrue mark → All (λ f. IsFrozen f.1) (fields_in _ fields)) × FieldsValid fields
  IsValid (Error' _ detail) = IsMarkedMapping detail × IsValid detail
  IsValid (Function isolated graph) = GraphValid graph
  IsValid (Future' _ results) = AreValid results

  pub AreValid : {n : _} → Row_of-Shape n → Type 0
  AreValid end_of-Shape = ⊤
  AreValid (more_of-Shape x rest) = IsValid x × AreValid rest

  pub FieldsValid : {n : _} → Row_of-Field n → Type 0
  FieldsValid end_of-Field = ⊤
  FieldsValid (more_of-Field key x rest) = IsValid x × FieldsValid rest

  pub GraphValid : Graph → Type 0
  GraphValid (Graph' _ cases) = CasesValid cases

  pub CasesValid : {n : _} → Row_of-Case n → Type 0
  CasesValid end_of-Case = ⊤
  CasesValid (more_of-Case _ args result rest) = AreValid args × ResultValid result × CasesValid rest

  pub ResultValid : Held-Case-result → Type 0
  ResultValid None' = ⊤
  ResultValid (Some' x) = IsValid x

-- the same of a pair of a graph, by its parts
abbrev pub CaseIsValid : Case → Type 0
CaseIsValid c = All IsValid c.args.items.items × IfSome c.result IsValid
