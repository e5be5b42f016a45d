-- Pairs of arguments and answers in the graphs of functions, against a table of questions.
use Rattle.std.specs.Prelude.{◌≡◌, ◌≢◌, ◌⊎◌, ℕ, List, [], ◌∷◌, map, All, Contains, Bool, false, Option, Some, None, IsTrue, IsSomeAnd}
use Rattle.bal_base.specs.declared.shape.Shape.{Shape, Nil, Bool as BoolShape, Int, Str, List', Mapping', Error', Function, Future'}
use Rattle.bal_base.specs.declared.shape.Case.{Case}
use Rattle.bal_base.specs.Valid.{CaseIsValid}
use Rattle.type_model.specs.declared.atoms.AtomDef.{AtomDef}
use Rattle.type_model.specs.Application.{arguments_of as list_of}
use Rattle.type_diagrams.specs.Conditions.{Condition, AreOne, Meets, IsShapeOf, asks}
use Rattle.type_diagrams.specs.Kept.{IsUnknown, IsHeldEmpty}
use Rattle.type_diagrams.specs.Members.{arguments_of, outcome_of}
use Rattle.type_diagrams.specs.Tables.{Table, IsDiagram, condition}
use Rattle.empty_arrow.specs.declared.pairs.Found.{Found}
use Rattle.empty_arrow.specs.declared.pairs.Found.TheVariants.{Pair, Empty, Ask}

-- an unmarked list
abbrev pub IsArguments : Shape → Type 0
IsArguments (List' mark _ items) = mark ≡ false
IsArguments Nil = ⊥
IsArguments (BoolShape b) = ⊥
IsArguments (Int i) = ⊥
IsArguments (Str t) = ⊥
IsArguments (Mapping' mark _ fields) = ⊥
IsArguments (Error' _ detail) = ⊥
IsArguments (Function isolated graph) = ⊥
IsArguments (Future' _ results) = ⊥

module _ (env : List AtomDef) where
  -- a condition of arguments alone
  abbrev pub AreArguments : Condition → Type 0
  AreArguments args = (x : Shape) → IsShapeOf env args x → IsArguments x

  -- the pair is as the arrow asks: where the arrow takes the arguments, the answer is a result that it gives
  abbrev pub FitsArrow : Case → ℕ → Type 0
  FitsArrow c a = Meets env (arguments_of env a) (list_of c) → IsSomeAnd c.result (Meets env (outcome_of env a))

  -- a result that meets the condition, or a failure where there may be one
  abbrev pub IsAnswer : Bool → Condition → Option Shape → Type 0
  IsAnswer may_fail results None = IsTrue may_fail
  IsAnswer may_fail results (Some x) = Meets env results x

  -- a pair with such arguments and such an answer, as all these arrows ask
  pub record IsPair (args results : Condition) (may_fail : Bool) (arrows : List ℕ) (c : Case) : Type 0 where
    pub valid : CaseIsValid c
    pub arguments : Meets env args (list_of c)
    pub answer : IsAnswer may_fail results c.result
    pub fits : All (FitsArrow c) arrows

  -- the arguments or the result are a shape of a question that the table holds to be empty
  pub record HasHeldPart (table : Table) (kept : List (ℕ × Option Shape)) (c : Case) : Type 0 where
    pub question : ℕ
    pub held : IsHeldEmpty kept question
    pub part : Shape
    pub stands : (part ≡ list_of c) ⊎ (c.result ≡ Some part)
    pub inside : IsShapeOf env (condition table question) part

  -- the question for arguments that some of the arrows don't take
  pub record AsksArguments (args : Condition) (arrows : List ℕ) (d : Condition) : Type 0 where
    pub left : List ℕ
    pub among : All (Contains arrows) left
    pub asked : AreOne d (asks (args ∷ []) (map (arguments_of env) left))

  -- the question for results that some of the arrows give; of one at least, where there may be a failure
  pub record AsksResults (results : Condition) (may_fail : Bool) (arrows : List ℕ) (d : Condition) : Type 0 where
    pub taken : List ℕ
    pub among : All (Contains arrows) taken
    pub some : IsTrue may_fail → taken ≢ []
    pub asked : AreOne d (asks (results ∷ map (outcome_of env) taken) [])

  -- what is said of the pairs that are sought
  abbrev pub TellsPair : Table → List (ℕ × Option Shape) → Condition → Condition → Bool → List ℕ → Found → Type 0
  TellsPair table kept args results may_fail arrows (Pair c) = IsPair args results may_fail arrows c
  TellsPair table kept args results may_fail arrows Empty = (c : Case) → IsPair args results may_fail arrows c → HasHeldPart table kept c
  TellsPair table kept args results may_fail arrows (Ask question) =
      IsUnknown kept question × IsDiagram table question
      × (AsksArguments args arrows (condition table question) ⊎ AsksResults results may_fail arrows (condition table question))
