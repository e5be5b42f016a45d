-- Graphs of functions that are in some arrows and not in others, against a table of questions.
use Rattle.std.specs.Prelude.{◌≡◌, ◌⊎◌, ℕ, List, [], ◌∷◌, All, Contains, Bool, true, false, Option}
use Rattle.std.specs.List.{list_any}
use Rattle.bal_base.specs.declared.shape.Shape.{Shape, Function}
use Rattle.bal_base.specs.declared.shape.Case.{Case}
use Rattle.bal_base.specs.declared.shape.Graph.{Graph}
use Rattle.bal_base.specs.Shapes.{graph_list}
use Rattle.bal_base.specs.Valid.{CaseIsValid}
use Rattle.type_model.specs.declared.atoms.AtomDef.{AtomDef}
use Rattle.type_diagrams.specs.declared.turn.Turn.{Turn}
use Rattle.type_diagrams.specs.declared.turn.Turn.TheVariants.{Shape as AShape, Empty, Ask}
use Rattle.type_diagrams.specs.Conditions.{Condition, everything, asks}
use Rattle.type_diagrams.specs.Members.{arguments_of, outcome_of}
use Rattle.type_diagrams.specs.Questions.{lists, readonly}
use Rattle.type_diagrams.specs.Tables.{Table}
use Rattle.type_diagrams.specs.Whole.{Gives}
use Rattle.empty_arrow.specs.declared.pairs.Found.{Found}
use Rattle.empty_arrow.specs.declared.pairs.Found.TheVariants.{Empty as NoPair, Ask as AskPair}
use Rattle.empty_arrow.specs.Arrows.{is_isolated}
use Rattle.empty_arrow.specs.Pairs.{FitsArrow, TellsPair}

module _ (env : List AtomDef) where
  -- unmarked lists, and all shapes
  pub record IsBase (table : Table) (arguments results : ℕ) : Type 0 where
    pub arguments_give : Gives table (asks (lists env ∷ []) (readonly env ∷ [])) arguments
    pub results_give : Gives table everything results

  -- what is sought of a pair that an arrow doesn't allow: arguments that it takes, and no result that it gives
  abbrev pub arguments_sought : ℕ → Condition
  arguments_sought a = asks (arguments_of env a ∷ lists env ∷ []) (readonly env ∷ [])

  abbrev pub results_sought : ℕ → Condition
  results_sought a = asks [] (outcome_of env a ∷ [])

  -- The function is isolated where one of the wanted arrows has isolated functions alone.
  abbrev pub is_alone_in : List ℕ → Bool
  is_alone_in wanted = list_any (is_isolated env) wanted

  -- no function with that mark is in the arrow
  abbrev pub IsFree : List ℕ → ℕ → Type 0
  IsFree wanted a = (is_isolated env a ≡ true) × (is_alone_in wanted ≡ false)

  -- pairs that all wanted arrows allow, of which for each unwanted arrow that isn't free one isn't allowed by it
  pub record AreCases (wanted unwanted : List ℕ) (cases : List Case) : Type 0 where
    pub fitting : All (λ c. CaseIsValid c × All (FitsArrow env c) wanted) cases
    pub avoiding : All (λ a. IsFree wanted a ⊎ (¬ All (λ c. FitsArrow env c a) cases)) unwanted

  -- what is told of the pairs that avoid an unwanted arrow
  abbrev pub TellsOf : Table → List (ℕ × Option Shape) → List ℕ → List ℕ → Found → Type 0
  TellsOf table kept wanted unwanted found =
      (a : ℕ) × Contains unwanted a × (¬ IsFree wanted a) × TellsPair env table kept (arguments_sought a) (results_sought a) true wanted found

  abbrev pub TellsGraph : Table → List (ℕ × Option Shape) → List ℕ → List ℕ → Turn → Type 0
  TellsGraph table kept wanted unwanted (AShape x) = (graph : Graph) × (x ≡ Function (is_alone_in wanted) graph) × AreCases wanted unwanted (graph_list graph)
  TellsGraph table kept wanted unwanted Empty = TellsOf table kept wanted unwanted NoPair
  TellsGraph table kept wanted unwanted (Ask question) = TellsOf table kept wanted unwanted (AskPair question)
