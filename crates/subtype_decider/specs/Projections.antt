-- The parts that stand at some keys of the shapes of a question.
use Rattle.std.specs.Prelude.{ℕ, List}
use Rattle.bal_base.specs.declared.shape.Shape.{Shape}
use Rattle.type_model.specs.declared.atoms.AtomDef.{AtomDef}
use Rattle.type_model.specs.declared.answers.Keys.{Keys}
use Rattle.type_model.specs.declared.answers.Keys.TheVariants.{Index, AnyIndex, Field, AnyField, Results}
use Rattle.type_model.specs.Parts.{StandsIn}
use Rattle.type_diagrams.specs.declared.kind.Kind.{Kind}
use Rattle.type_diagrams.specs.declared.kind.Kind.TheVariants.{List as Lists, Mapping as Mappings, Future as Futures}
use Rattle.type_diagrams.specs.declared.path.Path.{Path}
use Rattle.type_diagrams.specs.Conditions.{Condition, IsShapeOf, LooksAtKinds}
use Rattle.type_diagrams.specs.Tables.{Table as Diagrams, IsDiagram, condition}
use Rattle.type_diagrams.specs.Turns.{IsShapeOn}
use Rattle.type_diagrams.specs.Whole.{IsMetWhere}

-- the kind of the shapes in which something stands at such keys
abbrev pub kind_at : Keys → Kind
kind_at (Index place) = Lists
kind_at AnyIndex = Lists
kind_at (Field name) = Mappings
kind_at AnyField = Mappings
kind_at Results = Futures

module _ (env : List AtomDef) where
  -- the part stands at such a key of a shape of the condition, or of the path
  abbrev pub StandsInShapeOf : Condition → Keys → Shape → Type 0
  StandsInShapeOf c keys y = (x : Shape) × IsShapeOf env c x × StandsIn keys x y

  abbrev pub StandsOn : Keys → Path → Shape → Type 0
  StandsOn keys p y = (x : Shape) × IsShapeOn env (kind_at keys) p x × StandsIn keys x y

  -- the question for the shapes of which P holds
  pub record IsQuestionOf (diagrams : Diagrams) (P : Shape → Type 0) (question : ℕ) : Type 0 where
    pub diagram : IsDiagram diagrams question
    pub looks : LooksAtKinds env (condition diagrams question)
    pub shapes : IsMetWhere env (condition diagrams question) P
