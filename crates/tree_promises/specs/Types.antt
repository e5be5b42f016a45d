-- The types of operands on the ways through a body: the points are the types of the operands that wait there, the last one last.
use Rattle.std.specs.Prelude.{◌≡◌, ◌++◌, ℕ, List, [], ◌∷◌, Option, option_to_list, Some, None}
use Rattle.type_model.specs.declared.atoms.AtomDef.{AtomDef}
use Rattle.type_model.specs.declared.basic.SemType.{SemType}
use Rattle.operations.specs.declared.operation.Operation.{Operation}
use Rattle.operations.specs.declared.operation.Operation.TheVariants.{Cast, Load}
use Rattle.operations.specs.Kinds.{IsBoolean}
use Rattle.operations.specs.Rows.{AreBelow, IsWithin, Surroundings}
use Rattle.operations.specs.Typing.{OpTyped}
use Rattle.machine_model.specs.Following.{EndsFrame}
use Rattle.typed_tree.specs.declared.expr.TypedExpr.{TypedExpr}
use Rattle.typed_tree.specs.Exprs.{type_of}
use Rattle.typed_tree.specs.SharedTypes.{sem_of}
use Rattle.eval_model.specs.Expressions.{error_type}
use Rattle.eval_model.specs.Walk.{ExprOver}
use Rattle.eval_model.specs.Ways.{Ways}

abbrev pub Stack : Type 0
Stack = List SemType

module _ (env : List AtomDef) (place : Surroundings) where
  -- the last operands are taken by a row of the operation, and what the row gives is below what is behind; behind what ends the frame
  -- nothing is done
  pub record DoesTypes (op : Operation) (p q : Stack) : Type 0 where
    pub below : Stack
    pub operands : Stack
    pub result : Option SemType
    pub are : p ≡ below ++ operands
    pub row : OpTyped env place op operands result
    pub behind : (¬ (EndsFrame op)) → AreBelow env (below ++ option_to_list result) q

  -- what is narrowed is loaded and cast
  abbrev pub GetsTypes : ℕ → Option SemType → Stack → Stack → Type 0
  GetsTypes slot None p q = DoesTypes (Load slot) p q
  GetsTypes slot (Some t) p q = (m : Stack) × DoesTypes (Load slot) p m × DoesTypes (Cast t) m q

  -- the last operand is a boolean
  pub record TakesTypes (p a : Stack) : Type 0 where
    pub below : Stack
    pub condition : SemType
    pub are : p ≡ below ++ condition ∷ []
    pub boolean : IsWithin env IsBoolean condition
    pub behind : AreBelow env below a

  -- behind a trap stands what it guards gives, or an error
  pub record GuardsTypes (p a b q : Stack) : Type 0 where
    pub begins : a ≡ p
    pub ends : AreBelow env b q
    pub lands : AreBelow env (p ++ error_type ∷ []) q

  abbrev pub type_ways : Ways Stack
  type_ways =
      record {
        comes = AreBelow env;
        does = DoesTypes;
        gets = GetsTypes;
        takes = λ way p a. TakesTypes p a;
        guards = GuardsTypes;
        stops = AreBelow env;
        closes = AreBelow env;
        ends = λ p. p ≡ [];
        arrives = λ p a. a ≡ p;
      }

  -- over any operands the expression leaves one of its type
  abbrev pub IsTypedExpr : TypedExpr → Type 0
  IsTypedExpr e = (below : Stack) → ExprOver type_ways e below (below ++ sem_of (type_of e) ∷ [])
