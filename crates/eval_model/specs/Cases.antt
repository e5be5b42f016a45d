-- Worked cases of the definitions, reasoned out by hand.
use Rattle.std.specs.Prelude.{◌≡◌, ◌++◌, pos, true, false, List, [], ◌∷◌, None, ⊤}
use Rattle.std.specs.Global.{Box}
use Rattle.bal_base.specs.declared.place.Place.{Place}
use Rattle.operations.specs.declared.operation.Constant.TheVariants as constant
use Rattle.operations.specs.declared.operation.Operation.{Operation}
use Rattle.operations.specs.declared.operation.Operation.TheVariants.{Const, Load, Store, Return}
use Rattle.typed_tree.specs.declared.expr.TypedExpr.{TypedExpr, Implied}
use Rattle.typed_tree.specs.declared.stmt.TypedStmt.{Set}
use Rattle.typed_tree.specs.declared.unit.Captured.{Captured}
use Rattle.typed_tree.specs.SharedTypes.{Shared}
use Rattle.typed_tree.specs.Units.{OfWorker}
use Rattle.eval_model.specs.Expressions.{captures, narrowed_to}
use Rattle.eval_model.specs.Tasks.{Do, Get}
use Rattle.eval_model.specs.Trees.{body_tasks}
use Rattle.eval_model.specs.Walk.{StmtOver}
use Rattle.eval_model.specs.Ways.{Ways}

-- a body whose end is reached returns nil there, and nothing is done where it isn't
abbrev pub ReturnsAtItsEnd : Type 0
ReturnsAtItsEnd = body_tasks (OfWorker [] true) ≡ Do (Const constant.Nil) ∷ Do Return ∷ []

abbrev pub NeverAtItsEnd : Type 0
NeverAtItsEnd = body_tasks (OfWorker [] false) ≡ []

-- what is done on the way: a point is what was done so far
abbrev pub done_so_far : Ways (List Operation)
done_so_far =
    record {
      comes = λ p q. p ≡ q;
      does = λ op p q. p ++ op ∷ [] ≡ q;
      gets = λ slot narrowed p q. p ++ Load slot ∷ [] ≡ q;
      takes = λ way p q. p ≡ q;
      guards = λ p a b q. (p ≡ a) × (b ≡ q);
      stops = λ p q. ⊤;
      closes = λ b q. b ≡ q;
      ends = λ p. ⊤;
      arrives = λ p a. p ≡ a;
    }

-- a = 7;
abbrev pub SetsAfterItsValue : Type 0
SetsAfterItsValue =
    (value : Box TypedExpr) (type : Shared) (at : Place) → value.value ≡ Implied (constant.Int (pos 7)) type at → (q : List Operation) →
    StmtOver done_so_far (Set 3 value at) None [] q → Const (constant.Int (pos 7)) ∷ Store 3 ∷ [] ≡ q

-- a captured variable is loaded as what it is narrowed to
abbrev pub captured_at : Shared → Place → Captured
captured_at type at = record { slot = 5; narrowed = true; ty = type; at = at }

abbrev pub CapturesWhatIsNarrowed : Type 0
CapturesWhatIsNarrowed =
    (type : Shared) (at : Place) → captures (captured_at type at ∷ []) [] ≡ Get 5 (narrowed_to true type) ∷ []
