-- The evaluation of expressions and actions: what is to be done for each, before what is to be done behind it.
use Rattle.std.specs.Prelude.{List, [], ◌∷◌, Option, Some, None, Bool, true, false, length}
use Rattle.type_model.specs.declared.basic.BasicSet.TheVariants as basic
use Rattle.type_model.specs.declared.basic.SemType.{SemType, Basic}
use Rattle.operations.specs.declared.operation.Constant.TheVariants as constant
use Rattle.operations.specs.declared.operation.Operation.{Operation}
use Rattle.operations.specs.declared.operation.Operation.TheVariants.{Const, Load, Store, Test, MakeFunction, Return, Panic}
use Rattle.value_model.specs.declared.value.Value.{Value}
use Rattle.typed_tree.specs.declared.expr.AnonymousFunction.{AnonymousFunction}
use Rattle.typed_tree.specs.declared.expr.TypedExpr.{TypedExpr, out-TypedExpr}
use Rattle.typed_tree.specs.declared.expr.TypedExpr.TheOpen as layer
use Rattle.typed_tree.specs.declared.unit.Captured.{Captured}
use Rattle.typed_tree.specs.ExprLayers.{TypedExprOf}
use Rattle.typed_tree.specs.SharedTypes.{Shared, sem_of}
use Rattle.held_operations.specs.Constructs.{operations_of}
use Rattle.eval_model.specs.Tasks.{Whole, These, Kept, Task, Eval, Do, Get, Choose, Guard, dos, evals}

abbrev pub nil_type : SemType
nil_type = Basic basic.Nil

abbrev pub error_type : SemType
error_type = Basic basic.ErrorAll

-- the type to which a variable is narrowed, where it is
abbrev pub narrowed_to : Bool → Shared → Option SemType
narrowed_to true t = Some (sem_of t)
narrowed_to false t = None

-- captured values are copied from their slots
abbrev pub captures : List Captured → List Task → List Task
captures [] ts = ts
captures (c ∷ cs) ts = Get c.slot (narrowed_to c.narrowed c.ty) ∷ captures cs ts

abbrev pub makes_function : AnonymousFunction → Operation
makes_function f = MakeFunction f.unit.number (length f.captured)

-- `checkpanic` panics with an error, and `check` returns it
abbrev pub check_ends : Bool → Operation
check_ends true = Panic
check_ends false = Return

-- `vs` are the values that wait for their operation
abbrev pub eval_layer : TypedExprOf TypedExpr → List Value → List Task → List Task
eval_layer (layer.Strict form operands type at) vs ts = evals operands.items (dos (operations_of form (length operands.items)) ts)
eval_layer (layer.Implied value type at) vs ts = Do (Const value) ∷ ts
eval_layer (layer.Local slot narrowed type at) vs ts = Get slot (narrowed_to narrowed type) ∷ ts
eval_layer (layer.And left right type at) vs ts =
    Eval left.value ∷ Choose (Whole right.value) (These (Const (constant.Bool false) ∷ [])) ∷ ts
eval_layer (layer.Or left right type at) vs ts =
    Eval left.value ∷ Choose (These (Const (constant.Bool true) ∷ [])) (Whole right.value) ∷ ts
eval_layer (layer.Conditional condition middle last type at) vs ts =
    Eval condition.value ∷ Choose (Whole middle.value) (Whole last.value) ∷ ts
eval_layer (layer.Elvis own left right type at) vs ts =
    Eval left.value ∷ dos (Store own ∷ Load own ∷ Test nil_type ∷ [])
    (Choose (Whole right.value) (Kept own (sem_of type) []) ∷ ts)
eval_layer (layer.Check panics own operand type at) vs ts =
    Eval operand.value ∷ dos (Store own ∷ Load own ∷ Test error_type ∷ [])
    (Choose (Kept own error_type (check_ends panics ∷ [])) (Kept own (sem_of type) []) ∷ ts)
eval_layer (layer.Trap operand type at) vs ts = Eval operand.value ∷ Guard vs ∷ ts
eval_layer (layer.Function function value type at) vs ts = captures function.value.captured (Do (makes_function function.value) ∷ ts)
eval_layer (layer.Parens inner type at) vs ts = Eval inner.value ∷ ts

abbrev pub eval : TypedExpr → List Value → List Task → List Task
eval e vs ts = eval_layer (out-TypedExpr e) vs ts
