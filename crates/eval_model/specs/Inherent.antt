-- With which atoms a package makes its structures, functions and futures.
use Rattle.std.specs.Prelude.{◌≡◌, ◌⊎◌, ℕ, List, Some, IsSomeAnd, Any, Contains, length, map}
use Rattle.type_model.specs.declared.atoms.AtomDef.{AtomDef}
use Rattle.operations.specs.declared.operation.Operation.{Operation}
use Rattle.operations.specs.Uses.{Use, atoms_made, units_valued, use_of}
use Rattle.typed_tree.specs.declared.expr.TypedExpr.{TypedExpr}
use Rattle.typed_tree.specs.declared.expr.TypedExpr.TheOpen as layer
use Rattle.typed_tree.specs.declared.package.Initial.{Initial}
use Rattle.typed_tree.specs.declared.package.TypedPackage.{TypedPackage}
use Rattle.typed_tree.specs.declared.stmt.Source.{Source}
use Rattle.typed_tree.specs.declared.stmt.Source.TheVariants.{Range, List as ListSource}
use Rattle.typed_tree.specs.declared.stmt.TypedStmt.{TypedStmt}
use Rattle.typed_tree.specs.declared.stmt.TypedStmt.TheOpen as stmt_layer
use Rattle.typed_tree.specs.declared.stmt.UpdateTarget.{UpdateTarget}
use Rattle.typed_tree.specs.declared.stmt.UpdateTarget.TheVariants.{Local, Variable, Member}
use Rattle.typed_tree.specs.declared.unit.TypedBody.TheVariants.{Block as BlockBody, Expr as ValueBody}
use Rattle.typed_tree.specs.ExprLayers.{TypedExprOf, of_typed_expr}
use Rattle.typed_tree.specs.Listed.{Listed, nothing, one, ◌&◌, joined, if_boxed, members}
use Rattle.typed_tree.specs.StmtLayers.{TypedStmtOf, TypedClauseOf, of_typed_stmt}
use Rattle.typed_tree.specs.Units.{UnitBody, OfFunction, OfWorker, OfAnonymous, OfInitialiser, UnitTree, unit_at, units_of}
use Rattle.held_operations.specs.Constructs.{operations_of}
use Rattle.op_model.specs.Inherent.{IsInherent}
use Rattle.eval_model.specs.Expressions.{makes_function}
use Rattle.eval_model.specs.Trees.{launch_of}

-- ---- what the constructs of a unit use: what isn't strict uses no atom and no unit, but for anonymous functions, which are units
-- of their own

abbrev uses : List Operation → Listed Use
uses ops = joined (map (λ op. one (use_of op)) ops)

abbrev expr_step : TypedExprOf (Listed Use) → Listed Use
expr_step (layer.Strict form operands type at) = joined operands.items & uses (operations_of form (length operands.items))
expr_step (layer.Implied value type at) = nothing
expr_step (layer.Local slot narrowed type at) = nothing
expr_step (layer.And left right type at) = left.value & right.value
expr_step (layer.Or left right type at) = left.value & right.value
expr_step (layer.Conditional condition middle last type at) = condition.value & middle.value & last.value
expr_step (layer.Elvis own left right type at) = left.value & right.value
expr_step (layer.Check panics own operand type at) = operand.value
expr_step (layer.Trap operand type at) = operand.value
expr_step (layer.Function function value type at) = one (use_of (makes_function function.value))
expr_step (layer.Parens inner type at) = inner.value

abbrev pub expr_uses : TypedExpr → Listed Use
expr_uses = of_typed_expr expr_step

abbrev target_uses : UpdateTarget → Listed Use
target_uses (Local slot narrowed type) = nothing
target_uses (Variable m) = nothing
target_uses (Member own read container key type) = expr_uses container.value & expr_uses key.value

abbrev source_uses : Source → Listed Use
source_uses (Range own end from to) = expr_uses from.value & expr_uses to.value
source_uses (ListSource own list) = expr_uses list.value

abbrev stmt_step : TypedStmtOf (Listed Use) → Listed Use
stmt_step (stmt_layer.Set slot value at) = expr_uses value.value
stmt_step (stmt_layer.Perform form operands at) = joined (map expr_uses operands.items)
stmt_step (stmt_layer.Update target op value at) = target_uses target & expr_uses value.value
stmt_step (stmt_layer.If condition first second at) = expr_uses condition.value & joined first.items & joined second.items
stmt_step (stmt_layer.While condition body at) = expr_uses condition.value & joined body.items
stmt_step (stmt_layer.Foreach slot source body at) = source_uses source & joined body.items
stmt_step (stmt_layer.Match own subject clauses at) = expr_uses subject.value & joined clauses.items
stmt_step (stmt_layer.Return value at) = if_boxed expr_uses value
stmt_step (stmt_layer.Block stmts at) = joined stmts.items
stmt_step (stmt_layer.Break at) = nothing
stmt_step (stmt_layer.Continue at) = nothing

abbrev clause_step : TypedClauseOf (Listed Use) → Listed Use
clause_step c = joined c.stmts.items

abbrev pub stmts_uses : List TypedStmt → Listed Use
stmts_uses ss = joined (map (of_typed_stmt (record { stmt = stmt_step; clause = clause_step })) ss)

abbrev initial_uses : Initial → Listed Use
initial_uses i = expr_uses i.value.value

-- a function's workers are units of their own
abbrev pub body_uses : UnitBody → Listed Use
body_uses (OfFunction (BlockBody initial workers rest ends close)) = stmts_uses initial.items & stmts_uses rest.items
body_uses (OfFunction (ValueBody value)) = expr_uses value.value
body_uses (OfWorker stmts ends) = stmts_uses stmts
body_uses (OfAnonymous value) = expr_uses value
body_uses (OfInitialiser values) = joined (map initial_uses values)

-- ---- of a package

module _ (p : TypedPackage) where
  abbrev pub uses_of : List Use
  uses_of = members (joined (map (λ u. body_uses u.body) (units_of p)))

  abbrev IsOwnAtom : ℕ → UnitTree → Type 0
  IsOwnAtom a u = (a ≡ u.unit.arrow) ⊎ (a ≡ u.unit.future)

  -- with which structures are made, the lists of rest parameters and of main's arguments; and of the units that are started or made
  -- function values their own atoms
  pub data IsNamed (a : ℕ) : Type 0 where
    makes : Any (λ x. Contains (atoms_made x) a) uses_of → IsNamed a
    rest : Any (λ u. u.unit.rest ≡ Some a) (units_of p) → IsNamed a
    words : (launch_of p).words ≡ Some a → IsNamed a
    values : Any (λ x. Any (λ n. IsSomeAnd (unit_at p n) (IsOwnAtom a)) (units_valued x)) uses_of → IsNamed a

  abbrev pub IsInherentIn : List AtomDef → ℕ → Type 0
  IsInherentIn atoms = IsInherent atoms IsNamed
