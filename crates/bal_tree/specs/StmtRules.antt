-- Which statements are well formed.
use Rattle.std.specs.Prelude.{Bool, true, false, ◌&&◌, List, [], ◌∷◌, Option, None, Some}
use Rattle.std.specs.List.{list_all}
use Rattle.std.specs.Global.{Box}
use Rattle.bal_tree.specs.declared.action.Rhs.{Rhs}
use Rattle.bal_tree.specs.declared.action.Rhs.TheVariants.{Expr as ExprRhs, Action as ActionRhs}
use Rattle.bal_tree.specs.declared.stmt.Else.{Else}
use Rattle.bal_tree.specs.declared.stmt.Else.TheOpen as layer
use Rattle.bal_tree.specs.declared.stmt.Stmt.{Stmt}
use Rattle.bal_tree.specs.declared.stmt.Block.{Block}
use Rattle.bal_tree.specs.declared.stmt.Clause.{Clause}
use Rattle.bal_tree.specs.declared.stmt.IfStmt.{IfStmt}
use Rattle.bal_tree.specs.declared.stmt.LocalType.{LocalType}
use Rattle.bal_tree.specs.declared.stmt.LocalType.TheVariants.{«Type» as TypeOf, Var}
use Rattle.bal_tree.specs.declared.stmt.Target.{Target}
use Rattle.bal_tree.specs.declared.stmt.Target.TheVariants.{Name as NameTarget, Index as IndexTarget, Field as FieldTarget}
use Rattle.bal_tree.specs.declared.stmt.Range.{Range}
use Rattle.bal_tree.specs.TypeRules.{type_is_formed}
use Rattle.bal_tree.specs.ExprRules.{expr_facts, expr_is_formed, postfix_is_formed}
use Rattle.bal_tree.specs.ActionRules.{has_members, rhs_is_formed}
use Rattle.bal_tree.specs.StmtLayers.{ElseOf, StmtOf, IfStmtOf, StmtSteps, of_else, of_stmt, of_block, of_clause, of_if_stmt}

-- ---- the parts of statements, from left to right

module _ {A : Type 0} where
  abbrev pub part_if_boxed : Option (Box A) → List A
  part_if_boxed None = []
  part_if_boxed (Some part) = part.value ∷ []

  abbrev pub stmt_parts : StmtOf A → List A
  stmt_parts (layer.Local is_final t name value at) = []
  stmt_parts (layer.Assign target op value at) = []
  stmt_parts (layer.Ignore value at) = []
  stmt_parts (layer.Rhs value at) = []
  stmt_parts (layer.«Stmt::If» s) = s ∷ []
  stmt_parts (layer.While condition body at) = body ∷ []
  stmt_parts (layer.Foreach t name from range body at) = body ∷ []
  stmt_parts (layer.Match value clauses at) = clauses.items
  stmt_parts (layer.Return value at) = []
  stmt_parts (layer.Panic value at) = []
  stmt_parts (layer.Break at) = []
  stmt_parts (layer.Continue at) = []
  stmt_parts (layer.«Stmt::Block» b) = b ∷ []

  abbrev pub else_parts : ElseOf A → List A
  else_parts (layer.«Else::If» s) = s ∷ []
  else_parts (layer.«Else::Block» b) = b ∷ []

  abbrev pub if_parts : IfStmtOf A → List A
  if_parts s = s.then ∷ part_if_boxed s.otherwise

-- ---- what statements hold

-- The expression or action may be a statement: any action may, and an expression that is a call, or a `check`, `checkpanic`
-- or `trap` of one.
abbrev pub stands_alone : Rhs → Bool
stands_alone (ExprRhs e) = (expr_facts e.value).stands_alone
stands_alone (ActionRhs a) = true

abbrev pub local_type_is_formed : LocalType → Bool
local_type_is_formed (TypeOf t) = type_is_formed t.value false
local_type_is_formed (Var at) = true

abbrev pub target_is_formed : Target → Bool
target_is_formed (NameTarget n) = true
target_is_formed (IndexTarget base index at) = postfix_is_formed base.value false && expr_is_formed index.value false
target_is_formed (FieldTarget base field at) = postfix_is_formed base.value false

abbrev pub range_is_formed : Option Range → Bool
range_is_formed None = true
range_is_formed (Some r) = expr_is_formed r.end.value false

abbrev pub value_is_formed : Option Rhs → Bool
value_is_formed None = true
value_is_formed (Some value) = rhs_is_formed value

-- ---- the rules: types, expressions and actions in a statement are well formed

abbrev pub stmt_rule : StmtOf Bool → Bool
stmt_rule (layer.Local is_final t name value at) = local_type_is_formed t && rhs_is_formed value
stmt_rule (layer.Assign target op value at) = target_is_formed target && rhs_is_formed value
stmt_rule (layer.Ignore value at) = rhs_is_formed value
stmt_rule (layer.Rhs value at) = stands_alone value && rhs_is_formed value
stmt_rule (layer.«Stmt::If» s) = true
stmt_rule (layer.While condition body at) = expr_is_formed condition.value false
stmt_rule (layer.Foreach t name from range body at) =
    local_type_is_formed t && expr_is_formed from.value false && range_is_formed range
stmt_rule (layer.Match value clauses at) = expr_is_formed value.value false && has_members clauses.items
stmt_rule (layer.Return value at) = value_is_formed value
stmt_rule (layer.Panic value at) = expr_is_formed value.value false
stmt_rule (layer.Break at) = true
stmt_rule (layer.Continue at) = true
stmt_rule (layer.«Stmt::Block» b) = true

-- ---- what is well formed: what keeps its rule and whose parts are well formed

abbrev pub are_formed : List Bool → Bool
are_formed parts = list_all (λ part. part) parts

abbrev pub forming : StmtSteps Bool
forming = record {
  stmt = λ s. stmt_rule s && are_formed (stmt_parts s);
  else = λ e. are_formed (else_parts e);
  if_stmt = λ s. expr_is_formed s.condition.value false && are_formed (if_parts s);
  block = λ b. are_formed b.stmts.items;
  clause = λ c. has_members c.patterns.items && c.body;
}

abbrev pub stmt_is_formed : Stmt → Bool
stmt_is_formed = of_stmt forming

abbrev pub else_is_formed : Else → Bool
else_is_formed = of_else forming

abbrev pub if_is_formed : IfStmt → Bool
if_is_formed = of_if_stmt forming

abbrev pub block_is_formed : Block → Bool
block_is_formed = of_block forming

abbrev pub clause_is_formed : Clause → Bool
clause_is_formed = of_clause forming
