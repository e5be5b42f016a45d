-- Which files and definitions are well formed.
use Rattle.std.specs.Prelude.{Bool, true, false, ◌&&◌, ◌||◌, not, Option, None, Some}
use Rattle.std.specs.List.{list_all}
use Rattle.std.specs.Global.{Box}
use Rattle.bal_tree.specs.declared.types.TypeTree.{TypeTree}
use Rattle.bal_tree.specs.declared.def.FileTree.{FileTree}
use Rattle.bal_tree.specs.declared.def.Def.{Def}
use Rattle.bal_tree.specs.declared.def.Def.TheVariants.{«Type» as TypeOf, Const, Variable, Function}
use Rattle.bal_tree.specs.declared.def.FunctionDef.{FunctionDef}
use Rattle.bal_tree.specs.declared.def.Body.{Body}
use Rattle.bal_tree.specs.declared.def.Body.TheVariants.{Block as BlockBody, Expr as ExprBody}
use Rattle.bal_tree.specs.declared.def.Worker.{Worker}
use Rattle.bal_tree.specs.TypeRules.{type_is_formed, params_are_formed}
use Rattle.bal_tree.specs.ExprRules.{expr_is_formed}
use Rattle.bal_tree.specs.ActionRules.{has_members}
use Rattle.bal_tree.specs.StmtRules.{stmt_is_formed, block_is_formed}

-- what may be absent
abbrev pub type_is_formed_if : Option (Box TypeTree) → Bool
type_is_formed_if None = true
type_is_formed_if (Some t) = type_is_formed t.value false

abbrev pub worker_is_formed : Worker → Bool
worker_is_formed w = type_is_formed_if w.result && block_is_formed w.body

-- Without named workers all statements are initial ones.
abbrev pub body_is_formed : Body → Bool
body_is_formed (BlockBody stmts workers rest close at) =
    list_all stmt_is_formed stmts.items && list_all worker_is_formed workers.items && list_all stmt_is_formed rest.items
    && (has_members workers.items || not (has_members rest.items))
body_is_formed (ExprBody value at) = expr_is_formed value.value false

abbrev pub function_is_formed : FunctionDef → Bool
function_is_formed d = params_are_formed d.params && type_is_formed_if d.result && body_is_formed d.body

abbrev pub def_is_formed : Def → Bool
def_is_formed (TypeOf d) = type_is_formed d.ty.value false
def_is_formed (Const d) = type_is_formed_if d.ty
def_is_formed (Variable d) = type_is_formed d.ty.value false && expr_is_formed d.value.value false
def_is_formed (Function d) = function_is_formed d

abbrev pub file_is_formed : FileTree → Bool
file_is_formed f = list_all def_is_formed f.defs.items
