-- The table of bodies, workers, definitions and packages: what each needs, in the order of the text (Ballerina specification, section 8 and
-- "Function definition").
use Rattle.std.specs.Prelude.{◌++◌, ℕ, suc, Bool, false, List, [], ◌∷◌, map, nat_le}
use Rattle.bal_tree.specs.declared.def.Body.{Body}
use Rattle.bal_tree.specs.declared.def.Body.TheVariants as body
use Rattle.bal_tree.specs.declared.def.Def.{Def}
use Rattle.bal_tree.specs.declared.def.Def.TheVariants as def
use Rattle.bal_tree.specs.declared.def.FunctionDef.{FunctionDef}
use Rattle.bal_tree.specs.declared.def.VariableDef.{VariableDef}
use Rattle.bal_tree.specs.declared.def.Worker.{Worker}
use Rattle.bal_tree.specs.declared.name.Word.{Word}
use Rattle.bal_tree.specs.declared.package.Module.{Module}
use Rattle.bal_tree.specs.declared.package.Package.{Package}
use Rattle.bal_tree.specs.declared.package.SourceFile.{SourceFile}
use Rattle.bal_tree.specs.declared.params.Param.{Param}
use Rattle.bal_tree.specs.declared.params.Params.{Params}
use Rattle.bal_tree.specs.declared.stmt.Block.{out-Block}
use Rattle.bal_tree.specs.declared.stmt.Stmt.{Stmt}
use Rattle.needs.specs.Needs.{in_turn}
use Rattle.tree_places.specs.Assigned.{assigned_in_block, assigned_in_stmts}
use Rattle.tree_places.specs.UsedInStmts.{used_in_block}
use Rattle.typed_tree.specs.Listed.{Listed, nothing, one, ◌&◌, if_there, members}
use Rattle.expr_needs.specs.Needs.{Need, WantsResult, BeginsBlock, EntersFile, BeginsFunction, NamesParameter, EndsFunction, EndsValueFunction, BeginsWorker, EndsWorker, BeginsInitial, EndsInitial, EndsModule, IsConstant}
use Rattle.expr_needs.specs.ExprTable.{as_wanted, read_expr}
use Rattle.stmt_needs.specs.declared.around.Around.{Around}
use Rattle.stmt_needs.specs.StmtTable.{StmtReading, Within, in_block, is_among, read_block, read_stmt, stmts_needs}

-- each of a list by its number, from this one on
abbrev pub numbered_from : {X : Type 0} → Listed Need → (ℕ → X → Listed Need) → ℕ → List X → Listed Need
numbered_from before f n [] = before
numbered_from before f n (x ∷ xs) = numbered_from (before & f n x) f (suc n) xs

abbrev pub numbered : {X : Type 0} → (ℕ → X → Listed Need) → ℕ → List X → Listed Need
numbered = numbered_from nothing

-- ---- bodies

abbrev pub read_stmts : List Stmt → List StmtReading
read_stmts ss = map read_stmt ss

abbrev pub assigned_in_workers : List Worker → List Word
assigned_in_workers [] = []
assigned_in_workers (w ∷ ws) = members (assigned_in_block w.body) ++ assigned_in_workers ws

-- what is assigned behind the initial part: in the workers, and in the rest
abbrev pub assigned_behind : List Worker → List Stmt → List Word
assigned_behind workers rest = assigned_in_workers workers ++ members (assigned_in_stmts rest)

-- and in all of a body
abbrev pub assigned_in_body : Body → List Word
assigned_in_body (body.Block initial workers rest close at) = members (assigned_in_stmts initial.items) ++ assigned_behind workers.items rest.items
assigned_in_body (body.Expr value at) = []

-- `worker W returns T { .. }`, where the initial part has ended
abbrev pub worker_needs : ℕ → Worker → Listed Need
worker_needs number w =
    one (BeginsWorker w number (members (used_in_block w.body))) & (read_block w.body).needs (in_block false) & one (EndsWorker w (out-Block w.body).close)

-- where a statement stands, by what stands around it
abbrev pub within : Around → Within
within a =
    record { loop = a.in_loop; behind = members (assigned_in_stmts a.following.now) ++ assigned_behind a.workers.now a.rest.now }

-- where statements stand that workers and the rest of a function follow, which see their variables
abbrev pub in_part : Bool → List Worker → List Stmt → Within
in_part loop workers rest = record { loop = loop; behind = assigned_behind workers rest }

-- and so do those of the initial part
abbrev pub in_initial : List Worker → List Stmt → Within
in_initial = in_part false

-- `{ .. }`, with workers or without, and `=> e;`
abbrev pub body_needs : FunctionDef → Body → Listed Need
body_needs d (body.Block initial workers rest close at) =
    (one BeginsBlock & stmts_needs (in_initial workers.items rest.items) (read_stmts initial.items))
    & numbered worker_needs 1 workers.items
    & (one BeginsBlock & stmts_needs (in_block false) (read_stmts rest.items) & one (EndsFunction d close))
body_needs d (body.Expr value at) = one WantsResult & as_wanted (read_expr value.value) & one (EndsValueFunction d)

abbrev pub parameter_needs : List Word → Param → Listed Need
parameter_needs assigned p = one (NamesParameter p.name (is_among p.name.name assigned))

abbrev pub parameters_needs : List Word → Params → Listed Need
parameters_needs assigned ps = in_turn (parameter_needs assigned) ps.params.items & if_there (parameter_needs assigned) ps.rest

abbrev pub function_needs : FunctionDef → Listed Need
function_needs d = (one (BeginsFunction d) & parameters_needs (assigned_in_body d.body) d.params) & body_needs d d.body

-- ---- definitions

-- `T x = e;` of a module that is initialised, or that isn't
abbrev pub variable_needs : Bool → VariableDef → Listed Need
variable_needs kept d = one (BeginsInitial d kept) & as_wanted (read_expr d.value.value) & one (EndsInitial d kept)

abbrev pub def_needs : Bool → Def → Listed Need
def_needs kept (def.«Type» d) = nothing
def_needs kept (def.Const d) = one (IsConstant d)
def_needs kept (def.Variable d) = variable_needs kept d
def_needs kept (def.Function d) = function_needs d

abbrev pub file_needs : Bool → ℕ → ℕ → SourceFile → Listed Need
file_needs kept m file f = one (EntersFile m file) & in_turn (def_needs kept) f.tree.defs.items

-- Modules come behind those that they import, and the main one behind all that are reached from it: those behind it are never
-- initialised.
abbrev pub module_needs_if : Bool → ℕ → Module → Listed Need
module_needs_if kept m d = numbered (file_needs kept m) 0 d.files & one (EndsModule m)

abbrev pub module_needs : ℕ → ℕ → Module → Listed Need
module_needs main m = module_needs_if (nat_le m main) m

abbrev pub package_needs : Package → Listed Need
package_needs p = numbered (module_needs p.main) 0 p.modules
