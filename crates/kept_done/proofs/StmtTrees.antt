-- No need of a statement or of a block ends anything, by induction on trees.
use Rattle.std.proofs.Common.{Bool, List, None, Option, Some, [], false, map, subst, sym, true, ◌∷◌, ◌≡◌}
use Rattle.std.specs.Global.{Box}
use Rattle.bal_base.specs.declared.place.Place.{Place}
use Rattle.bal_tree.specs.StmtLayers.{BlockOf, ClauseOf, ElseOf, IfStmtOf, StmtOf}
use Rattle.bal_tree.specs.declared.action.Rhs.{Rhs}
use Rattle.bal_tree.specs.declared.expr.Expr.{Expr}
use Rattle.bal_tree.specs.declared.name.Word.{Word}
use Rattle.bal_tree.specs.declared.stmt.AssignOp.TheVariants as assign
use Rattle.bal_tree.specs.declared.stmt.AssignOp.{AssignOp}
use Rattle.bal_tree.specs.declared.stmt.Block.{Block, Block-F, fold-roll-Block, ind-Block, map-Block, roll-Block}
use Rattle.bal_tree.specs.declared.stmt.Clause.{Clause, Clause-F, fold-roll-Clause, map-Clause, roll-Clause}
use Rattle.bal_tree.specs.declared.stmt.Else.TheOpen as layer
use Rattle.bal_tree.specs.declared.stmt.Else.{Else, Else-F, fold-roll-Else, map-Else, roll-Else}
use Rattle.bal_tree.specs.declared.stmt.IfStmt.{IfStmt, IfStmt-F, fold-roll-IfStmt, map-IfStmt, roll-IfStmt}
use Rattle.bal_tree.specs.declared.stmt.LocalType.TheVariants as local
use Rattle.bal_tree.specs.declared.stmt.LocalType.{LocalType}
use Rattle.bal_tree.specs.declared.stmt.Range.{Range}
use Rattle.bal_tree.specs.declared.stmt.Stmt.{Stmt, Stmt-F, fold-roll-Stmt, ind-Stmt, map-Stmt, roll-Stmt}
use Rattle.bal_tree.specs.declared.stmt.Target.TheVariants as target
use Rattle.bal_tree.specs.declared.stmt.Target.{Target}
use Rattle.expr_needs.specs.ActionTable.{read_rhs}
use Rattle.expr_needs.specs.ExprTable.{read_expr}
use Rattle.expr_needs.specs.Needs.{Breaks, Continues, Need}
use Rattle.kept_done.proofs.Trees.{Free, expr-free, free-turn, free-turn-of, postfix-free, rhs-free}
use Rattle.kept_done.specs.Done.{EndsNone}
use Rattle.stmt_needs.specs.StmtTable.{StmtReading, Within, assignment_needs, jump_needs, local_needs, loop_made, loop_type_needs, pattern_needs, read_block, read_clause, read_else, read_if_stmt, read_stmt, set_needs, stmt_reading, stmts_needs_from, stored_needs, through_needs, update_needs}
use Rattle.typed_tree.specs.Listed.{Listed, nothing}

abbrev pub FreeStmt : (Within → Listed Need) → Type 0
FreeStmt needs = (w : Within) → Free (needs w)

-- ---- declarations, assignments and loops

local-free : (t : LocalType) (name : Word) (value : Rhs) → Free (local_needs t name (read_rhs value))
local-free (local.«Type» t) name value = ((tt, tt), (rhs-free value _, tt))
local-free (local.Var at) name value = (tt, (rhs-free value _, tt))

stored-free : (t : Target) → Free (stored_needs t)
stored-free (target.Name q) = tt
stored-free (target.Index a i at) = ((((postfix-free a.value).0 _, tt), ((expr-free i.value).0 _, tt)), tt)
stored-free (target.Field a field at) = ((((postfix-free a.value).0 _, tt), tt), tt)

set-free : (t : Target) (value : Rhs) (at : Place) → Free (set_needs t (read_rhs value) at)
set-free (target.Name q) value at = (tt, ((rhs-free value _, tt), tt))
set-free (target.Index a i there) value at = (stored-free (target.Index a i there), ((rhs-free value _, tt), tt))
set-free (target.Field a field there) value at = (stored-free (target.Field a field there), ((rhs-free value _, tt), tt))

update-free : (t : Target) (o : AssignOp) (value : Rhs) (at : Place) → Free (update_needs t o (read_rhs value) at)
update-free (target.Name q) o value at = ((tt, tt), ((tt, (rhs-free value _, tt)), tt))
update-free (target.Index a i there) o value at = ((stored-free (target.Index a i there), tt), ((tt, (rhs-free value _, tt)), tt))
update-free (target.Field a field there) o value at = ((stored-free (target.Field a field there), tt), ((tt, (rhs-free value _, tt)), tt))

assignment-free : (o : AssignOp) (t : Target) (value : Rhs) (at : Place) → Free (assignment_needs o t (read_rhs value) at)
assignment-free assign.Set t value at = set-free t value at
assignment-free assign.Add t value at = update-free t assign.Add value at
assignment-free assign.Subtract t value at = update-free t assign.Subtract value at
assignment-free assign.Multiply t value at = update-free t assign.Multiply value at
assignment-free assign.Divide t value at = update-free t assign.Divide value at

type-free : (t : LocalType) → Free (loop_type_needs t)
type-free (local.«Type» t) = tt
type-free (local.Var at) = tt

through-free : (t : LocalType) (from : Expr) (range : Option Range) → Free (through_needs t (read_expr from) range)
through-free (local.«Type» t) from None = (((expr-free from).0 _, tt), tt)
through-free (local.Var at) from None = (((expr-free from).0 _, tt), tt)
through-free (local.«Type» t) from (Some r) = ((((expr-free from).0 _, tt), ((expr-free r.end.value).0 _, tt)), tt)
through-free (local.Var at) from (Some r) = ((((expr-free from).0 _, tt), ((expr-free r.end.value).0 _, tt)), tt)

loop-free : (range : Option Range) (at : Place) → EndsNone (loop_made range at)
loop-free None at = tt
loop-free (Some r) at = tt

-- ---- what is claimed

abbrev ClaimElse : Else → Type 0
ClaimElse e = FreeStmt (read_else e).needs

abbrev AnElse : Type 0
AnElse = (e : Else) × ClaimElse e

abbrev ClaimStmt : Stmt → Type 0
ClaimStmt e = FreeStmt (read_stmt e).needs

abbrev AStmt : Type 0
AStmt = (e : Stmt) × ClaimStmt e

abbrev ClaimBlock : Block → Type 0
ClaimBlock e = FreeStmt (read_block e).needs

abbrev ABlock : Type 0
ABlock = (e : Block) × ClaimBlock e

abbrev ClaimClause : Clause → Type 0
ClaimClause e = FreeStmt (read_clause e).needs

abbrev AClause : Type 0
AClause = (e : Clause) × ClaimClause e

abbrev ClaimIfStmt : IfStmt → Type 0
ClaimIfStmt e = FreeStmt (read_if_stmt e).needs

abbrev AnIfStmt : Type 0
AnIfStmt = (e : IfStmt) × ClaimIfStmt e

-- ---- one layer of a tree, of whose parts it is known

abbrev firsts_of_else : Else-F AnElse AStmt ABlock AClause AnIfStmt → Else-F Else Stmt Block Clause IfStmt
firsts_of_else = map-Else AnElse AStmt ABlock AClause AnIfStmt Else Stmt Block Clause IfStmt (λ e. e.0) (λ e. e.0) (λ e. e.0) (λ e. e.0) (λ e. e.0)

abbrev parts_of_else : Else-F Else Stmt Block Clause IfStmt → ElseOf StmtReading
parts_of_else = map-Else Else Stmt Block Clause IfStmt StmtReading StmtReading StmtReading StmtReading StmtReading read_else read_stmt read_block read_clause read_if_stmt

rolled-else : (x : Else-F Else Stmt Block Clause IfStmt) → read_else (roll-Else x) ≡ stmt_reading.else (parts_of_else x)
rolled-else x = fold-roll-Else StmtReading StmtReading StmtReading StmtReading StmtReading stmt_reading.else stmt_reading.stmt stmt_reading.block stmt_reading.clause stmt_reading.if_stmt x

abbrev LayerElse : Else-F AnElse AStmt ABlock AClause AnIfStmt → Type 0
LayerElse y = FreeStmt (stmt_reading.else (parts_of_else (firsts_of_else y))).needs

abbrev firsts_of_stmt : Stmt-F AnElse AStmt ABlock AClause AnIfStmt → Stmt-F Else Stmt Block Clause IfStmt
firsts_of_stmt = map-Stmt AnElse AStmt ABlock AClause AnIfStmt Else Stmt Block Clause IfStmt (λ e. e.0) (λ e. e.0) (λ e. e.0) (λ e. e.0) (λ e. e.0)

abbrev parts_of_stmt : Stmt-F Else Stmt Block Clause IfStmt → StmtOf StmtReading
parts_of_stmt = map-Stmt Else Stmt Block Clause IfStmt StmtReading StmtReading StmtReading StmtReading StmtReading read_else read_stmt read_block read_clause read_if_stmt

rolled-stmt : (x : Stmt-F Else Stmt Block Clause IfStmt) → read_stmt (roll-Stmt x) ≡ stmt_reading.stmt (parts_of_stmt x)
rolled-stmt x = fold-roll-Stmt StmtReading StmtReading StmtReading StmtReading StmtReading stmt_reading.else stmt_reading.stmt stmt_reading.block stmt_reading.clause stmt_reading.if_stmt x

abbrev LayerStmt : Stmt-F AnElse AStmt ABlock AClause AnIfStmt → Type 0
LayerStmt y = FreeStmt (stmt_reading.stmt (parts_of_stmt (firsts_of_stmt y))).needs

abbrev firsts_of_block : Block-F AnElse AStmt ABlock AClause AnIfStmt → Block-F Else Stmt Block Clause IfStmt
firsts_of_block = map-Block AnElse AStmt ABlock AClause AnIfStmt Else Stmt Block Clause IfStmt (λ e. e.0) (λ e. e.0) (λ e. e.0) (λ e. e.0) (λ e. e.0)

abbrev parts_of_block : Block-F Else Stmt Block Clause IfStmt → BlockOf StmtReading
parts_of_block = map-Block Else Stmt Block Clause IfStmt StmtReading StmtReading StmtReading StmtReading StmtReading read_else read_stmt read_block read_clause read_if_stmt

rolled-block : (x : Block-F Else Stmt Block Clause IfStmt) → read_block (roll-Block x) ≡ stmt_reading.block (parts_of_block x)
rolled-block x = fold-roll-Block StmtReading StmtReading StmtReading StmtReading StmtReading stmt_reading.else stmt_reading.stmt stmt_reading.block stmt_reading.clause stmt_reading.if_stmt x

abbrev LayerBlock : Block-F AnElse AStmt ABlock AClause AnIfStmt → Type 0
LayerBlock y = FreeStmt (stmt_reading.block (parts_of_block (firsts_of_block y))).needs

abbrev firsts_of_clause : Clause-F AnElse AStmt ABlock AClause AnIfStmt → Clause-F Else Stmt Block Clause IfStmt
firsts_of_clause = map-Clause AnElse AStmt ABlock AClause AnIfStmt Else Stmt Block Clause IfStmt (λ e. e.0) (λ e. e.0) (λ e. e.0) (λ e. e.0) (λ e. e.0)

abbrev parts_of_clause : Clause-F Else Stmt Block Clause IfStmt → ClauseOf StmtReading
parts_of_clause = map-Clause Else Stmt Block Clause IfStmt StmtReading StmtReading StmtReading StmtReading StmtReading read_else read_stmt read_block read_clause read_if_stmt

rolled-clause : (x : Clause-F Else Stmt Block Clause IfStmt) → read_clause (roll-Clause x) ≡ stmt_reading.clause (parts_of_clause x)
rolled-clause x = fold-roll-Clause StmtReading StmtReading StmtReading StmtReading StmtReading stmt_reading.else stmt_reading.stmt stmt_reading.block stmt_reading.clause stmt_reading.if_stmt x

abbrev LayerClause : Clause-F AnElse AStmt ABlock AClause AnIfStmt → Type 0
LayerClause y = FreeStmt (stmt_reading.clause (parts_of_clause (firsts_of_clause y))).needs

abbrev firsts_of_if_stmt : IfStmt-F AnElse AStmt ABlock AClause AnIfStmt → IfStmt-F Else Stmt Block Clause IfStmt
firsts_of_if_stmt = map-IfStmt AnElse AStmt ABlock AClause AnIfStmt Else Stmt Block Clause IfStmt (λ e. e.0) (λ e. e.0) (λ e. e.0) (λ e. e.0) (λ e. e.0)

abbrev parts_of_if_stmt : IfStmt-F Else Stmt Block Clause IfStmt → IfStmtOf StmtReading
parts_of_if_stmt = map-IfStmt Else Stmt Block Clause IfStmt StmtReading StmtReading StmtReading StmtReading StmtReading read_else read_stmt read_block read_clause read_if_stmt

rolled-if_stmt : (x : IfStmt-F Else Stmt Block Clause IfStmt) → read_if_stmt (roll-IfStmt x) ≡ stmt_reading.if_stmt (parts_of_if_stmt x)
rolled-if_stmt x = fold-roll-IfStmt StmtReading StmtReading StmtReading StmtReading StmtReading stmt_reading.else stmt_reading.stmt stmt_reading.block stmt_reading.clause stmt_reading.if_stmt x

abbrev LayerIfStmt : IfStmt-F AnElse AStmt ABlock AClause AnIfStmt → Type 0
LayerIfStmt y = FreeStmt (stmt_reading.if_stmt (parts_of_if_stmt (firsts_of_if_stmt y))).needs

-- ---- lists

stmts-free : (xs : List AStmt) (w : Within) (before : Listed Need) → Free before → Free (stmts_needs_from before w (map read_stmt (map (λ x. x.0) xs)))
stmts-free [] w before begun = begun
stmts-free (x ∷ xs) w before begun = stmts-free xs w _ (begun, x.1 _)

jump-free : (n : Need) (at : Place) (loop : Bool) → EndsNone n → Free (jump_needs n at loop)
jump-free n at true f = f
jump-free n at false f = tt

-- ---- layers

else-layer : (y : Else-F AnElse AStmt ABlock AClause AnIfStmt) → LayerElse y
else-layer (layer.«Else::If» s) = λ w. (tt, (s.1 w, tt))
else-layer (layer.«Else::Block» b) = b.1

stmt-layer : (y : Stmt-F AnElse AStmt ABlock AClause AnIfStmt) → LayerStmt y
stmt-layer (layer.Local final t name value at) = λ w. (local-free t name value, tt)
stmt-layer (layer.Assign what o value at) = λ w. assignment-free o what value at
stmt-layer (layer.Ignore value at) = λ w. (rhs-free value _, tt)
stmt-layer (layer.Rhs value at) = λ w. (rhs-free value _, (tt, tt))
stmt-layer (layer.«Stmt::If» s) = s.1
stmt-layer (layer.While c body at) = λ w. ((tt, (((expr-free c.value).0 _, tt), tt)), (body.1 _, tt))
stmt-layer (layer.Foreach t name from range body at) = λ w. (((type-free t, tt), through-free t from.value range), (((tt, tt), (tt, body.1 _)), loop-free range at))
stmt-layer (layer.Match value clauses at) =
    λ w. (((expr-free value.value).0 _, tt), (free-turn-of read_clause (λ c. c.needs w) (λ x c. c w) clauses.items nothing tt, tt))
stmt-layer (layer.Return None at) = λ w. tt
stmt-layer (layer.Return (Some value) at) = λ w. (tt, ((rhs-free value _, tt), tt))
stmt-layer (layer.Panic value at) = λ w. (((expr-free value.value).0 _, tt), (tt, tt))
stmt-layer (layer.Break at) = λ w. jump-free (Breaks at) at w.loop tt
stmt-layer (layer.Continue at) = λ w. jump-free (Continues at) at w.loop tt
stmt-layer (layer.«Stmt::Block» b) = λ w. (b.1 w, tt)

block-layer : (y : Block-F AnElse AStmt ABlock AClause AnIfStmt) → LayerBlock y
block-layer y = λ w. (tt, (stmts-free y.stmts.items _ nothing tt, tt))

clause-layer : (y : Clause-F AnElse AStmt ABlock AClause AnIfStmt) → LayerClause y
clause-layer y = λ w. ((free-turn pattern_needs (λ p. tt) y.patterns.items nothing tt, tt), (y.body.1 w, tt))

if_stmt-layer : (y : IfStmt-F AnElse AStmt ABlock AClause AnIfStmt) → LayerIfStmt y
if_stmt-layer y = by y y.otherwise
  where
    by : (z : IfStmt-F AnElse AStmt ABlock AClause AnIfStmt) (second : Option (Box AnElse)) → LayerIfStmt (record z { otherwise = second })
    by z None = λ w. (((((expr-free z.condition.value).0 _, tt), tt), (z.then.1 w, tt)), ((tt, tt), tt))
    by z (Some e) = λ w. (((((expr-free z.condition.value).0 _, tt), tt), (z.then.1 w, tt)), (e.value.1 w, tt))

-- ---- the whole

else-step : (x : Else-F Else Stmt Block Clause IfStmt) (y : Else-F AnElse AStmt ABlock AClause AnIfStmt) → firsts_of_else y ≡ x → ClaimElse (roll-Else x)
else-step x y is =
    subst (λ z. ClaimElse (roll-Else z)) is
    (subst (λ (r : StmtReading). FreeStmt r.needs) (sym (rolled-else (firsts_of_else y))) (else-layer y))

stmt-step : (x : Stmt-F Else Stmt Block Clause IfStmt) (y : Stmt-F AnElse AStmt ABlock AClause AnIfStmt) → firsts_of_stmt y ≡ x → ClaimStmt (roll-Stmt x)
stmt-step x y is =
    subst (λ z. ClaimStmt (roll-Stmt z)) is
    (subst (λ (r : StmtReading). FreeStmt r.needs) (sym (rolled-stmt (firsts_of_stmt y))) (stmt-layer y))

block-step : (x : Block-F Else Stmt Block Clause IfStmt) (y : Block-F AnElse AStmt ABlock AClause AnIfStmt) → firsts_of_block y ≡ x → ClaimBlock (roll-Block x)
block-step x y is =
    subst (λ z. ClaimBlock (roll-Block z)) is
    (subst (λ (r : StmtReading). FreeStmt r.needs) (sym (rolled-block (firsts_of_block y))) (block-layer y))

clause-step : (x : Clause-F Else Stmt Block Clause IfStmt) (y : Clause-F AnElse AStmt ABlock AClause AnIfStmt) → firsts_of_clause y ≡ x → ClaimClause (roll-Clause x)
clause-step x y is =
    subst (λ z. ClaimClause (roll-Clause z)) is
    (subst (λ (r : StmtReading). FreeStmt r.needs) (sym (rolled-clause (firsts_of_clause y))) (clause-layer y))

if_stmt-step : (x : IfStmt-F Else Stmt Block Clause IfStmt) (y : IfStmt-F AnElse AStmt ABlock AClause AnIfStmt) → firsts_of_if_stmt y ≡ x → ClaimIfStmt (roll-IfStmt x)
if_stmt-step x y is =
    subst (λ z. ClaimIfStmt (roll-IfStmt z)) is
    (subst (λ (r : StmtReading). FreeStmt r.needs) (sym (rolled-if_stmt (firsts_of_if_stmt y))) (if_stmt-layer y))

pub stmt-free : (e : Stmt) → ClaimStmt e
stmt-free = ind-Stmt ClaimElse ClaimStmt ClaimBlock ClaimClause ClaimIfStmt else-step stmt-step block-step clause-step if_stmt-step

pub block-free : (e : Block) → ClaimBlock e
block-free = ind-Block ClaimElse ClaimStmt ClaimBlock ClaimClause ClaimIfStmt else-step stmt-step block-step clause-step if_stmt-step

-- statements one behind another
these-free : (xs : List Stmt) (w : Within) (before : Listed Need) → Free before → Free (stmts_needs_from before w (map read_stmt xs))
these-free [] w before begun = begun
these-free (x ∷ xs) w before begun = these-free xs w _ (begun, stmt-free x _)

pub all-free : (xs : List Stmt) (w : Within) → Free (stmts_needs_from nothing w (map read_stmt xs))
all-free xs w = these-free xs w nothing tt
