-- The table of statements: what each needs, in the order of the text (Ballerina specification, section 7). A line a construct.
use Rattle.std.specs.Prelude.{◌||◌, ◌++◌, Bool, true, false, not, List, [], ◌∷◌, map, Option, Some, None}
use Rattle.std.specs.Global.{Box}
use Rattle.std.specs.List.{list_any}
use Rattle.bal_base.specs.declared.fault.FaultCode.TheVariants.{BadBreak}
use Rattle.bal_base.specs.declared.place.Place.{Place}
use Rattle.bal_base.specs.declared.text.Name.{Name}
use Rattle.bal_tree.specs.declared.action.Rhs.{Rhs}
use Rattle.bal_tree.specs.declared.name.Literal.{Literal}
use Rattle.bal_tree.specs.declared.name.Literal.TheVariants as literal
use Rattle.bal_tree.specs.declared.name.Word.{Word}
use Rattle.bal_tree.specs.declared.stmt.AssignOp.{AssignOp}
use Rattle.bal_tree.specs.declared.stmt.AssignOp.TheVariants as assign
use Rattle.bal_tree.specs.declared.stmt.Block.{Block}
use Rattle.bal_tree.specs.declared.stmt.Clause.{Clause}
use Rattle.bal_tree.specs.declared.stmt.Else.{Else}
use Rattle.bal_tree.specs.declared.stmt.Else.TheOpen as layer
use Rattle.bal_tree.specs.declared.stmt.IfStmt.{IfStmt}
use Rattle.bal_tree.specs.declared.stmt.LocalType.{LocalType}
use Rattle.bal_tree.specs.declared.stmt.LocalType.TheVariants as local
use Rattle.bal_tree.specs.declared.stmt.Pattern.{Pattern}
use Rattle.bal_tree.specs.declared.stmt.Pattern.TheVariants as pattern
use Rattle.bal_tree.specs.declared.stmt.Range.{Range}
use Rattle.bal_tree.specs.declared.stmt.Stmt.{Stmt}
use Rattle.bal_tree.specs.declared.stmt.Target.{Target}
use Rattle.bal_tree.specs.declared.stmt.Target.TheVariants as target
use Rattle.bal_tree.specs.StmtLayers.{BlockOf, ClauseOf, ElseOf, IfStmtOf, StmtOf, StmtSteps, of_block, of_clause, of_else, of_if_stmt, of_stmt}
use Rattle.needs.specs.Needs.{in_turn}
use Rattle.tree_places.specs.Assigned.{assigned_in_target}
use Rattle.type_model.specs.Places.{is_same_text}
use Rattle.typed_tree.specs.declared.stmt.PerformForm.TheVariants as perform
use Rattle.typed_tree.specs.Listed.{Listed, nothing, one, ◌&◌, if_boxed, joined, members}
use Rattle.expr_needs.specs.declared.kind.Kind.TheVariants as kind
use Rattle.expr_needs.specs.Needs.{Need, Fails, Describes, Widens, WantsResult, Switches, IsNew, Declares, IsAssignable, Assigns, HasField, ExpectsStored, Stores, ReadsName, ReadsStored, ReadsStoredField, IsOperand, UpdatesName, UpdatesElement, UpdatesField, IsIgnorable, Performs, Stops, Returns, ReturnsNil, Breaks, Continues, BeginsBlock, EndsBlock, MakesBlock, MakesIf, Heads, OpensLoop, MakesWhile, IsItemOfLoop, WidensItem, IsCounter, WantsCounter, HasItem, MakesForeach, MakesRange, BeginsMatch, HasPattern, BeginsClause, EndsClause, MakesMatch}
use Rattle.expr_needs.specs.ActionTable.{read_rhs}
use Rattle.expr_needs.specs.ExprTable.{Reading, against, as_wanted, condition_needs, element_needs, freely, read_expr, read_postfix}

-- ---- readings

-- where a statement stands: whether in a loop, and the variables that are assigned behind it, as long as its variables are seen
pub record Within : Type 0 where
  pub loop : Bool
  pub behind : List Word

-- What is read of a statement: its place; the variables that it assigns; whether it has a `break`
-- that ends the loop around it; whether it is a clause that takes all that is left; and its needs.
pub record StmtReading : Type 0 where
  pub at : Place
  pub assigned : Listed Word
  pub breaks : Bool
  pub takes_all : Bool
  pub needs : Within → Listed Need

-- of a statement without statements in it
abbrev pub simple : Place → (Within → Listed Need) → StmtReading
simple at needs = record { at = at; assigned = nothing; breaks = false; takes_all = false; needs = needs }

abbrev pub is_among : Name → List Word → Bool
is_among name words = list_any (λ w. is_same_text name w.name) words

-- ---- lists of statements

abbrev pub assigned_in : List StmtReading → Listed Word
assigned_in ss = joined (map (λ s. s.assigned) ss)

abbrev pub some_breaks : List StmtReading → Bool
some_breaks ss = list_any (λ s. s.breaks) ss

-- statements one behind another, behind these needs: behind each its block goes on with those that follow
abbrev pub stmts_needs_from : Listed Need → Within → List StmtReading → Listed Need
stmts_needs_from before w [] = before
stmts_needs_from before w (s ∷ ss) =
    stmts_needs_from (before & s.needs (record w { behind = members (assigned_in ss) ++ w.behind })) w ss

abbrev pub stmts_needs : Within → List StmtReading → Listed Need
stmts_needs w ss = stmts_needs_from nothing w ss

-- the variables of a block are seen up to its end
abbrev pub in_block : Bool → Within
in_block loop = record { loop = loop; behind = [] }

abbrev pub block_needs : Bool → List StmtReading → Listed Need
block_needs loop ss = one BeginsBlock & stmts_needs (in_block loop) ss & one EndsBlock

-- ---- declarations and assignments

-- `T x = r;`: the name is new before its value is looked at, and is seen behind it
abbrev pub local_needs : LocalType → Word → Reading → Listed Need
local_needs (local.«Type» t) name r = (one (Describes t.value) & one (IsNew name)) & as_wanted r
local_needs (local.Var at) name r = one (IsNew name) & freely r & one (Widens r.at)

abbrev pub declaration_needs : Bool → LocalType → Word → Reading → Place → Within → Listed Need
declaration_needs final t name r at w = local_needs t name r & one (Declares name.name final (is_among name.name w.behind) at)

-- `a[i]`, `a.f` as what is stored to; a name is no member
abbrev pub stored_needs : Target → Listed Need
stored_needs (target.Name q) = nothing
stored_needs (target.Index a i at) = element_needs false (read_postfix a.value) (read_expr i.value) & one (ExpectsStored at)
stored_needs (target.Field a field at) = (against kind.AnyMapping (read_postfix a.value) & one (HasField field)) & one (ExpectsStored at)

-- `x = r;`
abbrev pub set_needs : Target → Reading → Place → Listed Need
set_needs (target.Name q) r at = one (IsAssignable q) & as_wanted r & one (Assigns q at)
set_needs (target.Index a i there) r at = stored_needs (target.Index a i there) & as_wanted r & one (Stores at)
set_needs (target.Field a field there) r at = stored_needs (target.Field a field there) & as_wanted r & one (Stores at)

-- `x += r;`: what was there is the left operand
abbrev pub update_needs : Target → AssignOp → Reading → Place → Listed Need
update_needs (target.Name q) o r at =
    (one (IsAssignable q) & one (ReadsName q)) & (one (IsOperand o q.at) & as_wanted r) & one (UpdatesName q o at)
update_needs (target.Index a i there) o r at =
    (stored_needs (target.Index a i there) & one (ReadsStored there)) & (one (IsOperand o there) & as_wanted r) & one (UpdatesElement o at)
update_needs (target.Field a field there) o r at =
    (stored_needs (target.Field a field there) & one (ReadsStoredField field there)) & (one (IsOperand o there) & as_wanted r)
    & one (UpdatesField field o at)

abbrev pub assignment_needs : AssignOp → Target → Reading → Place → Listed Need
assignment_needs assign.Set t r at = set_needs t r at
assignment_needs assign.Add t r at = update_needs t assign.Add r at
assignment_needs assign.Subtract t r at = update_needs t assign.Subtract r at
assignment_needs assign.Multiply t r at = update_needs t assign.Multiply r at
assignment_needs assign.Divide t r at = update_needs t assign.Divide r at

-- ---- loops

-- the condition is the word `true`
abbrev pub is_true : Option Literal → Bool
is_true None = false
is_true (Some (literal.True at)) = true
is_true (Some (literal.False at)) = false
is_true (Some (literal.Int n at)) = false
is_true (Some (literal.Str text at)) = false
is_true (Some (literal.Nil at)) = false

-- something goes on behind a loop with this condition: it may fail, or the body has a `break` of the loop's own
abbrev pub leaves : Option Literal → Bool → Bool
leaves condition breaks = not (is_true condition) || breaks

-- `while c { .. }`
abbrev pub while_needs : Reading → StmtReading → Place → Listed Need
while_needs c body at =
    (one (Heads (members body.assigned)) & condition_needs c) & body.needs (in_block true) & one (MakesWhile (leaves c.literal body.breaks) at)

-- the type of the variable of a loop
abbrev pub loop_type_needs : LocalType → Listed Need
loop_type_needs (local.«Type» t) = one (Describes t.value)
loop_type_needs (local.Var at) = nothing

-- `foreach T x in l`, and `foreach T x in a ... b`
abbrev pub item_fits : LocalType → Place → Need
item_fits (local.«Type» t) at = IsItemOfLoop at
item_fits (local.Var here) at = WidensItem at

abbrev pub counter_fits : LocalType → Place → Need
counter_fits (local.«Type» t) at = IsCounter at
counter_fits (local.Var here) at = WantsCounter

abbrev pub through_needs : LocalType → Reading → Option Range → Listed Need
through_needs t from None = against kind.AnyList from & one (item_fits t from.at)
through_needs t from (Some r) = (against kind.Integer from & against kind.Integer (read_expr r.end.value)) & one (counter_fits t from.at)

-- the type and the name of its variable come before what the loop goes through
abbrev pub loop_head_needs : LocalType → Word → Reading → Option Range → Listed Need
loop_head_needs t name from range = (loop_type_needs t & one (IsNew name)) & through_needs t from range

-- its body, in which it has its variable
abbrev pub loop_body_needs : Word → StmtReading → Listed Need
loop_body_needs name body =
    (one (Heads (members body.assigned)) & one OpensLoop) & one (HasItem name.name (is_among name.name (members body.assigned))) & body.needs (in_block true)

abbrev pub loop_made : Option Range → Place → Need
loop_made None at = MakesForeach at
loop_made (Some r) at = MakesRange r.op at

abbrev pub foreach_needs : LocalType → Word → Reading → Option Range → StmtReading → Place → Listed Need
foreach_needs t name from range body at = loop_head_needs t name from range & loop_body_needs name body & one (loop_made range at)

-- ---- branches

-- without `else` nothing is done there
abbrev pub otherwise_needs : Option (Box StmtReading) → Within → Listed Need
otherwise_needs None w = one BeginsBlock & one EndsBlock
otherwise_needs (Some e) w = e.value.needs w

-- the way on which the condition holds; then the other one is entered
abbrev pub first_way_needs : Reading → StmtReading → Within → Listed Need
first_way_needs c first w = condition_needs c & first.needs w & one Switches

-- `if c { .. } else { .. }`
abbrev pub if_needs : Reading → StmtReading → Option (Box StmtReading) → Place → Within → Listed Need
if_needs c first second at w = first_way_needs c first w & otherwise_needs second w & one (MakesIf at)

abbrev pub else_breaks : Option (Box StmtReading) → Bool
else_breaks None = false
else_breaks (Some e) = e.value.breaks

-- `match e { .. }`
abbrev pub match_needs : Reading → List StmtReading → Place → Within → Listed Need
match_needs e clauses at w =
    (freely e & one (BeginsMatch e.name e.at)) & in_turn (λ c. c.needs w) clauses & one (MakesMatch (list_any (λ c. c.takes_all) clauses) at)

abbrev pub is_any : Pattern → Bool
is_any (pattern.Any at) = true
is_any (pattern.Value v) = false
is_any (pattern.Name q) = false

abbrev pub pattern_needs : Pattern → Listed Need
pattern_needs p = one (HasPattern p)

-- `1|2 => { .. }`
abbrev pub clause_needs : List Pattern → StmtReading → Place → Within → Listed Need
clause_needs ps body at w =
    (in_turn pattern_needs ps & one (BeginsClause (list_any is_any ps))) & body.needs w & one (EndsClause at)

-- ---- all statements

abbrev pub return_needs : Option Reading → Place → Listed Need
return_needs None at = one (ReturnsNil at)
return_needs (Some r) at = one WantsResult & as_wanted r & one (Returns at)

abbrev pub read_if : Option Rhs → Option Reading
read_if None = None
read_if (Some r) = Some (read_rhs r)

-- inside a loop or not
abbrev pub jump_needs : Need → Place → Bool → Listed Need
jump_needs jump at true = one jump
jump_needs jump at false = one (Fails BadBreak at)

abbrev pub stmt_step : StmtOf StmtReading → StmtReading
stmt_step (layer.Local final t name value at) = simple at (declaration_needs final t name (read_rhs value) at)
stmt_step (layer.Assign what o value at) =
    record (simple at (λ w. assignment_needs o what (read_rhs value) at)) {
      assigned = assigned_in_target what;
    }
stmt_step (layer.Ignore value at) = simple at (λ w. freely (read_rhs value) & one (Performs perform.Ignore 1 at))
stmt_step (layer.Rhs value at) =
    simple at (λ w. freely (read_rhs value) & one (IsIgnorable at) & one (Performs perform.Evaluate 1 at))
stmt_step (layer.«Stmt::If» s) = s
stmt_step (layer.While c body at) =
    record (simple at (λ w. while_needs (read_expr c.value) body at)) { assigned = body.assigned }
stmt_step (layer.Foreach t name from range body at) =
    record (simple at (λ w. foreach_needs t name (read_expr from.value) range body at)) { assigned = body.assigned }
stmt_step (layer.Match value clauses at) =
    record (simple at (match_needs (read_expr value.value) clauses.items at)) {
      assigned = assigned_in clauses.items;
      breaks = some_breaks clauses.items;
    }
stmt_step (layer.Return value at) = simple at (λ w. return_needs (read_if value) at)
stmt_step (layer.Panic value at) =
    simple at (λ w. against kind.AnyError (read_expr value.value) & one (Performs perform.Panic 1 at) & one Stops)
stmt_step (layer.Break at) = record (simple at (λ w. jump_needs (Breaks at) at w.loop)) { breaks = true }
stmt_step (layer.Continue at) = simple at (λ w. jump_needs (Continues at) at w.loop)
stmt_step (layer.«Stmt::Block» b) = record b { needs = λ w. b.needs w & one (MakesBlock b.at) }

-- behind `else if` the statement stands in a block of its own
abbrev pub else_step : ElseOf StmtReading → StmtReading
else_step (layer.«Else::If» s) = record s { needs = λ w. one BeginsBlock & s.needs w & one EndsBlock }
else_step (layer.«Else::Block» b) = b

abbrev pub if_step : IfStmtOf StmtReading → StmtReading
if_step s =
    record (simple s.at (if_needs (read_expr s.condition.value) s.then s.otherwise s.at)) {
      assigned = s.then.assigned & if_boxed (λ e. e.assigned) s.otherwise;
      breaks = s.then.breaks || else_breaks s.otherwise;
    }

abbrev pub block_step : BlockOf StmtReading → StmtReading
block_step b =
    record (simple b.at (λ w. block_needs w.loop b.stmts.items)) {
      assigned = assigned_in b.stmts.items;
      breaks = some_breaks b.stmts.items;
    }

abbrev pub clause_step : ClauseOf StmtReading → StmtReading
clause_step c = record c.body { at = c.at; takes_all = list_any is_any c.patterns.items; needs = clause_needs c.patterns.items c.body c.at }

-- ---- whole trees

abbrev pub stmt_reading : StmtSteps StmtReading
stmt_reading = record { else = else_step; stmt = stmt_step; block = block_step; clause = clause_step; if_stmt = if_step }

abbrev pub read_stmt : Stmt → StmtReading
read_stmt = of_stmt stmt_reading

abbrev pub read_block : Block → StmtReading
read_block = of_block stmt_reading

abbrev pub read_else : Else → StmtReading
read_else = of_else stmt_reading

abbrev pub read_if_stmt : IfStmt → StmtReading
read_if_stmt = of_if_stmt stmt_reading

abbrev pub read_clause : Clause → StmtReading
read_clause = of_clause stmt_reading
