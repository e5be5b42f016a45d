-- Code that is being made: commands whose places are labels, and what each construct adds to it.
use Rattle.std.specs.Prelude.{◌+◌, ◌++◌, ℕ, Bool, true, false, List, [], ◌∷◌, Option, Some, None, length, map, slice_get, slice_set, negsuc}
use Rattle.std.specs.Global.{Box}
use Rattle.type_model.specs.declared.basic.SemType.{SemType}
use Rattle.operations.specs.declared.library.LibraryCall.TheVariants.{ListLength}
use Rattle.operations.specs.declared.operation.Constant.{Constant}
use Rattle.operations.specs.declared.operation.Constant.TheVariants as constant
use Rattle.operations.specs.declared.operation.Operation.{Operation}
use Rattle.operations.specs.declared.operation.Operation.TheVariants.{Const, Load, Store, LoadModule, StoreModule, Tick, Less, LessEqual, GetItem, Test, Cast, Library, Return as ReturnOp, Workers}
use Rattle.typed_tree.specs.declared.expr.TypedExpr.{TypedExpr}
use Rattle.typed_tree.specs.declared.expr.TypedExpr.TheOpen as layer
use Rattle.typed_tree.specs.declared.form.Operator.{Operator}
use Rattle.typed_tree.specs.declared.package.Initial.{Initial}
use Rattle.typed_tree.specs.declared.stmt.RangeEnd.TheVariants.{Included, Excluded}
use Rattle.typed_tree.specs.declared.stmt.Source.{Source}
use Rattle.typed_tree.specs.declared.stmt.Source.TheVariants.{Range, List as ListSource}
use Rattle.typed_tree.specs.declared.stmt.TypedPattern.{TypedPattern}
use Rattle.typed_tree.specs.declared.stmt.TypedStmt.{TypedStmt, TypedStmt-F, fold-TypedStmt}
use Rattle.typed_tree.specs.declared.stmt.TypedStmt.TheOpen as stmt_layer
use Rattle.typed_tree.specs.declared.stmt.TypedClause.{TypedClause, TypedClause-F, fold-TypedClause}
use Rattle.typed_tree.specs.declared.stmt.UpdateTarget.{UpdateTarget}
use Rattle.typed_tree.specs.declared.stmt.UpdateTarget.TheVariants as target
use Rattle.typed_tree.specs.declared.unit.Captured.{Captured}
use Rattle.typed_tree.specs.declared.unit.TypedBody.TheVariants.{Block as BlockBody, Expr as ValueBody}
use Rattle.typed_tree.specs.declared.unit.TypedWorker.{TypedWorker}
use Rattle.typed_tree.specs.ExprLayers.{TypedExprOf, of_typed_expr}
use Rattle.typed_tree.specs.SharedTypes.{sem_of}
use Rattle.typed_tree.specs.Units.{UnitBody, OfFunction, OfWorker, OfAnonymous, OfInitialiser}
use Rattle.held_operations.specs.Constructs.{operations_of, operator_operations, perform_operations}
use Rattle.held_operations.specs.Operation.{singleton}
use Rattle.eval_model.specs.Expressions.{check_ends, error_type, makes_function, narrowed_to, nil_type}
use Rattle.eval_model.specs.Loops.{raises}
use Rattle.eval_model.specs.Statements.{reads_member, sets_member}
use Rattle.eval_model.specs.Ways.{Turns}
use Rattle.stack_code.specs.Commands.{Command, Do, GoTo, GoToIfNot, OpenTrap, CloseTrap}

pub record Making : Type 0 where
  -- a command names labels where code names places
  pub steps : List Command
  -- the place of each label, where it is known
  pub labels : List (Option ℕ)
  -- no statement leaves a loop where there is none
  pub sound : Bool

-- ---- steps

abbrev pub add : Command → Making → Making
add c m = record { steps = m.steps ++ c ∷ []; labels = m.labels; sound = m.sound }

-- a new label, which has this number
abbrev pub fresh : Making → Making
fresh m = record { steps = m.steps; labels = m.labels ++ None ∷ []; sound = m.sound }

abbrev pub next_label : Making → ℕ
next_label m = length m.labels

-- the label is the place behind the last command
abbrev pub bind : ℕ → Making → Making
bind l m = record { steps = m.steps; labels = slice_set m.labels l (Some (length m.steps)); sound = m.sound }

abbrev pub spoilt : Making → Making
spoilt m = record { steps = m.steps; labels = m.labels; sound = false }

-- ---- operations

abbrev pub does : Operation → Making → Making
does op m = add (Do op) m

abbrev pub all_do : List Operation → Making → Making
all_do [] m = m
all_do (op ∷ ops) m = all_do ops (does op m)

abbrev pub gets : ℕ → Option SemType → Making → Making
gets slot None m = does (Load slot) m
gets slot (Some t) m = does (Cast t) (does (Load slot) m)

abbrev pub keeps : ℕ → SemType → List Operation → Making → Making
keeps slot t ops m = all_do ops (gets slot (Some t) m)

-- one after another
abbrev pub in_turn : List (Making → Making) → Making → Making
in_turn [] m = m
in_turn (f ∷ fs) m = in_turn fs (f m)

-- captured variables, each as what it is narrowed to
abbrev pub captured_made : Captured → Making → Making
captured_made c = gets c.slot (narrowed_to c.narrowed c.ty)

abbrev pub captures_made : List Captured → Making → Making
captures_made cs = in_turn (map captured_made cs)

-- ---- ways that part

-- by the last operand, the first or the second
abbrev pub parts : (Making → Making) → (Making → Making) → Making → Making
parts First Second m =
    let other = next_label m in
    let end = next_label (fresh m) in
    bind end (Second (bind other (add (GoTo end) (First (add (GoToIfNot other) (fresh (fresh m)))))))

-- the trap lands at a place of its own, where there is an error; from there and from behind the trap's end it goes on alike
abbrev pub guards : (Making → Making) → Making → Making
guards F m =
    let landing = next_label m in
    let end = next_label (fresh m) in
    bind end (add (GoTo end) (bind landing (add (GoTo end) (add CloseTrap (F (add (OpenTrap landing) (fresh (fresh m))))))))

-- a loop, by the labels of its head and its exit
abbrev pub loops : (Making → Making) → (Making → Making) → (Turns ℕ → Making → Making) → Making → Making
loops Tries Prepares Body m =
    let head = next_label m in
    let exit = next_label (fresh m) in
    bind exit (add (GoTo head) (Body (record { head = head; exit = exit }) (Prepares (add (GoToIfNot exit) (Tries (does Tick (bind head (fresh (fresh m)))))))))

-- ---- expressions

abbrev pub expr_step : TypedExprOf (Making → Making) → Making → Making
expr_step (layer.Strict form operands type at) m = all_do (operations_of form (length operands.items)) (in_turn operands.items m)
expr_step (layer.Implied value type at) m = does (Const value) m
expr_step (layer.Local slot narrowed type at) m = gets slot (narrowed_to narrowed type) m
expr_step (layer.And left right type at) m = parts right.value (all_do (Const (constant.Bool false) ∷ [])) (left.value m)
expr_step (layer.Or left right type at) m = parts (all_do (Const (constant.Bool true) ∷ [])) right.value (left.value m)
expr_step (layer.Conditional condition middle last type at) m = parts middle.value last.value (condition.value m)
expr_step (layer.Elvis own left right type at) m =
    parts right.value (keeps own (sem_of type) []) (all_do (Store own ∷ Load own ∷ Test nil_type ∷ []) (left.value m))
expr_step (layer.Check panics own operand type at) m =
    parts (keeps own error_type (check_ends panics ∷ [])) (keeps own (sem_of type) []) (all_do (Store own ∷ Load own ∷ Test error_type ∷ []) (operand.value m))
expr_step (layer.Trap operand type at) m = guards operand.value m
expr_step (layer.Function function value type at) m = does (makes_function function.value) (captures_made function.value.captured m)
expr_step (layer.Parens inner type at) m = inner.value m

abbrev pub expr_made : TypedExpr → Making → Making
expr_made = of_typed_expr expr_step

abbrev pub exprs_made : List TypedExpr → Making → Making
exprs_made es = in_turn (map expr_made es)

-- ---- statements

abbrev pub update_made : UpdateTarget → Operator → TypedExpr → Making → Making
update_made (target.Local slot narrowed type) op value m =
    does (Store slot) (all_do (operator_operations op) (expr_made value (gets slot (narrowed_to narrowed type) m)))
update_made (target.Variable x) op value m =
    does (StoreModule x) (all_do (operator_operations op) (expr_made value (does (LoadModule x) m)))
update_made (target.Member own how container key type) op value m =
    does (sets_member how) (all_do (operator_operations op) (expr_made value (all_do (Load own ∷ Load (own + 1) ∷ reads_member how own)
    (does (Store (own + 1)) (expr_made key.value (does (Store own) (expr_made container.value m)))))))

abbrev pub begin_made : Source → Making → Making
begin_made (Range own Included from to) m =
    all_do (Load own ∷ Load (own + 1) ∷ LessEqual ∷ Store (own + 2) ∷ []) (does (Store (own + 1)) (expr_made to.value (does (Store own) (expr_made from.value m))))
begin_made (Range own Excluded from to) m = does (Store (own + 1)) (expr_made to.value (does (Store own) (expr_made from.value m)))
begin_made (ListSource own list) m = all_do (Store own ∷ Const (constant.Int (negsuc 0)) ∷ Store (own + 1) ∷ []) (expr_made list.value m)

abbrev pub tries_made : Source → Making → Making
tries_made (Range own Included from to) m = all_do (Load (own + 2) ∷ []) m
tries_made (Range own Excluded from to) m = all_do (Load own ∷ Load (own + 1) ∷ Less ∷ []) m
tries_made (ListSource own list) m = all_do (raises (own + 1) ++ Load (own + 1) ∷ Load own ∷ Library ListLength None 1 ∷ Less ∷ []) m

abbrev pub prepare_made : ℕ → Source → Making → Making
prepare_made slot (Range own Included from to) m =
    parts (all_do (raises own)) (all_do []) (all_do (Load own ∷ Store slot ∷ Load own ∷ Load (own + 1) ∷ Less ∷ Store (own + 2) ∷ Load (own + 2) ∷ []) m)
prepare_made slot (Range own Excluded from to) m = all_do (Load own ∷ Store slot ∷ raises own) m
prepare_made slot (ListSource own list) m = all_do (Load own ∷ Load (own + 1) ∷ GetItem ∷ Store slot ∷ []) m

abbrev pub nothing_made : Making → Making
nothing_made m = m

abbrev pub leave_made : Option (Turns ℕ) → (Turns ℕ → ℕ) → Making → Making
leave_made (Some l) label m = add (GoTo (label l)) m
leave_made None label m = spoilt m

abbrev pub return_made : Option (Box TypedExpr) → Making → Making
return_made None m = all_do (Const constant.Nil ∷ ReturnOp ∷ []) m
return_made (Some e) m = does ReturnOp (expr_made e.value m)

-- a pattern that fits leads to the body
abbrev pub pattern_made : ℕ → ℕ → Option Constant → Making → Making
pattern_made own body (Some c) m =
    bind (next_label m) (add (GoTo body) (add (GoToIfNot (next_label m)) (all_do (Load own ∷ Test (singleton c) ∷ []) (fresh m))))
pattern_made own body None m = add (GoTo body) m

abbrev pub patterns_made : ℕ → ℕ → List TypedPattern → Making → Making
patterns_made own body ts = in_turn (map (λ t. pattern_made own body t.value) ts)

-- what a statement adds, within this loop; and what a clause adds, by the slot of the subject and the label of the end
abbrev pub StmtMaking : Type 0
StmtMaking = Option (Turns ℕ) → Making → Making

abbrev pub ClauseMaking : Type 0
ClauseMaking = ℕ → ℕ → Option (Turns ℕ) → Making → Making

abbrev pub stmts_in_turn : List StmtMaking → Option (Turns ℕ) → Making → Making
stmts_in_turn fs loop = in_turn (map (λ f. f loop) fs)

abbrev pub clauses_in_turn : List ClauseMaking → ℕ → ℕ → Option (Turns ℕ) → Making → Making
clauses_in_turn fs own end loop = in_turn (map (λ f. f own end loop) fs)

abbrev pub match_made : ℕ → (Making → Making) → (ℕ → Making → Making) → Making → Making
match_made own Subject Clauses m = bind (next_label m) (Clauses (next_label m) (does (Store own) (Subject (fresh m))))

abbrev pub stmt_step : TypedStmt-F StmtMaking ClauseMaking → StmtMaking
stmt_step (stmt_layer.Set slot value at) loop m = does (Store slot) (expr_made value.value m)
stmt_step (stmt_layer.Perform form operands at) loop m = all_do (perform_operations form) (exprs_made operands.items m)
stmt_step (stmt_layer.Update t op value at) loop m = update_made t op value.value m
stmt_step (stmt_layer.If condition first second at) loop m =
    parts (stmts_in_turn first.items loop) (stmts_in_turn second.items loop) (expr_made condition.value m)
stmt_step (stmt_layer.While condition body at) loop m = loops (expr_made condition.value) nothing_made (λ l. stmts_in_turn body.items (Some l)) m
stmt_step (stmt_layer.Foreach slot source body at) loop m =
    loops (tries_made source) (prepare_made slot source) (λ l. stmts_in_turn body.items (Some l)) (begin_made source m)
stmt_step (stmt_layer.Match own subject clauses at) loop m =
    match_made own (expr_made subject.value) (λ end. clauses_in_turn clauses.items own end loop) m
stmt_step (stmt_layer.Return value at) loop m = return_made value m
stmt_step (stmt_layer.Block stmts at) loop m = stmts_in_turn stmts.items loop m
stmt_step (stmt_layer.Break at) loop m = leave_made loop (λ l. l.exit) m
stmt_step (stmt_layer.Continue at) loop m = leave_made loop (λ l. l.head) m

abbrev pub clause_step : TypedClause-F StmtMaking ClauseMaking → ClauseMaking
clause_step c own end loop m =
    let body = next_label m in
    let next = next_label (fresh m) in
    bind next (add (GoTo end) (stmts_in_turn c.stmts.items loop (bind body (add (GoTo next) (patterns_made own body c.patterns.items (fresh (fresh m)))))))

abbrev pub stmt_made : TypedStmt → StmtMaking
stmt_made = fold-TypedStmt StmtMaking ClauseMaking stmt_step clause_step

abbrev pub clause_made : TypedClause → ClauseMaking
clause_made = fold-TypedClause StmtMaking ClauseMaking stmt_step clause_step

abbrev pub block_made : List TypedStmt → Making → Making
block_made ss = stmts_in_turn (map stmt_made ss) None

-- ---- units

abbrev pub named_made : List TypedWorker → Making → Making
named_made [] m = m
named_made (w ∷ ws) m = does Workers m

abbrev pub initial_made : Initial → Making → Making
initial_made i m = does (StoreModule i.variable) (expr_made i.value.value m)

abbrev pub initials_made : List Initial → Making → Making
initials_made is = in_turn (map initial_made is)

-- where the end isn't reached it goes round and round, which is typed in every unit
abbrev pub end_made : Bool → Making → Making
end_made true m = does ReturnOp (does (Const constant.Nil) m)
end_made false m = add (GoTo (next_label m)) (does Tick (bind (next_label m) (fresh m)))

abbrev pub body_made : UnitBody → Making → Making
body_made (OfFunction (BlockBody initial workers rest ends close)) m =
    end_made ends (block_made rest.items (named_made workers.items (block_made initial.items m)))
body_made (OfFunction (ValueBody value)) m = does ReturnOp (expr_made value.value m)
body_made (OfWorker stmts ends) m = end_made ends (block_made stmts m)
body_made (OfAnonymous value) m = does ReturnOp (expr_made value m)
body_made (OfInitialiser values) m = end_made true (initials_made values m)

abbrev pub unit_made : UnitBody → Making → Making
unit_made body m = body_made body (does Tick m)

-- all units, in the order of their numbers, and the first place of each
abbrev pub units_made : List UnitBody → Making → Making
units_made us = in_turn (map unit_made us)

abbrev pub firsts_made : List UnitBody → Making → List ℕ
firsts_made [] m = []
firsts_made (u ∷ us) m = length m.steps ∷ firsts_made us (unit_made u m)

-- the place of a label
abbrev pub placed : Option (Option ℕ) → ℕ
placed (Some (Some p)) = p
placed (Some None) = 0
placed None = 0

abbrev pub place_of : Making → ℕ → ℕ
place_of m l = placed (slice_get m.labels l)

-- nothing yet
abbrev pub unmade : Making
unmade = record { steps = []; labels = []; sound = true }
