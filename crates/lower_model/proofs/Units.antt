-- What each unit adds to the code that is being made stands for it.
use Rattle.std.proofs.Common.{◌≡◌, ℕ, List, [], ◌∷◌, None, refl, arith, true, false}
use Rattle.std.specs.Prelude.{Bool}
use Rattle.operations.specs.declared.operation.Constant.TheVariants as constant
use Rattle.operations.specs.declared.operation.Operation.TheVariants.{Const, StoreModule, Tick, Workers, Return as ReturnOp}
use Rattle.typed_tree.specs.declared.expr.TypedExpr.{TypedExpr}
use Rattle.typed_tree.specs.declared.package.Initial.{Initial}
use Rattle.typed_tree.specs.declared.stmt.TypedStmt.{TypedStmt}
use Rattle.typed_tree.specs.declared.unit.TypedBody.TheVariants.{Block as BlockBody, Expr as ValueBody}
use Rattle.typed_tree.specs.declared.unit.TypedWorker.{TypedWorker}
use Rattle.typed_tree.specs.Units.{UnitBody, OfFunction, OfWorker, OfAnonymous, OfInitialiser}
use Rattle.eval_model.specs.Tasks.{Task, Do as DoTask, Eval, execs}
use Rattle.eval_model.specs.TaskWalk.{TasksOver}
use Rattle.eval_model.specs.Trees.{at_end, body_tasks, initialises, starts_named}
use Rattle.eval_model.specs.Walk.{BlockOver}
use Rattle.eval_model.proofs.TaskWalk.{comes-over, execs-over}
use Rattle.stack_code.specs.declared.code.Code.{Code}
use Rattle.stack_code.specs.Commands.{Do, GoTo}
use Rattle.lower_model.specs.Lowered.{code_ways, here}
use Rattle.lower_model.specs.Laying.{Agrees, BodiesAt, Laid, Piece, UnitsAreLaid}
use Rattle.lower_model.specs.Making.{Making, bind, block_made, body_made, does, end_made, expr_made, firsts_made, fresh, initials_made, named_made, next_label, place_of, stmt_made, unit_made, units_made}
use Rattle.lower_model.proofs.CodeWays.{are-ways}
use Rattle.lower_model.proofs.Laying.{add-lays, as-laid, bind-keeps, bind-says, does-laid, fresh-keeps, fresh-open, fresh-says, keeps-then, nothing-laid, then-laid}
use Rattle.lower_model.proofs.Lowering.{expr-laid}
use Rattle.lower_model.proofs.LoweringStmts.{stmt-laid}

-- where no trap is open, there is a way from p through these tasks, if there is one from q through what is behind them
abbrev Leads : (List Task → List Task) → Piece
Leads tasks code places landings p q =
    (ts : List Task) → TasksOver (code_ways code) ts q None → TasksOver (code_ways code) (tasks ts) p None

-- a way through these tasks, to their end
abbrev Ends : List Task → Piece
Ends ts code places landings p q = landings ≡ [] → TasksOver (code_ways code) ts p None

block-laid : (ss : List TypedStmt) → Laid (block_made ss) (λ code places landings. BlockOver (code_ways code) ss None)
block-laid [] = nothing-laid
block-laid (s ∷ ss) = then-laid (stmt_made s None) (block_made ss) (stmt-laid s None) (block-laid ss)

execs-laid : (ss : List TypedStmt) → Laid (block_made ss) (Leads (execs ss))
execs-laid ss = as-laid (block_made ss) (λ code places landings p q at ts f. execs-over (code_ways code) (are-ways code) ss ts _ _ None at f) (block-laid ss)

named-laid : (ws : List TypedWorker) → Laid (named_made ws) (Leads (starts_named ws))
named-laid [] = as-laid (λ m. m) (λ code places landings p q c ts f. comes-over (code_ways code) (are-ways code) ts None c f) nothing-laid
named-laid (w ∷ ws) = as-laid (does Workers) (λ code places landings p q o ts f. (_, _, (here, refl), o, f)) (does-laid Workers)

initials-laid : (is : List Initial) → Laid (initials_made is) (Leads (initialises is))
initials-laid [] = as-laid (λ m. m) (λ code places landings p q c ts f. comes-over (code_ways code) (are-ways code) ts None c f) nothing-laid
initials-laid (i ∷ is) =
    as-laid _ (λ code places landings p q (m, a, (n, o, more)) ts f. (_, m, (here, refl), a, (m, n, (here, refl), o, more ts f)))
    (then-laid (expr_made i.value.value) (λ m. initials_made is (does (StoreModule i.variable) m)) (expr-laid i.value.value)
    (then-laid (does (StoreModule i.variable)) (initials_made is) (does-laid (StoreModule i.variable)) (initials-laid is)))

-- ---- ends

round-laid : Laid (end_made false) (Ends [])
round-laid m =
    let l = next_label m in
    let m1 = fresh m in
    let m2 = bind l m1 in
    let m3 = does Tick m2 in
    let one = add-lays (Do Tick) m2 in
    let two = add-lays (GoTo l) m3 in
    record {
      keeps = keeps-then (bind-keeps l m m1 (omega arith) (fresh-keeps m)) (keeps-then one.keeps two.keeps);
      says = λ code places a4.
          let a3 = two.says code places a4 in
          let a2 = one.says code places a3.0 in
          let a1 = bind-says code places l m1 (fresh-open m) a2.0 in
          (fresh-says code places m a1.0, λ landings none. (refl, none));
    }

end-laid : (reached : Bool) → Laid (end_made reached) (Ends (at_end reached))
end-laid true =
    as-laid _ (λ code places landings p q (m, nil, leaves) none. (_, m, (here, refl), nil, (m, _, (here, refl), leaves, (refl, none))))
    (then-laid (does (Const constant.Nil)) (does ReturnOp) (does-laid (Const constant.Nil)) (does-laid ReturnOp))
end-laid false = round-laid

-- ---- bodies

value-laid : (e : TypedExpr) → Laid (λ m. does ReturnOp (expr_made e m)) (Ends (Eval e ∷ DoTask ReturnOp ∷ []))
value-laid e =
    as-laid _ (λ code places landings p q (m, a, leaves) none. (_, m, (here, refl), a, (m, _, (here, refl), leaves, (refl, none))))
    (then-laid (expr_made e) (does ReturnOp) (expr-laid e) (does-laid ReturnOp))

body-laid : (body : UnitBody) → Laid (body_made body) (Ends (body_tasks body))
body-laid (OfFunction (BlockBody initial workers rest ends close)) =
    as-laid _ (λ code places landings p q (m, a, (n, w, (k, b, end))) none. a _ (w _ (b _ (end none))))
    (then-laid (block_made initial.items) (λ m. end_made ends (block_made rest.items (named_made workers.items m))) (execs-laid initial.items)
    (then-laid (named_made workers.items) (λ m. end_made ends (block_made rest.items m)) (named-laid workers.items)
    (then-laid (block_made rest.items) (end_made ends) (execs-laid rest.items) (end-laid ends))))
body-laid (OfFunction (ValueBody value)) = value-laid value.value
body-laid (OfWorker stmts ends) =
    as-laid _ (λ code places landings p q (m, a, end) none. a _ (end none)) (then-laid (block_made stmts) (end_made ends) (execs-laid stmts) (end-laid ends))
body-laid (OfAnonymous value) = value-laid value
body-laid (OfInitialiser values) =
    as-laid _ (λ code places landings p q (m, a, end) none. a _ (end none)) (then-laid (initials_made values) (end_made true) (initials-laid values) (end-laid true))

unit-laid : (body : UnitBody) → Laid (unit_made body) (Ends (DoTask Tick ∷ body_tasks body))
unit-laid body =
    as-laid _ (λ code places landings p q (m, tick, b) none. (_, m, (here, refl), tick, b none))
    (then-laid (does Tick) (body_made body) (does-laid Tick) (body-laid body))

-- ---- all units

all-say : (code : Code) (places : ℕ → ℕ) (us : List UnitBody) (m : Making) → Agrees code places (units_made us m) → Agrees code places m × BodiesAt code us (firsts_made us m)
all-say code places [] m a = (a, tt)
all-say code places (u ∷ us) m a =
    let rest = all-say code places us (unit_made u m) a in
    let one = (unit-laid u m).says code places rest.0 in
    (one.0, (one.1 [] refl, rest.1))

pub units-laid : UnitsAreLaid
units-laid code us m a = (all-say code (place_of (units_made us m)) us m a).1
