-- What is added for a unit leads where it should, and its labels have places in the unit.
use Rattle.std.proofs.Common.{◌≡◌, ◌∙◌, ◌≤◌, ◌<◌, ◌++◌, ℕ, List, [], ◌∷◌, length, Some, None, Bool, true, false, inl, refl, sym, ap, arith, length-append}
use Rattle.std.specs.Prelude.{slice_get}
use Rattle.operations.specs.declared.operation.Constant.TheVariants as constant
use Rattle.operations.specs.declared.operation.Operation.TheVariants.{Const, Return as ReturnOp, StoreModule, Tick, Workers}
use Rattle.typed_tree.specs.declared.expr.TypedExpr.{TypedExpr}
use Rattle.typed_tree.specs.declared.package.Initial.{Initial}
use Rattle.typed_tree.specs.declared.stmt.TypedStmt.{TypedStmt}
use Rattle.typed_tree.specs.declared.unit.TypedBody.TheVariants.{Block as BlockBody, Expr as ValueBody}
use Rattle.typed_tree.specs.declared.unit.TypedWorker.{TypedWorker}
use Rattle.typed_tree.specs.Units.{UnitBody, OfFunction, OfWorker, OfAnonymous, OfInitialiser}
use Rattle.stack_code.specs.Commands.{Command, Do, GoTo}
use Rattle.lower_model.specs.Making.{Making, add, bind, block_made, body_made, does, end_made, expr_made, fresh, initial_made, initials_made, named_made, stmt_made, unit_made, units_made}
use Rattle.lowered_typing.proofs.Exprs.{expr-tidy}
use Rattle.lowered_typing.proofs.Nesting.{Traps}
use Rattle.lowered_typing.proofs.Pieces.{tidy-does, tidy-nothing, tidy-then}
use Rattle.lowered_typing.proofs.Stmts.{stmt-tidy}
use Rattle.lowered_typing.proofs.Tidy.{Tidied, TidyBy, added, ahead-of, at-head, bound, just, labelled, may-fresh, none, tidied-then}

abbrev Tidy : (Making → Making) → Type 0
Tidy F = TidyBy none F

-- a command comes last, behind a piece
pub record Ends (F : Making → Making) : Type 0 where
  pub before : Making → Making
  pub last : Making → Command
  pub is : (m : Making) → F m ≡ add (last m) (before m)
  pub tidy : Tidy before

ends-behind : (F G : Making → Making) → Tidy F → Ends G → Ends (λ m. G (F m))
ends-behind F G x e = record { before = λ m. e.before (F m); last = λ m. e.last (F m); is = λ m. e.is (F m); tidy = tidy-then none F e.before x e.tidy }

-- ---- ends

-- a label at a tick
round : (m : Making) (old : List Traps) (ts : Traps) → length m.labels ≡ length old → Tidied none none m (does Tick (bind (length m.labels) (fresh m))) old (old ++ ts ∷ []) ts ts
round m old ts many =
    let l : ℕ = length m.labels in
    let w : List Traps = old ++ ts ∷ [] in
    let a1 = labelled none ts m old ts many in
    let l1 = may-fresh ts m old many in
    let b1 = bound none (just l) none m (fresh m) old w ts ts l a1 (omega arith) l1.0 l1.1 (λ i d. inl d) in
    let a2 = added none (Do Tick) (bind l (fresh m)) w ts b1.many tt tt tt in
    tidied-then none none none none none m (bind l (fresh m)) (does Tick (bind l (fresh m))) old w w ts ts ts b1 a2 (λ i c. absurd c) (λ i d. d) (λ i d. d)

round-begins : Tidy (λ m. does Tick (bind (length m.labels) (fresh m)))
round-begins m old ts many may = (old ++ ts ∷ [], round m old ts many)

round-ends : Tidy (end_made false)
round-ends m old ts many may =
    let l : ℕ = length m.labels in
    let w : List Traps = old ++ ts ∷ [] in
    let m1 : Making = does Tick (bind l (fresh m)) in
    let a1 = round m old ts many in
    let head = at-head (fresh m) w ts l (may-fresh ts m old many) in
    let a2 = added (just l) (GoTo l) m1 w ts a1.many head.1 (ahead-of (GoTo l) m1 w ts l head) refl in
    (w, tidied-then none none (just l) none none m m1 (add (GoTo l) m1) old w w ts ts ts a1 a2 (λ i c. inl (omega (arith, c))) (λ i d. d) (λ i d. d))

end-tidy : (ends : Bool) → Tidy (end_made ends)
end-tidy true = tidy-then none (does (Const constant.Nil)) (does ReturnOp) (tidy-does none (Const constant.Nil)) (tidy-does none ReturnOp)
end-tidy false = round-ends

end-ends : (ends : Bool) → Ends (end_made ends)
end-ends true = record { before = does (Const constant.Nil); last = λ m. Do ReturnOp; is = λ m. refl; tidy = tidy-does none (Const constant.Nil) }
end-ends false = record { before = λ m. does Tick (bind (length m.labels) (fresh m)); last = λ m. GoTo (length m.labels); is = λ m. refl; tidy = round-begins }

-- ---- bodies

block-tidy : (ss : List TypedStmt) → Tidy (block_made ss)
block-tidy [] = tidy-nothing none
block-tidy (s ∷ ss) = tidy-then none (stmt_made s None) (block_made ss) (stmt-tidy s None) (block-tidy ss)

named-tidy : (ws : List TypedWorker) → Tidy (named_made ws)
named-tidy [] = tidy-nothing none
named-tidy (w ∷ ws) = tidy-does none Workers

initials-tidy : (is : List Initial) → Tidy (initials_made is)
initials-tidy [] = tidy-nothing none
initials-tidy (i ∷ is) =
    tidy-then none (initial_made i) (initials_made is) (tidy-then none (expr_made i.value.value) (does (StoreModule i.variable)) (expr-tidy i.value.value) (tidy-does none (StoreModule i.variable))) (initials-tidy is)

value-tidy : (e : TypedExpr) → Tidy (λ m. does ReturnOp (expr_made e m))
value-tidy e = tidy-then none (expr_made e) (does ReturnOp) (expr-tidy e) (tidy-does none ReturnOp)

value-ends : (e : TypedExpr) → Ends (λ m. does ReturnOp (expr_made e m))
value-ends e = record { before = expr_made e; last = λ m. Do ReturnOp; is = λ m. refl; tidy = expr-tidy e }

body-tidy : (body : UnitBody) → Tidy (body_made body)
body-tidy (OfFunction (BlockBody initial workers rest ends close)) =
    tidy-then none (block_made initial.items) (λ m. end_made ends (block_made rest.items (named_made workers.items m))) (block-tidy initial.items)
    (tidy-then none (named_made workers.items) (λ m. end_made ends (block_made rest.items m)) (named-tidy workers.items)
    (tidy-then none (block_made rest.items) (end_made ends) (block-tidy rest.items) (end-tidy ends)))
body-tidy (OfFunction (ValueBody value)) = value-tidy value.value
body-tidy (OfWorker stmts ends) = tidy-then none (block_made stmts) (end_made ends) (block-tidy stmts) (end-tidy ends)
body-tidy (OfAnonymous value) = value-tidy value
body-tidy (OfInitialiser values) = tidy-then none (initials_made values) (end_made true) (initials-tidy values) (end-tidy true)

body-ends : (body : UnitBody) → Ends (body_made body)
body-ends (OfFunction (BlockBody initial workers rest ends close)) =
    ends-behind (block_made initial.items) (λ m. end_made ends (block_made rest.items (named_made workers.items m))) (block-tidy initial.items)
    (ends-behind (named_made workers.items) (λ m. end_made ends (block_made rest.items m)) (named-tidy workers.items)
    (ends-behind (block_made rest.items) (end_made ends) (block-tidy rest.items) (end-ends ends)))
body-ends (OfFunction (ValueBody value)) = value-ends value.value
body-ends (OfWorker stmts ends) = ends-behind (block_made stmts) (end_made ends) (block-tidy stmts) (end-ends ends)
body-ends (OfAnonymous value) = value-ends value
body-ends (OfInitialiser values) = ends-behind (initials_made values) (end_made true) (initials-tidy values) (end-ends true)

pub unit-tidy : (body : UnitBody) → Tidy (unit_made body)
unit-tidy body = tidy-then none (does Tick) (body_made body) (tidy-does none Tick) (body-tidy body)

pub unit-ends : (body : UnitBody) → Ends (unit_made body)
unit-ends body = ends-behind (does Tick) (body_made body) (tidy-does none Tick) (body-ends body)

pub units-tidy : (bodies : List UnitBody) → Tidy (units_made bodies)
units-tidy [] = tidy-nothing none
units-tidy (b ∷ bs) = tidy-then none (unit_made b) (units_made bs) (unit-tidy b) (units-tidy bs)

-- a label that was added has its place before the end
pub within : (F : Making → Making) → Ends F → (m : Making) (old : List Traps) → length m.labels ≡ length old → (l to : ℕ) → length m.labels ≤ l → slice_get (F m).labels l ≡ Some (Some to) → to < length (F m).steps
within F e m old many l to le at =
    let (wants, a) = e.tidy m old [] many (λ i c. absurd c) in
    let (k, is, few, want) = a.lands l to le (sym (ap (λ n. slice_get n.labels l) (e.is m)) ∙ at) in
    let long : length (F m).steps ≡ length ((e.before m).steps ++ e.last m ∷ []) = ap (λ n. length n.steps) (e.is m) in
    omega (arith, is, few, long, length-append (e.before m).steps (e.last m ∷ []), ap length a.steps, length-append m.steps a.news)
