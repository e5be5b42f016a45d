-- What waits below the ends of traps among tasks. Taking a tree apart leaves it, but for a trap that begins.
use Rattle.std.proofs.Common.{◌≡◌, ◌∙◌, ℕ, Bool, List, [], ◌∷◌, Option, Some, None, refl, sym, subst, true, false}
use Rattle.std.specs.Prelude.{length}
use Rattle.operations.specs.declared.operation.Constant.{Constant}
use Rattle.operations.specs.declared.operation.Operation.{Operation}
use Rattle.value_model.specs.declared.value.Value.{Value}
use Rattle.typed_tree.specs.declared.expr.TypedExpr.{TypedExpr, out-TypedExpr, Strict', Implied, Local as Variable, And', Or', Conditional', Elvis', Check', Trap', Function', Parens', items-the_row-TypedExpr as exprs_in, items_shown-the_row-TypedExpr-0 as exprs-shown}
use Rattle.typed_tree.specs.declared.form.Operator.{Operator}
use Rattle.typed_tree.specs.declared.stmt.RangeEnd.TheVariants.{Included, Excluded}
use Rattle.typed_tree.specs.declared.stmt.Source.{Source}
use Rattle.typed_tree.specs.declared.stmt.Source.TheVariants.{Range, List as ListSource}
use Rattle.typed_tree.specs.declared.stmt.TypedStmt.{TypedStmt, out-TypedStmt, Set, Perform, Update, If', While', Foreach', Match', Return, Block' as BlockStmt, Break, Continue, items-the_row-TypedClause as clauses_in, items_shown-the_row-TypedClause-1 as clauses-shown}
use Rattle.typed_tree.specs.declared.stmt.TypedStmt.TheBlock.{shown-the_row-TypedStmt-0}
use Rattle.typed_tree.specs.declared.stmt.UpdateTarget.{UpdateTarget}
use Rattle.typed_tree.specs.declared.stmt.UpdateTarget.TheVariants as target
use Rattle.typed_tree.specs.declared.unit.Captured.{Captured}
use denote.Hole.Carrier
use Rattle.held_operations.specs.Constructs.{operations_of, operator_operations, perform_operations}
use Rattle.eval_model.specs.Expressions.{captures, eval, makes_function}
use Rattle.eval_model.specs.Loops.{begins_loop, behind_loop, from_loop, round, tries, turn}
use Rattle.eval_model.specs.Statements.{branch, exec, match_rows, reads_member, rows, tries_row, updates}
use Rattle.eval_model.specs.Tasks.{Loop, AsLongAs, OverRange, OverList, MatchRow, Branch, Whole, These, Kept, Block, Round, Rows, Task, Eval, Exec, Do, Get, Choose, Turn, Guard, dos, evals, execs}
use Rattle.eval_model.specs.TaskWalk.{TasksOver}
use Rattle.eval_model.specs.Ways.{Turns, Ways}
use Rattle.lower_model.specs.Following.{waiting}

abbrev Leaves : (List Task → List Task) → Type 0
Leaves f = (ts : List Task) → waiting (f ts) ≡ waiting ts

-- ---- several tasks of a kind

pub dos-leave : (ops : List Operation) → Leaves (dos ops)
dos-leave [] ts = refl
dos-leave (op ∷ ops) ts = dos-leave ops ts

evals-leave : (es : List TypedExpr) → Leaves (evals es)
evals-leave [] ts = refl
evals-leave (e ∷ es) ts = evals-leave es ts

pub execs-leave : (ss : List TypedStmt) → Leaves (execs ss)
execs-leave [] ts = refl
execs-leave (s ∷ ss) ts = execs-leave ss ts

strict-leaves : (es : List TypedExpr) (ops : List Operation) (ts : List Task) → waiting (evals es (dos ops ts)) ≡ waiting ts
strict-leaves es ops ts = evals-leave es (dos ops ts) ∙ dos-leave ops ts

captures-leave : (cs : List Captured) → Leaves (captures cs)
captures-leave [] ts = refl
captures-leave (c ∷ cs) ts = captures-leave cs ts

-- ---- ways to go on

tries-leave : (loop : Loop) → Leaves (tries loop)
tries-leave (AsLongAs condition body) ts = refl
tries-leave (OverRange Included slot own body) ts = refl
tries-leave (OverRange Excluded slot own body) ts = refl
tries-leave (OverList slot own body) ts = refl

pub turn-leaves : (loop : Loop) → Leaves (turn loop)
turn-leaves loop ts = tries-leave loop (Choose (Round loop) (These []) ∷ ts)

round-leaves : (loop : Loop) → Leaves (round loop)
round-leaves (AsLongAs condition body) ts = execs-leave body ts
round-leaves (OverRange Included slot own body) ts = execs-leave body ts
round-leaves (OverRange Excluded slot own body) ts = execs-leave body ts
round-leaves (OverList slot own body) ts = execs-leave body ts

rows-leave : (own : ℕ) (rs : List MatchRow) → Leaves (rows own rs)
rows-leave own [] ts = refl
rows-leave own (r ∷ rs) ts = by-pattern r.pattern
  where
    by-pattern : (pattern : Option Constant) → waiting (tries_row own pattern r.body rs ts) ≡ waiting ts
    by-pattern (Some c) = refl
    by-pattern None = execs-leave r.body ts

pub branch-leaves : (b : Branch) → Leaves (branch b)
branch-leaves (Whole e) ts = refl
branch-leaves (These ops) ts = dos-leave ops ts
branch-leaves (Kept slot type ops) ts = dos-leave ops ts
branch-leaves (Block body) ts = execs-leave body ts
branch-leaves (Round loop) ts = round-leaves loop (Turn loop ∷ ts)
branch-leaves (Rows own rs) ts = rows-leave own rs ts

-- ---- expressions

abbrev pub opens_trap : TypedExpr → Bool
opens_trap (Strict' form shape operands type at) = false
opens_trap (Implied value type at) = false
opens_trap (Variable slot narrowed type at) = false
opens_trap (And' _ left _ right type at) = false
opens_trap (Or' _ left _ right type at) = false
opens_trap (Conditional' _ condition _ middle _ last type at) = false
opens_trap (Elvis' own _ left _ right type at) = false
opens_trap (Check' panics own _ operand type at) = false
opens_trap (Trap' _ operand type at) = true
opens_trap (Function' function _ value type at) = false
opens_trap (Parens' _ inner type at) = false

-- what waits once an expression is taken apart, where these values are at hand
abbrev pub waits_too : Bool → List Value → List (List Value) → List (List Value)
waits_too true vs waits = vs ∷ waits
waits_too false vs waits = waits

pub eval-leaves : (e : TypedExpr) (vs : List Value) (ts : List Task) → waiting (eval e vs ts) ≡ waits_too (opens_trap e) vs (waiting ts)
unfolding out-TypedExpr Carrier.out
eval-leaves (Strict' form shape operands type at) vs ts =
    subst (λ es. waiting (evals es (dos (operations_of form (length es)) ts)) ≡ waiting ts) (sym (exprs-shown shape operands)) (strict-leaves (exprs_in _ operands) (operations_of form (length (exprs_in _ operands))) ts)
eval-leaves (Implied value type at) vs ts = refl
eval-leaves (Variable slot narrowed type at) vs ts = refl
eval-leaves (And' _ left _ right type at) vs ts = refl
eval-leaves (Or' _ left _ right type at) vs ts = refl
eval-leaves (Conditional' _ condition _ middle _ last type at) vs ts = refl
eval-leaves (Elvis' own _ left _ right type at) vs ts = refl
eval-leaves (Check' panics own _ operand type at) vs ts = refl
eval-leaves (Trap' _ operand type at) vs ts = refl
eval-leaves (Function' function _ value type at) vs ts = captures-leave function.value.captured (Do (makes_function function.value) ∷ ts)
eval-leaves (Parens' _ inner type at) vs ts = refl

-- ---- statements

updates-leave : (t : UpdateTarget) (op : Operator) (value : TypedExpr) → Leaves (updates t op value)
updates-leave (target.Local slot narrowed type) op value ts = dos-leave (operator_operations op) _
updates-leave (target.Variable x) op value ts = dos-leave (operator_operations op) _
updates-leave (target.Member own how container key type) op value ts = dos-leave (reads_member how own) _ ∙ dos-leave (operator_operations op) _

begins-leave : (slot : ℕ) (source : Source) (body : List TypedStmt) → Leaves (begins_loop slot source body)
begins-leave slot (Range own Included from to) body ts = refl
begins-leave slot (Range own Excluded from to) body ts = refl
begins-leave slot (ListSource own list) body ts = refl

-- within a loop no trap is open between it and its statements
module _ {Pt : Type 0} (w : Ways Pt) where
  behind-leaves : (ts : List Task) (p : Pt) (l : Turns Pt) → TasksOver w ts p (Some l) → waiting (behind_loop ts) ≡ waiting ts
  behind-leaves [] p l (none, e) = absurd (let bad : ⊥ = cc in bad)
  behind-leaves (Turn t ∷ ts) p l f = refl
  behind-leaves (Guard vs ∷ ts) p l (m, q, outer, none, d, at, f) = absurd (let bad : ⊥ = cc in bad)
  behind-leaves (Eval e ∷ ts) p l (m, q, d, at, f) = behind-leaves ts q l f
  behind-leaves (Exec s ∷ ts) p l (m, q, d, at, f) = behind-leaves ts q l f
  behind-leaves (Do op ∷ ts) p l (m, q, d, at, f) = behind-leaves ts q l f
  behind-leaves (Get x y ∷ ts) p l (m, q, d, at, f) = behind-leaves ts q l f
  behind-leaves (Choose a b ∷ ts) p l (m, q, d, at, f) = behind-leaves ts q l f

  from-leaves : (ts : List Task) (p : Pt) (l : Turns Pt) → TasksOver w ts p (Some l) → waiting (from_loop ts) ≡ waiting ts
  from-leaves [] p l (none, e) = absurd (let bad : ⊥ = cc in bad)
  from-leaves (Turn t ∷ ts) p l f = refl
  from-leaves (Guard vs ∷ ts) p l (m, q, outer, none, d, at, f) = absurd (let bad : ⊥ = cc in bad)
  from-leaves (Eval e ∷ ts) p l (m, q, d, at, f) = from-leaves ts q l f
  from-leaves (Exec s ∷ ts) p l (m, q, d, at, f) = from-leaves ts q l f
  from-leaves (Do op ∷ ts) p l (m, q, d, at, f) = from-leaves ts q l f
  from-leaves (Get x y ∷ ts) p l (m, q, d, at, f) = from-leaves ts q l f
  from-leaves (Choose a b ∷ ts) p l (m, q, d, at, f) = from-leaves ts q l f

  pub exec-leaves : (s : TypedStmt) (ts : List Task) (p : Pt) (loop : Option (Turns Pt)) → TasksOver w (Exec s ∷ ts) p loop → waiting (exec s ts) ≡ waiting ts
  unfolding out-TypedStmt Carrier.out
  exec-leaves (Set slot value at) ts p loop f = refl
  exec-leaves (Perform form operands at) ts p loop f = strict-leaves operands.items (perform_operations form) ts
  exec-leaves (Update t op value at) ts p loop f = updates-leave t op value.value ts
  exec-leaves (If' condition shape first shape' second at) ts p loop f = refl
  exec-leaves (While' condition shape body at) ts p loop f = refl
  exec-leaves (Foreach' slot source shape body at) ts p loop f = begins-leave slot source (shown-the_row-TypedStmt-0 shape body).items ts
  exec-leaves (Match' own subject shape clauses at) ts p loop f =
      subst (λ cs. waiting (rows own (match_rows cs) ts) ≡ waiting ts) (sym (clauses-shown shape clauses)) (rows-leave own (match_rows (clauses_in _ clauses)) ts)
  exec-leaves (Return None at) ts p loop f = refl
  exec-leaves (Return (Some e) at) ts p loop f = refl
  exec-leaves (BlockStmt shape stmts at) ts p loop f = execs-leave (shown-the_row-TypedStmt-0 shape stmts).items ts
  exec-leaves (Break at) ts p (Some l) (m, q, c, at', f) = behind-leaves ts q l f
  exec-leaves (Continue at) ts p (Some l) (m, q, c, at', f) = from-leaves ts q l f
  exec-leaves (Break at) ts p None (m, q, c, (h, s), f) = absurd h
  exec-leaves (Continue at) ts p None (m, q, c, (h, s), f) = absurd h
