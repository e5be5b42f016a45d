-- Each frame of a package is followed by one that reads its variables as declared: what is left to be done is the same, but for what
-- reads are narrowed to.
use Rattle.std.proofs.Common.{◌≡◌, ◌++◌, ◌∙◌, ℕ, ◌+◌, List, [], ◌∷◌, Option, Some, None, length, refl, sym, subst, ap}
use Rattle.std.specs.Prelude.{map, negsuc}
use Rattle.std.specs.Global.{Global}
use Rattle.std.specs.formers.vec.Vec
use denote.Hole.Carrier
use mathlib.Core.Former
use Rattle.std.specs.List.{AllZip}
use Rattle.std.proofs.lemmas.Slice.Zip.{AllZip-long}
use Rattle.type_model.specs.declared.basic.SemType.{SemType}
use Rattle.operations.specs.declared.operation.Constant.TheVariants as constant
use Rattle.operations.specs.declared.operation.Operation.{Operation}
use Rattle.operations.specs.declared.library.LibraryCall.TheVariants.{ListLength}
use Rattle.operations.specs.declared.operation.Constant.{Constant}
use Rattle.operations.specs.declared.operation.Operation.TheVariants.{Const, GetItem, Less, LessEqual, Library, Load, MakeFunction, Return as ReturnOp, Store, Test}
use Rattle.value_model.specs.declared.value.Value.{Value}
use Rattle.typed_tree.specs.declared.expr.TypedExpr.{TypedExpr, out-TypedExpr, Strict', Implied, Local as Variable, And', Or', Conditional', Elvis', Check', Trap', Function', Parens', Row_of-TypedExpr, end_of-TypedExpr, more_of-TypedExpr, items-the_row-TypedExpr as exprs_in, items_shown-the_row-TypedExpr-0 as exprs-shown}
use Rattle.typed_tree.specs.declared.form.Operator.{Operator}
use Rattle.typed_tree.specs.declared.stmt.RangeEnd.TheVariants.{Included, Excluded}
use Rattle.typed_tree.specs.declared.stmt.Source.{Source}
use Rattle.typed_tree.specs.declared.stmt.Source.TheVariants.{Range, List as ListSource}
use Rattle.typed_tree.specs.declared.stmt.TypedPattern.{TypedPattern}
use Rattle.typed_tree.specs.declared.stmt.TypedStmt.{TypedStmt, TypedStmt-F, out-TypedStmt, Set, Perform, Update, If', While', Foreach', Match', Return, Block' as BlockStmt, Break, Continue, Row_of-TypedStmt, end_of-TypedStmt, more_of-TypedStmt, items-the_row-TypedStmt as stmts_in, items_shown-the_row-TypedStmt-0 as stmts-shown, Row_of-TypedClause, end_of-TypedClause, more_of-TypedClause, items-the_row-TypedClause as clauses_in, items_shown-the_row-TypedClause-1 as clauses-shown}
use Rattle.typed_tree.specs.declared.expr.AnonymousFunction.{AnonymousFunction}
use Rattle.typed_tree.specs.declared.expr.TypedExpr.TheOpen as layer
use Rattle.typed_tree.specs.declared.stmt.RangeEnd.{RangeEnd}
use Rattle.typed_tree.specs.declared.stmt.TypedStmt.TheOpen as stmt_layer
use Rattle.typed_tree.specs.declared.expr.TypedExpr.TheVariants.{outs-Strict}
use Rattle.typed_tree.specs.declared.stmt.TypedClause.{TypedClause, out-TypedClause}
use Rattle.typed_tree.specs.declared.stmt.TypedStmt.TheVariants.{outs-Block, outs-Foreach, outs-If, outs-Match, outs-While}
use Rattle.typed_tree.specs.declared.stmt.TypedStmt.TheBlock.{shown-the_row-TypedClause-1, shown-the_row-TypedStmt-0}
use Rattle.typed_tree.specs.declared.stmt.UpdateTarget.{UpdateTarget}
use Rattle.typed_tree.specs.declared.stmt.UpdateTarget.TheVariants as target
use Rattle.typed_tree.specs.declared.unit.Captured.{Captured}
use Rattle.held_operations.specs.Constructs.{operations_of, operator_operations, perform_operations}
use Rattle.eval_model.specs.Expressions.{captures, eval, eval_layer, makes_function, narrowed_to}
use Rattle.eval_model.specs.Loops.{begins_loop, behind_loop, from_loop, raises, round, turn, tries}
use Rattle.held_operations.specs.Operation.{singleton}
use Rattle.eval_model.specs.Statements.{branch, exec, exec_layer, match_rows, reads_member, rows, tries_row, updates}
use Rattle.eval_model.specs.Tasks.{Loop, AsLongAs, OverRange, OverList, MatchRow, Branch, Whole, These, Kept, Block, Round, Rows, Task, Eval, Exec, Do, Get, Choose, Turn, Guard, dos, evals, execs}
use Rattle.declared_reads.specs.Declared.{AreBare, AreBareClauses, AreBareStmts, IsBare, IsBareCapture, IsBareFunction, IsBareSource, IsBareStmt, IsBareTarget, IsNever}

pub zip-append : {A B : Type 0} (R : A → B → Type 0) (xs : List A) (ys : List B) (xs' : List A) (ys' : List B) → AllZip R xs ys → AllZip R xs' ys' → AllZip R (xs ++ xs') (ys ++ ys')
zip-append R [] [] xs' ys' h k = k
zip-append R [] (y ∷ ys) xs' ys' h k = absurd h
zip-append R (x ∷ xs) [] xs' ys' h k = absurd h
zip-append R (x ∷ xs) (y ∷ ys) xs' ys' h k = (h.0, zip-append R xs ys xs' ys' h.1 k)

abbrev pub AreBareAll : List TypedStmt → List TypedStmt → Type 0
AreBareAll = AllZip IsBareStmt

pub data SameLoop : Loop → Loop → Type 0 where
  as_long : (e f : TypedExpr) (ss us : List TypedStmt) → IsBare e f → AreBareAll ss us → SameLoop (AsLongAs e ss) (AsLongAs f us)
  over_range : (end : RangeEnd) (slot own : ℕ) (ss us : List TypedStmt) → AreBareAll ss us → SameLoop (OverRange end slot own ss) (OverRange end slot own us)
  over_list : (slot own : ℕ) (ss us : List TypedStmt) → AreBareAll ss us → SameLoop (OverList slot own ss) (OverList slot own us)

abbrev pub SameRow : MatchRow → MatchRow → Type 0
SameRow r q = (q.pattern ≡ r.pattern) × AreBareAll r.body q.body

pub data SameBranch : Branch → Branch → Type 0 where
  whole : (e f : TypedExpr) → IsBare e f → SameBranch (Whole e) (Whole f)
  these : (ops : List Operation) → SameBranch (These ops) (These ops)
  kept : (slot : ℕ) (s t : SemType) (ops : List Operation) → SameBranch (Kept slot s ops) (Kept slot t ops)
  block : (ss us : List TypedStmt) → AreBareAll ss us → SameBranch (Block ss) (Block us)
  round_of : (l m : Loop) → SameLoop l m → SameBranch (Round l) (Round m)
  rows_of : (own : ℕ) (rs qs : List MatchRow) → AllZip SameRow rs qs → SameBranch (Rows own rs) (Rows own qs)

pub data SameTask : Task → Task → Type 0 where
  evals_so : (e f : TypedExpr) → IsBare e f → SameTask (Eval e) (Eval f)
  execs_so : (s u : TypedStmt) → IsBareStmt s u → SameTask (Exec s) (Exec u)
  does_so : (op : Operation) → SameTask (Do op) (Do op)
  gets_so : (slot : ℕ) (s t : Option SemType) → SameTask (Get slot s) (Get slot t)
  chooses_so : {a b c d : Branch} → SameBranch a c → SameBranch b d → SameTask (Choose a b) (Choose c d)
  turns_so : (l m : Loop) → SameLoop l m → SameTask (Turn l) (Turn m)
  guards_so : (vs : List Value) → SameTask (Guard vs) (Guard vs)

-- where nothing is left, the other has nothing left, or a statement that can't be done
pub data SameTasks : List Task → List Task → Type 0 where
  none : SameTasks [] []
  never : (s : TypedStmt) → IsNever s → SameTasks [] (Exec s ∷ [])
  more : {t u : Task} {ts us : List Task} → SameTask t u → SameTasks ts us → SameTasks (t ∷ ts) (u ∷ us)

-- ---- several tasks of a kind

pub dos-same : (ops : List Operation) {ts us : List Task} → SameTasks ts us → SameTasks (dos ops ts) (dos ops us)
dos-same [] h = h
dos-same (op ∷ ops) h = more (does_so op) (dos-same ops h)

evals-same : (es fs : List TypedExpr) {ts us : List Task} → AllZip IsBare es fs → SameTasks ts us → SameTasks (evals es ts) (evals fs us)
evals-same [] [] z h = h
evals-same [] (f ∷ fs) z h = absurd z
evals-same (e ∷ es) [] z h = absurd z
evals-same (e ∷ es) (f ∷ fs) z h = more (evals_so e f z.0) (evals-same es fs z.1 h)

pub execs-same : (ss vs : List TypedStmt) {ts us : List Task} → AreBareAll ss vs → SameTasks ts us → SameTasks (execs ss ts) (execs vs us)
execs-same [] [] z h = h
execs-same [] (v ∷ vs) z h = absurd z
execs-same (s ∷ ss) [] z h = absurd z
execs-same (s ∷ ss) (v ∷ vs) z h = more (execs_so s v z.0) (execs-same ss vs z.1 h)

captures-same : (cs ds : List Captured) {ts us : List Task} → AllZip IsBareCapture cs ds → SameTasks ts us → SameTasks (captures cs ts) (captures ds us)
captures-same [] [] z h = h
captures-same [] (d ∷ ds) z h = absurd z
captures-same (c ∷ cs) [] z h = absurd z
captures-same (c ∷ cs) (d ∷ ds) {ts} {us} z h =
    subst (λ n. SameTasks (captures (c ∷ cs) ts) (Get n (narrowed_to d.narrowed d.ty) ∷ captures ds us)) (sym z.0.0) (more (gets_so c.slot _ _) (captures-same cs ds z.1 h))

-- ---- rows as lists

pub row-zip : {n : _} (row : Row_of-TypedExpr n) (fs : List TypedExpr) → AreBare row fs → AllZip IsBare (exprs_in _ row) fs
row-zip end_of-TypedExpr fs is = subst (λ x. AllZip IsBare [] x) (sym is) tt
row-zip (more_of-TypedExpr e rest) fs (f, gs, bare, are, is) = subst (λ x. AllZip IsBare (e ∷ exprs_in _ rest) x) (sym is) (bare, row-zip rest gs are)

pub stmts-zip : {n : _} (row : Row_of-TypedStmt n) (us : List TypedStmt) → AreBareStmts row us → AreBareAll (stmts_in _ row) us
stmts-zip end_of-TypedStmt us is = subst (λ x. AreBareAll [] x) (sym is) tt
stmts-zip (more_of-TypedStmt s rest) us (u, vs, bare, are, is) = subst (λ x. AreBareAll (s ∷ stmts_in _ rest) x) (sym is) (bare, stmts-zip rest vs are)

abbrev pub shown : (shape : (Vec.the_former (Former.this {0}) Global).Shape) → Row_of-TypedStmt (Former.arity (Vec.the_former (Former.this {0}) Global) shape) → List TypedStmt
shown shape row = (shown-the_row-TypedStmt-0 shape row).items

pub shown-zip : (shape : _) (row : _) (us : List TypedStmt) → AreBareStmts row us → AreBareAll (shown shape row) us
shown-zip shape row us are = subst (λ ss. AreBareAll ss us) (sym (stmts-shown shape row)) (stmts-zip row us are)

-- ---- expressions

-- by the layer of the second
eval-by : (e f : TypedExpr) (vs : List Value) (ts us : List Task) (l : _) → out-TypedExpr f ≡ l → SameTasks (eval e vs ts) (eval_layer l vs us) → SameTasks (eval e vs ts) (eval f vs us)
eval-by e f vs ts us l o h = subst (λ x. SameTasks (eval e vs ts) (eval_layer x vs us)) (sym o) h

same-function : (f g : AnonymousFunction) → IsBareFunction f g → makes_function g ≡ makes_function f
same-function f g is = λ i. MakeFunction (is.unit i).number (AllZip-long IsBareCapture f.captured g.captured is.captured i)

pub eval-same : (e f : TypedExpr) (vs : List Value) {ts us : List Task} → IsBare e f → SameTasks ts us → SameTasks (eval e vs ts) (eval f vs us)
unfolding out-TypedExpr Carrier.out
eval-same (Strict' form shape operands type at) f vs {ts} {us} (fs, are, is) h =
    let es : List TypedExpr = exprs_in _ operands in
    let z = row-zip operands fs.items are in
    eval-by (Strict' form shape operands type at) f vs ts us (layer.Strict form fs type at) (ap out-TypedExpr is ∙ outs-Strict form fs type at)
    (subst (λ xs. SameTasks (evals xs (dos (operations_of form (length xs)) ts)) (evals fs.items (dos (operations_of form (length fs.items)) us))) (sym (exprs-shown shape operands))
    (evals-same es fs.items z (subst (λ n. SameTasks (dos (operations_of form (length es)) ts) (dos (operations_of form n) us)) (sym (AllZip-long IsBare es fs.items z)) (dos-same (operations_of form (length es)) h))))
eval-same (Implied value type at) f vs {ts} {us} is h = subst (λ x. SameTasks (eval (Implied value type at) vs ts) (eval x vs us)) (sym is) (more (does_so _) h)
eval-same (Variable slot narrowed type at) f vs {ts} {us} is h = subst (λ x. SameTasks (eval (Variable slot narrowed type at) vs ts) (eval x vs us)) (sym is) (more (gets_so slot _ _) h)
eval-same (And' a left b right type at) f vs {ts} {us} (l, r, x, y, is) h =
    subst (λ z. SameTasks (eval (And' a left b right type at) vs ts) (eval z vs us)) (sym is) (more (evals_so left l.value x) (more (chooses_so (whole right r.value y) (these _)) h))
eval-same (Or' a left b right type at) f vs {ts} {us} (l, r, x, y, is) h =
    subst (λ z. SameTasks (eval (Or' a left b right type at) vs ts) (eval z vs us)) (sym is) (more (evals_so left l.value x) (more (chooses_so (these _) (whole right r.value y)) h))
eval-same (Conditional' a condition b middle c last type at) f vs {ts} {us} (k, m, l, x, y, z, is) h =
    subst (λ w. SameTasks (eval (Conditional' a condition b middle c last type at) vs ts) (eval w vs us)) (sym is) (more (evals_so condition k.value x) (more (chooses_so (whole middle m.value y) (whole last l.value z)) h))
eval-same (Elvis' own a left b right type at) f vs {ts} {us} (l, r, t, x, y, any, is) h =
    subst (λ z. SameTasks (eval (Elvis' own a left b right type at) vs ts) (eval z vs us)) (sym is)
    (more (evals_so left l.value x) (more (does_so _) (more (does_so _) (more (does_so _) (more (chooses_so (whole right r.value y) (kept own _ _ _)) h)))))
eval-same (Check' panics own a operand type at) f vs {ts} {us} (o, t, x, any, is) h =
    subst (λ z. SameTasks (eval (Check' panics own a operand type at) vs ts) (eval z vs us)) (sym is)
    (more (evals_so operand o.value x) (more (does_so _) (more (does_so _) (more (does_so _) (more (chooses_so (kept own _ _ _) (kept own _ _ _)) h)))))
eval-same (Trap' a operand type at) f vs {ts} {us} (o, x, is) h =
    subst (λ z. SameTasks (eval (Trap' a operand type at) vs ts) (eval z vs us)) (sym is) (more (evals_so operand o.value x) (more (guards_so vs) h))
eval-same (Function' function a value type at) f vs {ts} {us} (g, v, same, x, is) h =
    subst (λ z. SameTasks (eval (Function' function a value type at) vs ts) (eval z vs us)) (sym is)
    (captures-same function.value.captured g.value.captured same.captured
    (subst (λ o. SameTasks (Do (makes_function function.value) ∷ ts) (Do o ∷ us)) (sym (same-function function.value g.value same)) (more (does_so _) h)))
eval-same (Parens' a inner type at) f vs {ts} {us} (i, x, is) h = subst (λ z. SameTasks (eval (Parens' a inner type at) vs ts) (eval z vs us)) (sym is) (more (evals_so inner i.value x) h)

-- ---- statements

updates-same : (t u : UpdateTarget) (op : Operator) (value v : TypedExpr) {ts us : List Task} → IsBareTarget t u → IsBare value v → SameTasks ts us → SameTasks (updates t op value ts) (updates u op v us)
updates-same (target.Local slot narrowed type) u op value v {ts} {us} is x h =
    subst (λ w. SameTasks (updates (target.Local slot narrowed type) op value ts) (updates w op v us)) (sym is) (more (gets_so slot _ _) (more (evals_so value v x) (dos-same (operator_operations op) (more (does_so _) h))))
updates-same (target.Variable m) u op value v {ts} {us} is x h =
    subst (λ w. SameTasks (updates (target.Variable m) op value ts) (updates w op v us)) (sym is) (more (does_so _) (more (evals_so value v x) (dos-same (operator_operations op) (more (does_so _) h))))
updates-same (target.Member own how container key type) u op value v {ts} {us} (c, k, y, z, is) x h =
    subst (λ w. SameTasks (updates (target.Member own how container key type) op value ts) (updates w op v us)) (sym is)
    (more (evals_so container.value c.value y) (more (does_so _) (more (evals_so key.value k.value z) (more (does_so _)
    (dos-same (Load own ∷ Load (own + 1) ∷ reads_member how own) (more (evals_so value v x) (dos-same (operator_operations op) (more (does_so _) h))))))))

begins-same : (slot : ℕ) (source r : Source) (body b : List TypedStmt) {ts us : List Task} → IsBareSource source r → AreBareAll body b → SameTasks ts us → SameTasks (begins_loop slot source body ts) (begins_loop slot r b us)
begins-same slot (Range own Included from to) r body b {ts} {us} (f, t, x, y, is) z h =
    subst (λ w. SameTasks (begins_loop slot (Range own Included from to) body ts) (begins_loop slot w b us)) (sym is)
    (more (evals_so from.value f.value x) (more (does_so _) (more (evals_so to.value t.value y) (more (does_so _)
    (dos-same (Load own ∷ Load (own + 1) ∷ LessEqual ∷ Store (own + 2) ∷ []) (more (turns_so _ _ (over_range Included slot own body b z)) h))))))
begins-same slot (Range own Excluded from to) r body b {ts} {us} (f, t, x, y, is) z h =
    subst (λ w. SameTasks (begins_loop slot (Range own Excluded from to) body ts) (begins_loop slot w b us)) (sym is)
    (more (evals_so from.value f.value x) (more (does_so _) (more (evals_so to.value t.value y) (more (does_so _) (more (turns_so _ _ (over_range Excluded slot own body b z)) h)))))
begins-same slot (ListSource own list) r body b {ts} {us} (l, x, is) z h =
    subst (λ w. SameTasks (begins_loop slot (ListSource own list) body ts) (begins_loop slot w b us)) (sym is)
    (more (evals_so list.value l.value x) (dos-same (Store own ∷ Const (constant.Int (negsuc 0)) ∷ Store (own + 1) ∷ []) (more (turns_so _ _ (over_list slot own body b z)) h)))

-- ---- matches

rows-same : (own : ℕ) (rs qs : List MatchRow) {ts us : List Task} → AllZip SameRow rs qs → SameTasks ts us → SameTasks (rows own rs ts) (rows own qs us)
rows-same own [] [] z h = h
rows-same own [] (q ∷ qs) z h = absurd z
rows-same own (r ∷ rs) [] z h = absurd z
rows-same own (r ∷ rs) (q ∷ qs) {ts} {us} z h = subst (λ c. SameTasks (rows own (r ∷ rs) ts) (tries_row own c q.body qs us)) (sym z.0.0) (by r.pattern)
  where
    by : (c : Option Constant) → SameTasks (tries_row own c r.body rs ts) (tries_row own c q.body qs us)
    by (Some c) = dos-same (Load own ∷ Test (singleton c) ∷ []) (more (chooses_so (block r.body q.body z.0.1) (rows_of own rs qs z.1)) h)
    by None = execs-same r.body q.body z.0.1 h

abbrev rows_with : List TypedPattern → List TypedStmt → List MatchRow
rows_with ps body = map (λ p. record { pattern = p.value; body = body }) ps

clause-zip : (ps : List TypedPattern) (body b : List TypedStmt) → AreBareAll body b → AllZip SameRow (rows_with ps body) (rows_with ps b)
clause-zip [] body b z = tt
clause-zip (p ∷ ps) body b z = ((refl, z), clause-zip ps body b z)

clauses-zip : {n : _} (row : Row_of-TypedClause n) (ds : List TypedClause) → AreBareClauses row ds → AllZip SameRow (match_rows (clauses_in _ row)) (match_rows ds)
clauses-zip end_of-TypedClause ds is = subst (λ x. AllZip SameRow [] (match_rows x)) (sym is) tt
clauses-zip (more_of-TypedClause patterns a stmts at rest) ds (d, ls, ps, bare, are, is) =
    subst (λ x. AllZip SameRow (match_rows (clauses_in _ (more_of-TypedClause patterns a stmts at rest))) (match_rows x)) (sym is)
    (subst (λ x. AllZip SameRow (rows_with patterns.items (shown a stmts) ++ match_rows (clauses_in _ rest)) (rows_with x.items (out-TypedClause d).stmts.items ++ match_rows ls)) (sym ps)
    (zip-append SameRow (rows_with patterns.items (shown a stmts)) (rows_with patterns.items (out-TypedClause d).stmts.items) (match_rows (clauses_in _ rest)) (match_rows ls)
    (clause-zip patterns.items (shown a stmts) (out-TypedClause d).stmts.items (shown-zip a stmts (out-TypedClause d).stmts.items bare)) (clauses-zip rest ls are)))

-- ---- leaving loops

pub behind-same : {ts us : List Task} → SameTasks ts us → SameTasks (behind_loop ts) (behind_loop us)
behind-same none = none
behind-same (never s is) = none
behind-same (more (turns_so l m x) h) = h
behind-same (more (evals_so e f x) h) = behind-same h
behind-same (more (execs_so s u x) h) = behind-same h
behind-same (more (does_so op) h) = behind-same h
behind-same (more (gets_so slot s t) h) = behind-same h
behind-same (more (chooses_so a b) h) = behind-same h
behind-same (more (guards_so vs) h) = behind-same h

from-same : {ts us : List Task} → SameTasks ts us → SameTasks (from_loop ts) (from_loop us)
from-same none = none
from-same (never s is) = none
from-same (more (turns_so l m x) h) = more (turns_so l m x) h
from-same (more (evals_so e f x) h) = from-same h
from-same (more (execs_so s u x) h) = from-same h
from-same (more (does_so op) h) = from-same h
from-same (more (gets_so slot s t) h) = from-same h
from-same (more (chooses_so a b) h) = from-same h
from-same (more (guards_so vs) h) = from-same h

-- ---- every statement

abbrev pub shown_clauses : (shape : (Vec.the_former (Former.this {0}) Global).Shape) → Row_of-TypedClause (Former.arity (Vec.the_former (Former.this {0}) Global) shape) → List TypedClause
shown_clauses shape row = (shown-the_row-TypedClause-1 shape row).items

-- by the layer of the second
exec-by : (s u : TypedStmt) (ts us : List Task) (l : TypedStmt-F TypedStmt TypedClause) → out-TypedStmt u ≡ l → SameTasks (exec s ts) (exec_layer l us) → SameTasks (exec s ts) (exec u us)
exec-by s u ts us l o h = subst (λ x. SameTasks (exec s ts) (exec_layer x us)) (sym o) h

pub exec-same : (s u : TypedStmt) {ts us : List Task} → IsBareStmt s u → SameTasks ts us → SameTasks (exec s ts) (exec u us)
unfolding out-TypedStmt Carrier.out
exec-same (Set slot value at) u {ts} {us} (v, x, is) h = subst (λ w. SameTasks (exec (Set slot value at) ts) (exec w us)) (sym is) (more (evals_so value.value v.value x) (more (does_so _) h))
exec-same (Perform form operands at) u {ts} {us} (fs, z, is) h =
    subst (λ w. SameTasks (exec (Perform form operands at) ts) (exec w us)) (sym is) (evals-same operands.items fs.items z (dos-same (perform_operations form) h))
exec-same (Update t op value at) u {ts} {us} (r, v, x, y, is) h = subst (λ w. SameTasks (exec (Update t op value at) ts) (exec w us)) (sym is) (updates-same t r op value.value v.value x y h)
exec-same (If' condition a first b second at) u {ts} {us} (c, f, g, x, y, z, is) h =
    exec-by (If' condition a first b second at) u ts us (stmt_layer.If c f g at) (ap out-TypedStmt is ∙ outs-If c f g at)
    (more (evals_so condition.value c.value x) (more (chooses_so (block (shown a first) f.items (shown-zip a first f.items y)) (block (shown b second) g.items (shown-zip b second g.items z))) h))
exec-same (While' condition a body at) u {ts} {us} (c, b, x, y, is) h =
    exec-by (While' condition a body at) u ts us (stmt_layer.While c b at) (ap out-TypedStmt is ∙ outs-While c b at)
    (more (turns_so _ _ (as_long condition.value c.value (shown a body) b.items x (shown-zip a body b.items y))) h)
exec-same (Foreach' slot source a body at) u {ts} {us} (r, b, x, y, is) h =
    exec-by (Foreach' slot source a body at) u ts us (stmt_layer.Foreach slot r b at) (ap out-TypedStmt is ∙ outs-Foreach slot r b at)
    (begins-same slot source r (shown a body) b.items x (shown-zip a body b.items y) h)
exec-same (Match' own subject a clauses at) u {ts} {us} (e, cs, x, y, is) h =
    exec-by (Match' own subject a clauses at) u ts us (stmt_layer.Match own e cs at) (ap out-TypedStmt is ∙ outs-Match own e cs at)
    (more (evals_so subject.value e.value x) (more (does_so _)
    (subst (λ w. SameTasks (rows own (match_rows w) ts) (rows own (match_rows cs.items) us)) (sym (clauses-shown a clauses)) (rows-same own _ _ (clauses-zip clauses cs.items y) h))))
exec-same (Return None at) u {ts} {us} is h = subst (λ w. SameTasks (exec (Return None at) ts) (exec w us)) (sym is) (dos-same (Const constant.Nil ∷ ReturnOp ∷ []) h)
exec-same (Return (Some e) at) u {ts} {us} (v, x, is) h = subst (λ w. SameTasks (exec (Return (Some e) at) ts) (exec w us)) (sym is) (more (evals_so e.value v.value x) (more (does_so _) h))
exec-same (BlockStmt a stmts at) u {ts} {us} (b, x, is) h =
    exec-by (BlockStmt a stmts at) u ts us (stmt_layer.Block b at) (ap out-TypedStmt is ∙ outs-Block b at) (execs-same (shown a stmts) b.items (shown-zip a stmts b.items x) h)
exec-same (Break at) u {ts} {us} is h = subst (λ w. SameTasks (exec (Break at) ts) (exec w us)) (sym is) (behind-same h)
exec-same (Continue at) u {ts} {us} is h = subst (λ w. SameTasks (exec (Continue at) ts) (exec w us)) (sym is) (from-same h)

-- ---- ways to go on

round-same : {l m : Loop} {ts us : List Task} → SameLoop l m → SameTasks ts us → SameTasks (round l ts) (round m us)
round-same (as_long e f ss vs x z) h = execs-same ss vs z h
round-same (over_range Included slot own ss vs z) h =
    dos-same (Load own ∷ Store slot ∷ Load own ∷ Load (own + 1) ∷ Less ∷ Store (own + 2) ∷ Load (own + 2) ∷ [])
    (more (chooses_so (these (raises own)) (these [])) (execs-same ss vs z h))
round-same (over_range Excluded slot own ss vs z) h = dos-same (Load own ∷ Store slot ∷ raises own) (execs-same ss vs z h)
round-same (over_list slot own ss vs z) h = dos-same (Load own ∷ Load (own + 1) ∷ GetItem ∷ Store slot ∷ []) (execs-same ss vs z h)

pub branch-same : {a b : Branch} {ts us : List Task} → SameBranch a b → SameTasks ts us → SameTasks (branch a ts) (branch b us)
branch-same (whole e f x) h = more (evals_so e f x) h
branch-same (these ops) h = dos-same ops h
branch-same (kept slot s t ops) h = more (gets_so slot (Some s) (Some t)) (dos-same ops h)
branch-same (block ss vs z) h = execs-same ss vs z h
branch-same (round_of l m x) h = round-same x (more (turns_so l m x) h)
branch-same (rows_of own rs qs z) h = rows-same own rs qs z h

tries-same : {l m : Loop} {ts us : List Task} → SameLoop l m → SameTasks ts us → SameTasks (tries l ts) (tries m us)
tries-same (as_long e f ss vs x z) h = more (evals_so e f x) h
tries-same (over_range Included slot own ss vs z) h = more (does_so _) h
tries-same (over_range Excluded slot own ss vs z) h = dos-same (Load own ∷ Load (own + 1) ∷ Less ∷ []) h
tries-same (over_list slot own ss vs z) h = dos-same (raises (own + 1) ++ Load (own + 1) ∷ Load own ∷ Library ListLength None 1 ∷ Less ∷ []) h

pub turn-same : {l m : Loop} {ts us : List Task} → SameLoop l m → SameTasks ts us → SameTasks (turn l ts) (turn m us)
turn-same {l} {m} x h = more (does_so _) (tries-same x (more (chooses_so (round_of l m x) (these [])) h))
