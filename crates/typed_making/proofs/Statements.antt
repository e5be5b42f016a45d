-- What is added for a well-typed statement has a map, whose points are those of the way through the statement.
use Rattle.std.proofs.Common.{◌≡◌, ℕ, ◌+◌, ◌++◌, List, [], ◌∷◌, length, Option, Some, None, refl, sym, subst, arith, map, length-append}
use Rattle.std.specs.Prelude.{negsuc, slice_get}
use Rattle.std.specs.Global.{Global}
use Rattle.std.specs.formers.vec.Vec
use Rattle.type_model.specs.declared.atoms.AtomDef.{AtomDef}
use Rattle.operations.specs.declared.library.LibraryCall.TheVariants.{ListLength}
use Rattle.operations.specs.declared.operation.Constant.{Constant}
use Rattle.operations.specs.declared.operation.Constant.TheVariants as constant
use Rattle.operations.specs.declared.operation.Operation.{Operation}
use Rattle.operations.specs.declared.operation.Operation.TheVariants.{Const, Load, Store, LoadModule, StoreModule, Less, LessEqual, GetItem, Test, Library, Return as ReturnOp}
use Rattle.operations.specs.Rows.{AreBelow, Surroundings}
use Rattle.typed_tree.specs.declared.expr.TypedExpr.{TypedExpr}
use Rattle.typed_tree.specs.declared.form.Operator.{Operator}
use Rattle.typed_tree.specs.declared.stmt.RangeEnd.TheVariants.{Included, Excluded}
use Rattle.typed_tree.specs.declared.stmt.Source.{Source}
use Rattle.typed_tree.specs.declared.stmt.Source.TheVariants.{Range, List as ListSource}
use Rattle.typed_tree.specs.declared.stmt.TypedPattern.{TypedPattern}
use Rattle.typed_tree.specs.declared.stmt.TypedStmt.{TypedStmt, Set, Perform, Update, If', While', Foreach', Match', Return, Block' as BlockStmt, Break, Continue, out-TypedStmt, fold_out-TypedStmt, Row_of-TypedStmt, end_of-TypedStmt, more_of-TypedStmt, items-the_row-TypedStmt as stmts_in, items_shown-the_row-TypedStmt-0 as stmts-shown, Row_of-TypedClause, end_of-TypedClause, more_of-TypedClause, items-the_row-TypedClause as clauses_in, items_shown-the_row-TypedClause-1 as clauses-shown}
use Rattle.typed_tree.specs.declared.stmt.TypedClause.{TypedClause, fold_out-TypedClause}
use Rattle.typed_tree.specs.declared.stmt.TypedStmt.TheBlock.{shown-the_row-TypedStmt-0}
use Rattle.typed_tree.specs.declared.stmt.UpdateTarget.{UpdateTarget}
use Rattle.typed_tree.specs.declared.stmt.UpdateTarget.TheVariants as target
use denote.Hole.Carrier
use mathlib.Core.Former
use Rattle.held_operations.specs.Constructs.{operator_operations, perform_operations}
use Rattle.held_operations.specs.Operation.{singleton}
use Rattle.eval_model.specs.Expressions.{narrowed_to}
use Rattle.eval_model.specs.Loops.{raises}
use Rattle.eval_model.specs.Statements.{reads_member, sets_member}
use Rattle.eval_model.specs.Walk.{BeginsOver, ClausesOver, ExprOver, ExprsOver, LeavesOver, OpsOver, PatternOver, PatternsOver, PreparesOver, StmtOver, StmtsOver, TriesOver, UpdateOver, loop_of}
use Rattle.eval_model.specs.Ways.{Turns, Ways}
use Rattle.stack_code.specs.Commands.{Do, GoTo, GoToIfNot}
use Rattle.tree_promises.specs.Types.{DoesTypes, Stack, TakesTypes, type_ways}
use Rattle.lower_model.specs.Making.{ClauseMaking, Making, StmtMaking, add, all_do, begin_made, bind, clause_made, clause_step, clauses_in_turn, does, expr_made, exprs_made, fresh, gets, leave_made, loops, match_made, next_label, nothing_made, parts, pattern_made, patterns_made, prepare_made, stmt_made, stmt_step, stmts_in_turn, tries_made, update_made}
use Rattle.lower_model.proofs.Laying.{get-front}
use Rattle.typed_making.specs.Laws.{StatementsAreTyped}
use Rattle.typed_making.specs.Mapped.{InLoop, Leads, Mapped}
use Rattle.typed_making.specs.Wildcards.{AllMatchPlainly, ClausesMatchPlainly, EndWithWildcards, MatchesPlainly}
use Rattle.typed_making.proofs.Expressions.{expr-leads, made}
use Rattle.typed_making.proofs.Mapping.{below-itself, comes, in-more, mapped-then, then-add, then-bind, then-fresh, then-leads, wanted}
use Rattle.typed_making.proofs.Parting.{come-lead, does-lead, fork-lead, gets-lead, loops-lead, ops-lead, then-lead}

module _ (env : List AtomDef) (place : Surroundings) where
  abbrev w : Ways Stack
  w = type_ways env place

  module _ (labels : Option (Turns ℕ)) (loop : Option (Turns Stack)) where
    abbrev Lead : (Making → Making) → Stack → Stack → Type 0
    Lead F p q = Leads env place labels loop F p q

    exprs-lead : (es : List TypedExpr) (p q : Stack) → ExprsOver w es p q → Lead (exprs_made es) p q
    exprs-lead [] p q c = come-lead env place labels loop p q c
    exprs-lead (e ∷ es) p q (m, a, more) = then-lead env place labels loop (expr_made e) (exprs_made es) p m q (expr-leads env place labels loop e p m a) (exprs-lead es m q more)

    -- ---- assignments with an operator

    -- the value, the operator and the store
    stores-lead : (op : Operator) (value : TypedExpr) (store : Operation) (p n k q : Stack) → ExprOver w value p n → OpsOver w (operator_operations op) n k → DoesTypes env place store k q →
        Lead (λ m. does store (all_do (operator_operations op) (expr_made value m))) p q
    stores-lead op value store p n k q a ops o =
        then-lead env place labels loop (expr_made value) (λ m. does store (all_do (operator_operations op) m)) p n q (expr-leads env place labels loop value p n a)
        (then-lead env place labels loop (all_do (operator_operations op)) (does store) n k q (ops-lead env place labels loop (operator_operations op) n k ops) (does-lead env place labels loop store k q o))

    update-lead : (t : UpdateTarget) (op : Operator) (value : TypedExpr) (p q : Stack) → UpdateOver w t op value p q → Lead (update_made t op value) p q
    update-lead (target.Local slot narrowed type) op value p q (m, n, k, get, a, ops, o) =
        then-lead env place labels loop (gets slot (narrowed_to narrowed type)) (λ m. does (Store slot) (all_do (operator_operations op) (expr_made value m))) p m q
        (gets-lead env place labels loop slot (narrowed_to narrowed type) p m get) (stores-lead op value (Store slot) m n k q a ops o)
    update-lead (target.Variable x) op value p q (m, n, k, load, a, ops, o) =
        then-lead env place labels loop (does (LoadModule x)) (λ m. does (StoreModule x) (all_do (operator_operations op) (expr_made value m))) p m q
        (does-lead env place labels loop (LoadModule x) p m load) (stores-lead op value (StoreModule x) m n k q a ops o)
    update-lead (target.Member own how container key type) op value p q (a, b, c, d, m, n, k, x, s, y, t, reads, v, ops, o) =
        then-lead env place labels loop (expr_made container.value)
        (λ m. does (sets_member how) (all_do (operator_operations op) (expr_made value (all_do (Load own ∷ Load (own + 1) ∷ reads_member how own) (does (Store (own + 1)) (expr_made key.value (does (Store own) m))))))) p a q (expr-leads env place labels loop container.value p a x)
        (then-lead env place labels loop (does (Store own)) (λ m. does (sets_member how) (all_do (operator_operations op) (expr_made value (all_do (Load own ∷ Load (own + 1) ∷ reads_member how own) (does (Store (own + 1)) (expr_made key.value m)))))) a b q (does-lead env place labels loop (Store own) a b s)
        (then-lead env place labels loop (expr_made key.value) (λ m. does (sets_member how) (all_do (operator_operations op) (expr_made value (all_do (Load own ∷ Load (own + 1) ∷ reads_member how own) (does (Store (own + 1)) m))))) b c q (expr-leads env place labels loop key.value b c y)
        (then-lead env place labels loop (does (Store (own + 1))) (λ m. does (sets_member how) (all_do (operator_operations op) (expr_made value (all_do (Load own ∷ Load (own + 1) ∷ reads_member how own) m)))) c d q (does-lead env place labels loop (Store (own + 1)) c d t)
        (then-lead env place labels loop (all_do (Load own ∷ Load (own + 1) ∷ reads_member how own)) (λ m. does (sets_member how) (all_do (operator_operations op) (expr_made value m))) d m q
        (ops-lead env place labels loop (Load own ∷ Load (own + 1) ∷ reads_member how own) d m reads) (stores-lead op value (sets_member how) m n k q v ops o)))))

    -- ---- loops

    begin-lead : (source : Source) (p q : Stack) → BeginsOver w source p q → Lead (begin_made source) p q
    begin-lead (Range own Included from to) p q (a, b, c, d, x, s, y, t, ops) =
        then-lead env place labels loop (expr_made from.value) (λ m. all_do (Load own ∷ Load (own + 1) ∷ LessEqual ∷ Store (own + 2) ∷ []) (does (Store (own + 1)) (expr_made to.value (does (Store own) m)))) p a q (expr-leads env place labels loop from.value p a x)
        (then-lead env place labels loop (does (Store own)) (λ m. all_do (Load own ∷ Load (own + 1) ∷ LessEqual ∷ Store (own + 2) ∷ []) (does (Store (own + 1)) (expr_made to.value m))) a b q (does-lead env place labels loop (Store own) a b s)
        (then-lead env place labels loop (expr_made to.value) (λ m. all_do (Load own ∷ Load (own + 1) ∷ LessEqual ∷ Store (own + 2) ∷ []) (does (Store (own + 1)) m)) b c q (expr-leads env place labels loop to.value b c y)
        (then-lead env place labels loop (does (Store (own + 1))) (all_do (Load own ∷ Load (own + 1) ∷ LessEqual ∷ Store (own + 2) ∷ [])) c d q (does-lead env place labels loop (Store (own + 1)) c d t)
        (ops-lead env place labels loop (Load own ∷ Load (own + 1) ∷ LessEqual ∷ Store (own + 2) ∷ []) d q ops))))
    begin-lead (Range own Excluded from to) p q (a, b, c, x, s, y, t) =
        then-lead env place labels loop (expr_made from.value) (λ m. does (Store (own + 1)) (expr_made to.value (does (Store own) m))) p a q (expr-leads env place labels loop from.value p a x)
        (then-lead env place labels loop (does (Store own)) (λ m. does (Store (own + 1)) (expr_made to.value m)) a b q (does-lead env place labels loop (Store own) a b s)
        (then-lead env place labels loop (expr_made to.value) (does (Store (own + 1))) b c q (expr-leads env place labels loop to.value b c y) (does-lead env place labels loop (Store (own + 1)) c q t)))
    begin-lead (ListSource own list) p q (a, x, ops) =
        then-lead env place labels loop (expr_made list.value) (all_do (Store own ∷ Const (constant.Int (negsuc 0)) ∷ Store (own + 1) ∷ [])) p a q (expr-leads env place labels loop list.value p a x)
        (ops-lead env place labels loop (Store own ∷ Const (constant.Int (negsuc 0)) ∷ Store (own + 1) ∷ []) a q ops)

    tries-lead : (slot : ℕ) (source : Source) (p q : Stack) → TriesOver w (loop_of w slot source) p q → Lead (tries_made source) p q
    tries-lead slot (Range own Included from to) p q ops = ops-lead env place labels loop (Load (own + 2) ∷ []) p q ops
    tries-lead slot (Range own Excluded from to) p q ops = ops-lead env place labels loop (Load own ∷ Load (own + 1) ∷ Less ∷ []) p q ops
    tries-lead slot (ListSource own list) p q ops = ops-lead env place labels loop (raises (own + 1) ++ Load (own + 1) ∷ Load own ∷ Library ListLength None 1 ∷ Less ∷ []) p q ops

    prepare-lead : (slot : ℕ) (source : Source) (p q : Stack) → PreparesOver w (loop_of w slot source) p q → Lead (prepare_made slot source) p q
    prepare-lead slot (Range own Included from to) p q (m, ops, fork) =
        then-lead env place labels loop (all_do (Load own ∷ Store slot ∷ Load own ∷ Load (own + 1) ∷ Less ∷ Store (own + 2) ∷ Load (own + 2) ∷ [])) (parts (all_do (raises own)) (all_do [])) p m q
        (ops-lead env place labels loop (Load own ∷ Store slot ∷ Load own ∷ Load (own + 1) ∷ Less ∷ Store (own + 2) ∷ Load (own + 2) ∷ []) p m ops)
        (fork-lead env place labels loop (all_do (raises own)) (all_do []) m q (λ x y h. ops-lead env place labels loop (raises own) x y h) (λ x y h. ops-lead env place labels loop [] x y h) fork)
    prepare-lead slot (Range own Excluded from to) p q ops = ops-lead env place labels loop (Load own ∷ Store slot ∷ raises own) p q ops
    prepare-lead slot (ListSource own list) p q ops = ops-lead env place labels loop (Load own ∷ Load (own + 1) ∷ GetItem ∷ Store slot ∷ []) p q ops

    -- ---- ways out of a loop

    leave-lead : (label : Turns ℕ → ℕ) (point : Turns Stack → Stack) → ((wants : List Stack) (l : Turns ℕ) (t : Turns Stack) → InLoop env place wants (Some l) (Some t) → slice_get wants (label l) ≡ Some (point t)) → (p q : Stack) → LeavesOver w loop point p →
        Lead (leave_made labels label) p q
    leave-lead label point stands p q out = by labels loop out
      where
        by : (x : Option (Turns ℕ)) (l : Option (Turns Stack)) → LeavesOver w l point p → Leads env place x l (leave_made x label) p q
        by (Some x) (Some t) c = λ m old many inside. (old, then-add env place (comes env place m old p p many (below-itself env place p)) (GoTo (label x)) q (point t, stands old x t inside, c))
        by (Some x) None c = absurd c
        by None (Some t) c = λ m old many inside. absurd inside
        by None None c = absurd c

    -- ---- matches

    -- where a label is to have these types
    abbrev LeadTo : ℕ → Stack → (Making → Making) → Stack → Stack → Type 0
    LeadTo l r F p q = (m : Making) (old : List Stack) → length m.labels ≡ length old → InLoop env place old labels loop → slice_get old l ≡ Some r → (wants : List Stack) × Mapped env place m (F m) old wants p q

    to-then : (l : ℕ) (r : Stack) (F G : Making → Making) (p q s : Stack) → LeadTo l r F p q → LeadTo l r G q s → LeadTo l r (λ m. G (F m)) p s
    to-then l r F G p q s f g m old many inside stands =
        let (wants, a) = f m old many inside stands in
        let (more, b) = g (F m) wants a.many (in-more env place old wants a.grown labels loop inside) (a.grown l r stands) in
        (more, mapped-then env place a b)

    pattern-lead : (own body : ℕ) (c : Constant) (b p m a n : Stack) → OpsOver w (Load own ∷ Test (singleton c) ∷ []) p m → TakesTypes env place m a → AreBelow env a b → TakesTypes env place m n → LeadTo body b (pattern_made own body (Some c)) p n
    pattern-lead own body c b p m a n ops holds out fails base old many inside stands =
        let l = next_label base in
        let s0 = comes env place base old p p many (below-itself env place p) in
        let v = wanted env place s0 n in
        let s1 = then-fresh env place s0 n in
        let (more, grown, s2) = then-leads env place s1 labels loop (in-more env place old (old ++ n ∷ []) s1.grown labels loop inside) (all_do (Load own ∷ Test (singleton c) ∷ [])) m (ops-lead env place labels loop (Load own ∷ Test (singleton c) ∷ []) p m ops) in
        let s3 = then-add env place {wants = more} s2 (GoToIfNot l) a (holds, (n, grown l n v, fails)) in
        let s4 = then-add env place {wants = more} s3 (GoTo body) n (b, s3.grown body b stands, out) in
        (more, then-bind env place {wants = more} s4 l n (omega arith) (grown l n v) (below-itself env place n))

    patterns-lead : (own body : ℕ) (ts : List TypedPattern) (b p n : Stack) → PatternsOver w own ts b p n → EndWithWildcards ts → LeadTo body b (patterns_made own body ts) p n
    patterns-lead own body [] b p n c last = λ m old many inside stands. (old, comes env place m old p n many c)
    patterns-lead own body (t ∷ ts) b p n h (wild, last) = by t.value h wild (λ k more. patterns-lead own body ts b k n more last)
      where
        by : (value : Option Constant) → PatternOver w own value (λ k. PatternsOver w own ts b k n) b p → (value ≡ None → ts ≡ []) → ((k : Stack) → PatternsOver w own ts b k n → LeadTo body b (patterns_made own body ts) k n) →
            LeadTo body b (λ m. patterns_made own body ts (pattern_made own body value m)) p n
        by (Some c) (m, a, k, ops, holds, out, fails, more) wild behind =
            to-then body b (pattern_made own body (Some c)) (patterns_made own body ts) p k n (pattern-lead own body c b p m a k ops holds out fails) (behind k more)
        by None out wild behind =
            subst (λ us. LeadTo body b (λ m. patterns_made own body us (pattern_made own body None m)) p n) (sym (wild refl))
            (λ m old many inside stands. (old, then-add env place (comes env place m old p p many (below-itself env place p)) (GoTo body) n (b, stands, out)))

    -- a clause: its patterns, its body, and a jump to the end of the match
    abbrev clause_of : ℕ → List TypedPattern → ℕ → (Making → Making) → Making → Making
    clause_of own ts end Body m =
        let body = next_label m in
        let next = next_label (fresh m) in
        bind next (add (GoTo end) (Body (bind body (add (GoTo next) (patterns_made own body ts (fresh (fresh m)))))))

    clause-lead : (own : ℕ) (ts : List TypedPattern) (end : ℕ) (Body : Making → Making) (p n b m q : Stack) → PatternsOver w own ts b p n → EndWithWildcards ts → Lead Body b m → AreBelow env m q → LeadTo end q (clause_of own ts end Body) p n
    clause-lead own ts end Body p n b m q ps last block out base old many inside stands =
        let body = next_label base in
        let next = next_label (fresh base) in
        let s0 = comes env place base old p p many (below-itself env place p) in
        let v1 = wanted env place s0 b in
        let s1 = then-fresh env place s0 b in
        let v2 = wanted env place s1 n in
        let s2 = then-fresh env place s1 n in
        let w1 = get-front (old ++ b ∷ []) (n ∷ []) body b v1 in
        let (more, tested) = patterns-lead own body ts b p n ps last (fresh (fresh base)) ((old ++ b ∷ []) ++ n ∷ []) s2.many (in-more env place old ((old ++ b ∷ []) ++ n ∷ []) s2.grown labels loop inside) w1 in
        let s3 = mapped-then env place s2 tested in
        let s4 = then-add env place {wants = more} s3 (GoTo next) b (n, tested.grown next n v2, below-itself env place n) in
        let s5 = then-bind env place {wants = more} s4 body b (omega arith) (tested.grown body b w1) (below-itself env place b) in
        let (again, grown, s6) = then-leads env place s5 labels loop (in-more env place old more s5.grown labels loop inside) Body m block in
        let s7 = then-add env place {wants = again} s6 (GoTo end) n (q, s6.grown end q stands, out) in
        (again, then-bind env place {wants = again} s7 next n (omega (arith, length-append base.labels (None ∷ []))) (grown next n (tested.grown next n v2)) (below-itself env place n))

    match-lead : (own : ℕ) (subject : TypedExpr) (Clauses : ℕ → Making → Making) (p m n q : Stack) → ExprOver w subject p m → DoesTypes env place (Store own) m n → ((end : ℕ) → LeadTo end q (Clauses end) n q) → Lead (match_made own (expr_made subject) Clauses) p q
    match-lead own subject Clauses p m n q x store clauses base old many inside =
        let end = next_label base in
        let s0 = comes env place base old p p many (below-itself env place p) in
        let v = wanted env place s0 q in
        let s1 = then-fresh env place s0 q in
        let (more, grown, s2) = then-leads env place s1 labels loop (in-more env place old (old ++ q ∷ []) s1.grown labels loop inside) (expr_made subject) m (expr-leads env place labels loop subject p m x) in
        let s3 = then-add env place {wants = more} s2 (Do (Store own)) n store in
        let (last, cs) = clauses end (does (Store own) (expr_made subject (fresh base))) more s3.many (in-more env place old more s3.grown labels loop inside) (grown end q v) in
        let s4 = mapped-then env place s3 cs in
        (last, then-bind env place {wants = last} s4 end q (omega arith) (cs.grown end q (grown end q v)) (below-itself env place q))

  -- ---- statements

  abbrev Loops : Type 0
  Loops = Option (Turns ℕ)

  abbrev made_of : List TypedStmt → Loops → Making → Making
  made_of ss labels = stmts_in_turn (map stmt_made ss) labels

  abbrev shown : (shape : (Vec.the_former (Former.this {0}) Global).Shape) → Row_of-TypedStmt (Former.arity (Vec.the_former (Former.this {0}) Global) shape) → List TypedStmt
  shown shape row = (shown-the_row-TypedStmt-0 shape row).items

  shown-lead : (shape : _) (row : _) (labels : Loops) (loop : Option (Turns Stack)) (p q : Stack) → Leads env place labels loop (made_of (stmts_in _ row) labels) p q → Leads env place labels loop (made_of (shown shape row) labels) p q
  shown-lead shape row labels loop p q h = subst (λ ss. Leads env place labels loop (made_of ss labels) p q) (sym (stmts-shown shape row)) h

  mutual
    unfolding out-TypedStmt Carrier.out

    pub stmt-leads : (s : TypedStmt) (labels : Loops) (loop : Option (Turns Stack)) (p q : Stack) → StmtOver w s loop p q → MatchesPlainly s → Leads env place labels loop (stmt_made s labels) p q
    stmt-leads (Set slot value at) labels loop p q (m, a, o) plain =
        made env place labels loop (λ i. fold_out-TypedStmt StmtMaking ClauseMaking stmt_step clause_step (Set slot value at) i labels)
        (then-lead env place labels loop (expr_made value.value) (does (Store slot)) p m q (expr-leads env place labels loop value.value p m a) (does-lead env place labels loop (Store slot) m q o))
    stmt-leads (Perform form operands at) labels loop p q (m, a, ops) plain =
        made env place labels loop (λ i. fold_out-TypedStmt StmtMaking ClauseMaking stmt_step clause_step (Perform form operands at) i labels)
        (then-lead env place labels loop (exprs_made operands.items) (all_do (perform_operations form)) p m q (exprs-lead labels loop operands.items p m a) (ops-lead env place labels loop (perform_operations form) m q ops))
    stmt-leads (Update t op value at) labels loop p q h plain =
        made env place labels loop (λ i. fold_out-TypedStmt StmtMaking ClauseMaking stmt_step clause_step (Update t op value at) i labels) (update-lead labels loop t op value.value p q h)
    stmt-leads (Return None at) labels loop p q ops plain =
        made env place labels loop (λ i. fold_out-TypedStmt StmtMaking ClauseMaking stmt_step clause_step (Return None at) i labels) (ops-lead env place labels loop (Const constant.Nil ∷ ReturnOp ∷ []) p q ops)
    stmt-leads (Return (Some e) at) labels loop p q (m, a, o) plain =
        made env place labels loop (λ i. fold_out-TypedStmt StmtMaking ClauseMaking stmt_step clause_step (Return (Some e) at) i labels)
        (then-lead env place labels loop (expr_made e.value) (does ReturnOp) p m q (expr-leads env place labels loop e.value p m a) (does-lead env place labels loop ReturnOp m q o))
    stmt-leads (Break at) labels loop p q (out, stops) plain =
        made env place labels loop (λ i. fold_out-TypedStmt StmtMaking ClauseMaking stmt_step clause_step (Break at) i labels) (leave-lead labels loop (λ l. l.exit) (λ l. l.exit) (λ wants l t inside. inside.1) p q out)
    stmt-leads (Continue at) labels loop p q (out, stops) plain =
        made env place labels loop (λ i. fold_out-TypedStmt StmtMaking ClauseMaking stmt_step clause_step (Continue at) i labels) (leave-lead labels loop (λ l. l.head) (λ l. l.head) (λ wants l t inside. inside.0) p q out)
    stmt-leads (BlockStmt shape stmts at) labels loop p q h plain =
        made env place labels loop (λ i. fold_out-TypedStmt StmtMaking ClauseMaking stmt_step clause_step (BlockStmt shape stmts at) i labels) (shown-lead shape stmts labels loop p q (row-leads stmts labels loop p q h plain))
    stmt-leads (If' condition shape first shape' second at) labels loop p q (m, a, fork) plain =
        made env place labels loop (λ i. fold_out-TypedStmt StmtMaking ClauseMaking stmt_step clause_step (If' condition shape first shape' second at) i labels)
        (then-lead env place labels loop (expr_made condition.value) (parts (made_of (shown shape first) labels) (made_of (shown shape' second) labels)) p m q (expr-leads env place labels loop condition.value p m a)
        (fork-lead env place labels loop (made_of (shown shape first) labels) (made_of (shown shape' second) labels) m q (λ x y h. shown-lead shape first labels loop x y (row-leads first labels loop x y h plain.0))
        (λ x y h. shown-lead shape' second labels loop x y (row-leads second labels loop x y h plain.1)) fork))
    stmt-leads (While' condition shape body at) labels loop p q (l, begins, (t, m, a, b, n, k, tick, tries, holds, fails, out, prepares, block, back), ends) plain =
        made env place labels loop (λ i. fold_out-TypedStmt StmtMaking ClauseMaking stmt_step clause_step (While' condition shape body at) i labels)
        (loops-lead env place labels loop (expr_made condition.value) nothing_made (λ x. made_of (shown shape body) (Some x)) p q l t m a b n k begins tick (expr-leads env place labels loop condition.value t m tries) holds fails out (come-lead env place labels loop a n prepares)
        (λ x. shown-lead shape body (Some x) (Some l) n k (row-leads body (Some x) (Some l) n k block plain)) back ends)
    stmt-leads (Foreach' slot source shape body at) labels loop p q (r, l, x, begins, (t, m, a, b, n, k, tick, tries, holds, fails, out, prepares, block, back), ends) plain =
        made env place labels loop (λ i. fold_out-TypedStmt StmtMaking ClauseMaking stmt_step clause_step (Foreach' slot source shape body at) i labels)
        (then-lead env place labels loop (begin_made source) (loops (tries_made source) (prepare_made slot source) (λ x. made_of (shown shape body) (Some x))) p r q (begin-lead labels loop source p r x)
        (loops-lead env place labels loop (tries_made source) (prepare_made slot source) (λ x. made_of (shown shape body) (Some x)) r q l t m a b n k begins tick (tries-lead labels loop slot source t m tries) holds fails out (prepare-lead labels loop slot source a n prepares)
        (λ x. shown-lead shape body (Some x) (Some l) n k (row-leads body (Some x) (Some l) n k block plain)) back ends))
    stmt-leads (Match' own subject shape clauses at) labels loop p q (m, n, x, store, cs) plain =
        made env place labels loop (λ i. fold_out-TypedStmt StmtMaking ClauseMaking stmt_step clause_step (Match' own subject shape clauses at) i labels)
        (subst (λ us. Leads env place labels loop (match_made own (expr_made subject.value) (λ end. clauses_in_turn (map clause_made us) own end labels)) p q) (sym (clauses-shown shape clauses))
        (match-lead labels loop own subject.value (λ end. clauses_in_turn (map clause_made (clauses_in _ clauses)) own end labels) p m n q x store (λ end. clauses-lead own clauses end labels loop n q cs plain)))

    pub row-leads : {n : _} (row : Row_of-TypedStmt n) (labels : Loops) (loop : Option (Turns Stack)) (p q : Stack) → StmtsOver w row loop p q → AllMatchPlainly row → Leads env place labels loop (made_of (stmts_in _ row) labels) p q
    row-leads end_of-TypedStmt labels loop p q c plain = come-lead env place labels loop p q c
    row-leads (more_of-TypedStmt s rest) labels loop p q (m, a, more) plain =
        then-lead env place labels loop (stmt_made s labels) (made_of (stmts_in _ rest) labels) p m q (stmt-leads s labels loop p m a plain.0) (row-leads rest labels loop m q more plain.1)

    clauses-lead : {n : _} (own : ℕ) (row : Row_of-TypedClause n) (end : ℕ) (labels : Loops) (loop : Option (Turns Stack)) (p q : Stack) → ClausesOver w own row loop p q → ClausesMatchPlainly row →
        LeadTo labels loop end q (clauses_in_turn (map clause_made (clauses_in _ row)) own end labels) p q
    clauses-lead own end_of-TypedClause end labels loop p q c plain = λ m old many inside stands. (old, comes env place m old p q many c)
    clauses-lead own (more_of-TypedClause patterns shape stmts at rest) end labels loop p q (n, b, m, ps, block, out, more) (wild, all, plain) =
        let c : TypedClause = record { patterns = patterns; stmts = shown-the_row-TypedStmt-0 shape stmts; at = at } in
        to-then labels loop end q (clause_made c own end labels) (clauses_in_turn (map clause_made (clauses_in _ rest)) own end labels) p n q
        (subst (λ F. LeadTo labels loop end q F p n) (sym (λ i. fold_out-TypedClause StmtMaking ClauseMaking stmt_step clause_step c i own end labels))
        (clause-lead labels loop own patterns.items end (made_of (shown shape stmts) labels) p n b m q ps wild (shown-lead shape stmts labels loop b m (row-leads stmts labels loop b m block all)) out))
        (clauses-lead own rest end labels loop n q more plain)

pub statements-are-typed : StatementsAreTyped
statements-are-typed env place labels loop s p q way plain = stmt-leads env place s labels loop p q way plain
