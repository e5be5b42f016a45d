-- What is added for a statement that is typed as it is written has the maps of the statement.
use Rattle.std.proofs.Common.{◌≡◌, ℕ, ◌+◌, ◌++◌, List, [], ◌∷◌, length, Option, Some, None, Bool, true, false, refl, sym, subst, arith, map, length-append}
use Rattle.std.specs.Prelude.{negsuc, slice_get}
use Rattle.std.specs.Global.{Global}
use Rattle.std.specs.formers.vec.Vec
use Rattle.type_model.specs.declared.atoms.AtomDef.{AtomDef}
use Rattle.type_model.specs.declared.basic.SemType.{SemType}
use Rattle.operations.specs.declared.operation.Constant.{Constant}
use Rattle.operations.specs.declared.operation.Constant.TheVariants as constant
use Rattle.operations.specs.declared.operation.Operation.{Operation}
use Rattle.operations.specs.declared.operation.Operation.TheVariants.{Const, Load, Store, LoadModule, StoreModule, Less, LessEqual, GetItem, Test, Return as ReturnOp}
use Rattle.operations.specs.Rows.{Surroundings}
use Rattle.typed_tree.specs.declared.expr.TypedExpr.{TypedExpr}
use Rattle.typed_tree.specs.declared.form.Operator.{Operator}
use Rattle.typed_tree.specs.declared.stmt.RangeEnd.TheVariants.{Included, Excluded}
use Rattle.typed_tree.specs.declared.stmt.Source.{Source}
use Rattle.typed_tree.specs.declared.stmt.Source.TheVariants.{Range, List as ListSource}
use Rattle.typed_tree.specs.declared.stmt.TypedPattern.{TypedPattern}
use Rattle.typed_tree.specs.declared.stmt.TypedStmt.{TypedStmt, Set, Perform, Update, If', While', Foreach', Match', Return, Block' as BlockStmt, Break, Continue, out-TypedStmt, fold_out-TypedStmt, Row_of-TypedStmt, end_of-TypedStmt, more_of-TypedStmt, items-the_row-TypedStmt as stmts_in, items_shown-the_row-TypedStmt-0 as stmts-shown, Row_of-TypedClause, end_of-TypedClause, more_of-TypedClause, items-the_row-TypedClause as clauses_in, items_shown-the_row-TypedClause-1 as clauses-shown}
use Rattle.typed_tree.specs.declared.stmt.TypedClause.{TypedClause, fold_out-TypedClause}
use Rattle.typed_tree.specs.declared.stmt.TypedStmt.TheBlock.{shown-the_row-TypedStmt-0}
use Rattle.typed_tree.specs.declared.stmt.UpdateTarget.{UpdateTarget}
use Rattle.typed_tree.specs.declared.stmt.UpdateTarget.TheVariants as target
use denote.Hole.Carrier
use mathlib.Core.Former
use Rattle.typed_tree.specs.SharedTypes.{sem_of}
use Rattle.held_operations.specs.Constructs.{operator_operations, perform_operations}
use Rattle.held_operations.specs.Operation.{singleton}
use Rattle.eval_model.specs.Expressions.{narrowed_to, nil_type}
use Rattle.eval_model.specs.Loops.{raises}
use Rattle.eval_model.specs.Statements.{reads_member, sets_member}
use Rattle.eval_model.specs.Ways.{Turns}
use Rattle.stack_code.specs.Commands.{GoTo, GoToIfNot}
use Rattle.tree_promises.specs.Types.{DoesTypes, Stack}
use Rattle.lower_model.specs.Making.{ClauseMaking, Making, StmtMaking, add, all_do, begin_made, bind, clause_made, clause_step, clauses_in_turn, does, expr_made, exprs_made, fresh, gets, leave_made, loops, match_made, next_label, nothing_made, parts, pattern_made, patterns_made, prepare_made, stmt_made, stmt_step, stmts_in_turn, tries_made, update_made}
use Rattle.lower_model.proofs.Laying.{get-front}
use Rattle.typed_making.specs.Mapped.{InLoop}
use Rattle.typed_making.proofs.Mapping.{below-itself, in-more, wanted}
use Rattle.map_model.specs.Laws.{StatementsAreMapped, turned}
use Rattle.map_model.specs.Maps.{Marks, above, along, begin_maps, clauses_maps, each, expr_maps, exprs_maps, gets_maps, loop_maps, mark, next_points, over, own_type, own_types, pattern_maps, patterns_maps, prepare_maps, stmt_maps, stmts_maps, stores_maps, taken_maps, tried_type, tries_points, update_maps}
use Rattle.map_model.specs.Marked.{LeadsBy, Marked}
use Rattle.map_model.specs.Points.{PlainTypes, member_points, operator_points, operator_type, raise_points, slot_type, variable_type}
use Rattle.map_model.specs.Written.{BeginsWritten, ClausesWritten, ExprWritten, ExprsWritten, InSome, PatternsWritten, PatternWritten, PreparesWritten, StmtWritten, StmtsWritten, StoresWritten, TriesWritten, UpdateWritten, tries_operations}
use Rattle.map_model.proofs.Expressions.{expr-leads, made, runs-over}
use Rattle.map_model.proofs.Marking.{by-add, by-bind, by-comes, by-fresh, by-leads, by-then}
use Rattle.map_model.proofs.Meeting.{come-lead, does-lead, gets-lead, loops-lead, parts-lead, runs-lead, then-lead}

module _ (plain : PlainTypes) (env : List AtomDef) (place : Surroundings) where
  module _ (labels : Option (Turns ℕ)) (loop : Option (Turns Stack)) where
    abbrev Lead : (Making → Making) → Marks → Stack → Stack → Type 0
    Lead F f p q = LeadsBy env place labels loop F f p q

    abbrev Maps : TypedExpr → Stack → Marks
    Maps e p = expr_maps plain place e p

    exprs-lead : (es : List TypedExpr) (p : Stack) → ExprsWritten plain env place es p → Lead (exprs_made es) (exprs_maps plain place es p) p (above p (own_types es))
    exprs-lead [] p h = come-lead plain env place labels loop p p (below-itself env place p)
    exprs-lead (e ∷ es) p (a, more) =
        let m : Stack = p ++ own_type e ∷ [] in
        then-lead plain env place labels loop (expr_made e) (exprs_made es) (Maps e p) (exprs_maps plain place es m) p m (above m (own_types es)) (expr-leads plain env place labels loop e p a) (exprs-lead es m more)

    -- an expression, and an operation that takes what it gives
    taken-lead : (e : TypedExpr) (op : Operation) (p : Stack) → ExprWritten plain env place e p → DoesTypes env place op (p ++ own_type e ∷ []) p → Lead (λ m. does op (expr_made e m)) (taken_maps plain place e p) p p
    taken-lead e op p a d = then-lead plain env place labels loop (expr_made e) (does op) (Maps e p) (mark (p ++ own_type e ∷ [])) p (p ++ own_type e ∷ []) p (expr-leads plain env place labels loop e p a) (does-lead plain env place labels loop op (p ++ own_type e ∷ []) p d)

    -- ---- assignments with an operator

    -- the value, the operator and the store
    stores-lead : (t : SemType) (op : Operator) (value : TypedExpr) (store : Operation) (p q : Stack) → StoresWritten plain env place t op value store p q → Lead (λ m. does store (all_do (operator_operations op) (expr_made value m))) (stores_maps plain place t op value p) (p ++ t ∷ []) q
    stores-lead t op value store p q (a, r, d) =
        let m : Stack = p ++ t ∷ [] in
        let n : Stack = p ++ operator_type plain op ∷ [] in
        let points : List Stack = each p (operator_points plain op (t ∷ own_type value ∷ [])) in
        then-lead plain env place labels loop (λ m. all_do (operator_operations op) (expr_made value m)) (does store) (λ k. along points (Maps value m k)) (mark n) m n q
        (runs-over plain env place labels loop (operator_operations op) points m (m ++ own_type value ∷ []) (above p (t ∷ own_type value ∷ [])) n (expr_made value) (Maps value m) (expr-leads plain env place labels loop value m a) refl r)
        (does-lead plain env place labels loop store n q d)

    update-lead : (t : UpdateTarget) (op : Operator) (value : TypedExpr) (p : Stack) → UpdateWritten plain env place t op value p → Lead (update_made t op value) (update_maps plain place t op value p) p p
    update-lead (target.Local slot narrowed type) op value p (get, h) =
        then-lead plain env place labels loop (gets slot (narrowed_to narrowed type)) (λ m. does (Store slot) (all_do (operator_operations op) (expr_made value m))) (gets_maps plain place slot (narrowed_to narrowed type) p) (stores_maps plain place (sem_of type) op value p) p (p ++ sem_of type ∷ []) p
        (gets-lead plain env place labels loop slot (narrowed_to narrowed type) p (p ++ sem_of type ∷ []) get) (stores-lead (sem_of type) op value (Store slot) p p h)
    update-lead (target.Variable x) op value p (load, h) =
        let m : Stack = p ++ variable_type place x ∷ [] in
        then-lead plain env place labels loop (does (LoadModule x)) (λ m. does (StoreModule x) (all_do (operator_operations op) (expr_made value m))) (mark p) (stores_maps plain place (variable_type place x) op value p) p m p
        (does-lead plain env place labels loop (LoadModule x) p m load) (stores-lead (variable_type place x) op value (StoreModule x) p p h)
    update-lead (target.Member own how container key type) op value p (a, s, b, t, reads, h) =
        let kept : Stack = above p (slot_type place own ∷ slot_type place (own + 1) ∷ []) in
        let n : Stack = kept ++ sem_of type ∷ [] in
        let points : List Stack = each p (member_points plain place how own) in
        then-lead plain env place labels loop (λ m. does (Store own) (expr_made container.value m)) (λ m. does (sets_member how) (all_do (operator_operations op) (expr_made value (all_do (Load own ∷ Load (own + 1) ∷ reads_member how own) (does (Store (own + 1)) (expr_made key.value m))))))
        (taken_maps plain place container.value p) (λ k. stores_maps plain place (sem_of type) op value kept (along points (taken_maps plain place key.value p k))) p p p (taken-lead container.value (Store own) p a s)
        (then-lead plain env place labels loop (λ m. does (Store (own + 1)) (expr_made key.value m)) (λ m. does (sets_member how) (all_do (operator_operations op) (expr_made value (all_do (Load own ∷ Load (own + 1) ∷ reads_member how own) m))))
        (taken_maps plain place key.value p) (λ k. stores_maps plain place (sem_of type) op value kept (along points k)) p p p (taken-lead key.value (Store (own + 1)) p b t)
        (then-lead plain env place labels loop (all_do (Load own ∷ Load (own + 1) ∷ reads_member how own)) (λ m. does (sets_member how) (all_do (operator_operations op) (expr_made value m))) (along points) (stores_maps plain place (sem_of type) op value kept) p n p
        (runs-lead plain env place labels loop (Load own ∷ Load (own + 1) ∷ reads_member how own) points p n reads) (stores-lead (sem_of type) op value (sets_member how) kept p h)))

    -- ---- loops

    begin-lead : (source : Source) (p : Stack) → BeginsWritten plain env place source p → Lead (begin_made source) (begin_maps plain place source p) p p
    begin-lead (Range own Included from to) p (a, s, b, t, r) =
        let ops : List Operation = Load own ∷ Load (own + 1) ∷ LessEqual ∷ Store (own + 2) ∷ [] in
        let points : List Stack = each p ([] ∷ (slot_type place own ∷ []) ∷ (slot_type place own ∷ slot_type place (own + 1) ∷ []) ∷ (plain.boolean ∷ []) ∷ []) in
        then-lead plain env place labels loop (λ m. does (Store own) (expr_made from.value m)) (λ m. all_do ops (does (Store (own + 1)) (expr_made to.value m))) (taken_maps plain place from.value p) (λ k. along points (taken_maps plain place to.value p k)) p p p (taken-lead from.value (Store own) p a s)
        (runs-over plain env place labels loop ops points p p p p (λ m. does (Store (own + 1)) (expr_made to.value m)) (taken_maps plain place to.value p) (taken-lead to.value (Store (own + 1)) p b t) refl r)
    begin-lead (Range own Excluded from to) p (a, s, b, t) =
        then-lead plain env place labels loop (λ m. does (Store own) (expr_made from.value m)) (λ m. does (Store (own + 1)) (expr_made to.value m)) (taken_maps plain place from.value p) (taken_maps plain place to.value p) p p p (taken-lead from.value (Store own) p a s) (taken-lead to.value (Store (own + 1)) p b t)
    begin-lead (ListSource own list) p (a, r) =
        runs-over plain env place labels loop (Store own ∷ Const (constant.Int (negsuc 0)) ∷ Store (own + 1) ∷ []) (each p ((own_type list.value ∷ []) ∷ [] ∷ (plain.int ∷ []) ∷ [])) p (p ++ own_type list.value ∷ []) (p ++ own_type list.value ∷ []) p (expr_made list.value) (Maps list.value p)
        (expr-leads plain env place labels loop list.value p a) refl r

    tries-same : (source : Source) → tries_made source ≡ all_do (tries_operations plain env place source)
    tries-same (Range own Included from to) = refl
    tries-same (Range own Excluded from to) = refl
    tries-same (ListSource own list) = refl

    tries-lead : (source : Source) (p : Stack) → TriesWritten plain env place source p → Lead (tries_made source) (over p (tries_points plain place source)) p (p ++ tried_type plain place source ∷ [])
    tries-lead source p (r, holds) =
        made plain env place labels loop (tries-same source) (runs-lead plain env place labels loop (tries_operations plain env place source) (each p (tries_points plain place source)) p (p ++ tried_type plain place source ∷ []) r)

    prepare-lead : (slot : ℕ) (source : Source) (p : Stack) → PreparesWritten plain env place slot source p → Lead (prepare_made slot source) (prepare_maps plain place slot source p) p p
    prepare-lead slot (Range own Included from to) p (r, holds, raised) =
        let ops : List Operation = Load own ∷ Store slot ∷ Load own ∷ Load (own + 1) ∷ Less ∷ Store (own + 2) ∷ Load (own + 2) ∷ [] in
        let points : List Stack = each p (next_points plain place own slot) in
        let more : List Stack = each p (raise_points plain place own) in
        let m : Stack = p ++ slot_type place (own + 2) ∷ [] in
        then-lead plain env place labels loop (all_do ops) (parts (all_do (raises own)) (all_do [])) (along points) (λ k. mark p (along more (mark m k))) p m p (runs-lead plain env place labels loop ops points p m r)
        (parts-lead plain env place labels loop (all_do (raises own)) (all_do []) (along more) (λ k. k) m p p p p p holds (runs-lead plain env place labels loop (raises own) more p p raised) (below-itself env place p) holds (come-lead plain env place labels loop p p (below-itself env place p)) (below-itself env place p))
    prepare-lead slot (Range own Excluded from to) p r =
        runs-lead plain env place labels loop (Load own ∷ Store slot ∷ raises own) (each p ([] ∷ (slot_type place own ∷ []) ∷ raise_points plain place own)) p p r
    prepare-lead slot (ListSource own list) p r =
        runs-lead plain env place labels loop (Load own ∷ Load (own + 1) ∷ GetItem ∷ Store slot ∷ []) (each p ([] ∷ (slot_type place own ∷ []) ∷ (slot_type place own ∷ slot_type place (own + 1) ∷ []) ∷ (slot_type place slot ∷ []) ∷ [])) p p r

    -- ---- matches, over operands that stay

    -- where a label is to have them
    abbrev LeadTo : ℕ → (Making → Making) → Marks → Stack → Type 0
    LeadTo l F f p = (m : Making) (old : List Stack) → length m.labels ≡ length old → InLoop env place old labels loop → slice_get old l ≡ Some p → (wants : List Stack) × Marked env place m (F m) old wants f p p

    to-then : (l : ℕ) (F G : Making → Making) (f g : Marks) (p : Stack) → LeadTo l F f p → LeadTo l G g p → LeadTo l (λ m. G (F m)) (λ k. g (f k)) p
    to-then l F G f g p x y m old many inside stands =
        let (wants, a) = x m old many inside stands in
        let (more, b) = y (F m) wants a.typed.many (in-more env place old wants a.typed.grown labels loop inside) (a.typed.grown l p stands) in
        (more, by-then env place a b)

    pattern-lead : (own body : ℕ) (value : Option Constant) (p : Stack) → PatternWritten plain env place own value p → LeadTo body (pattern_made own body value) (pattern_maps plain place own value p) p
    pattern-lead own body (Some c) p (r, holds) base old many inside stands =
        let l = next_label base in
        let b = below-itself env place p in
        let ops : List Operation = Load own ∷ Test (singleton c) ∷ [] in
        let points : List Stack = p ∷ (p ++ slot_type place own ∷ []) ∷ [] in
        let m : Stack = p ++ plain.boolean ∷ [] in
        let s0 = by-comes env place base old p p many b in
        let v = wanted env place s0.typed p in
        let s1 = by-fresh env place s0 p in
        let (more, grown, s2) = by-leads env place s1 labels loop (in-more env place old (old ++ p ∷ []) s1.typed.grown labels loop inside) (all_do ops) (along points) m (runs-lead plain env place labels loop ops points p m r) in
        let s3 = by-add env place {wants = more} s2 (GoToIfNot l) p (holds, (p, grown l p v, holds)) in
        let s4 = by-add env place {wants = more} s3 (GoTo body) p (p, s3.typed.grown body p stands, b) in
        (more, by-bind env place {wants = more} s4 l p (omega arith) (grown l p v) b)
    pattern-lead own body None p h base old many inside stands =
        (old, by-add env place (by-comes env place base old p p many (below-itself env place p)) (GoTo body) p (p, stands, below-itself env place p))

    patterns-lead : (own body : ℕ) (ts : List TypedPattern) (p : Stack) → PatternsWritten plain env place own ts p → LeadTo body (patterns_made own body ts) (patterns_maps plain place own ts p) p
    patterns-lead own body [] p h = λ m old many inside stands. (old, by-comes env place m old p p many (below-itself env place p))
    patterns-lead own body (t ∷ ts) p (a, more) =
        to-then body (pattern_made own body t.value) (patterns_made own body ts) (pattern_maps plain place own t.value p) (patterns_maps plain place own ts p) p (pattern-lead own body t.value p a) (patterns-lead own body ts p more)

    -- a clause: its patterns, its body, and a jump to the end of the match
    abbrev clause_of : ℕ → List TypedPattern → ℕ → (Making → Making) → Making → Making
    clause_of own ts end Body m =
        let body = next_label m in
        let next = next_label (fresh m) in
        bind next (add (GoTo end) (Body (bind body (add (GoTo next) (patterns_made own body ts (fresh (fresh m)))))))

    clause-lead : (own : ℕ) (ts : List TypedPattern) (end : ℕ) (Body : Making → Making) (f : Marks) (p : Stack) → PatternsWritten plain env place own ts p → Lead Body f p p → LeadTo end (clause_of own ts end Body) (λ k. mark p (f (mark p (patterns_maps plain place own ts p k)))) p
    clause-lead own ts end Body f p ps block base old many inside stands =
        let body = next_label base in
        let next = next_label (fresh base) in
        let b = below-itself env place p in
        let s0 = by-comes env place base old p p many b in
        let v1 = wanted env place s0.typed p in
        let s1 = by-fresh env place s0 p in
        let v2 = wanted env place s1.typed p in
        let s2 = by-fresh env place s1 p in
        let w1 = get-front (old ++ p ∷ []) (p ∷ []) body p v1 in
        let (more, tested) = patterns-lead own body ts p ps (fresh (fresh base)) ((old ++ p ∷ []) ++ p ∷ []) s2.typed.many (in-more env place old ((old ++ p ∷ []) ++ p ∷ []) s2.typed.grown labels loop inside) w1 in
        let s3 = by-then env place s2 tested in
        let s4 = by-add env place {wants = more} s3 (GoTo next) p (p, tested.typed.grown next p v2, b) in
        let s5 = by-bind env place {wants = more} s4 body p (omega arith) (tested.typed.grown body p w1) b in
        let (again, grown, s6) = by-leads env place s5 labels loop (in-more env place old more s5.typed.grown labels loop inside) Body f p block in
        let s7 = by-add env place {wants = again} s6 (GoTo end) p (p, s6.typed.grown end p stands, b) in
        (again, by-bind env place {wants = again} s7 next p (omega (arith, length-append base.labels (None ∷ []))) (grown next p (tested.typed.grown next p v2)) b)

    match-lead : (own : ℕ) (Subject : Making → Making) (Clauses : ℕ → Making → Making) (f g : Marks) (p : Stack) → Lead (λ m. does (Store own) (Subject m)) f p p → ((end : ℕ) → LeadTo end (Clauses end) g p) → Lead (match_made own Subject Clauses) (λ k. g (f k)) p p
    match-lead own Subject Clauses f g p x clauses base old many inside =
        let end = next_label base in
        let b = below-itself env place p in
        let s0 = by-comes env place base old p p many b in
        let v = wanted env place s0.typed p in
        let s1 = by-fresh env place s0 p in
        let (more, grown, s2) = by-leads env place s1 labels loop (in-more env place old (old ++ p ∷ []) s1.typed.grown labels loop inside) (λ m. does (Store own) (Subject m)) f p x in
        let (last, cs) = clauses end (does (Store own) (Subject (fresh base))) more s2.typed.many (in-more env place old more s2.typed.grown labels loop inside) (grown end p v) in
        let s3 = by-then env place s2 cs in
        (last, by-bind env place {wants = last} s3 end p (omega arith) (cs.typed.grown end p (grown end p v)) b)

  -- ---- statements

  abbrev Loops : Type 0
  Loops = Option (Turns ℕ)

  abbrev LeadIn : Loops → Bool → (Making → Making) → Marks → Stack → Type 0
  LeadIn labels looped F f p = LeadsBy env place labels (turned looped p) F f p p

  leave-lead : (labels : Loops) (looped : Bool) (label : Turns ℕ → ℕ) → ((wants : List Stack) (l : Turns ℕ) (p : Stack) → InLoop env place wants (Some l) (Some (record { head = p; exit = p })) → slice_get wants (label l) ≡ Some p) → (p : Stack) → InSome plain env place looped →
      LeadIn labels looped (leave_made labels label) (mark p) p
  leave-lead (Some x) true label stands p h = λ m old many inside. (old, by-add env place (by-comes env place m old p p many (below-itself env place p)) (GoTo (label x)) p (p, stands old x p inside, below-itself env place p))
  leave-lead None true label stands p h = λ m old many inside. absurd inside
  leave-lead labels false label stands p h = absurd h

  abbrev made_of : List TypedStmt → Loops → Making → Making
  made_of ss labels = stmts_in_turn (map stmt_made ss) labels

  abbrev shown : (shape : (Vec.the_former (Former.this {0}) Global).Shape) → Row_of-TypedStmt (Former.arity (Vec.the_former (Former.this {0}) Global) shape) → List TypedStmt
  shown shape row = (shown-the_row-TypedStmt-0 shape row).items

  shown-lead : (shape : _) (row : _) (labels : Loops) (loop : Option (Turns Stack)) (f : Marks) (p q : Stack) → LeadsBy env place labels loop (made_of (stmts_in _ row) labels) f p q → LeadsBy env place labels loop (made_of (shown shape row) labels) f p q
  shown-lead shape row labels loop f p q h = subst (λ ss. LeadsBy env place labels loop (made_of ss labels) f p q) (sym (stmts-shown shape row)) h

  abbrev around : Stack → Option (Turns Stack)
  around p = Some (record { head = p; exit = p })

  mutual
    unfolding out-TypedStmt Carrier.out

    pub stmt-leads : (s : TypedStmt) (labels : Loops) (looped : Bool) (p : Stack) → StmtWritten plain env place s looped p → LeadIn labels looped (stmt_made s labels) (stmt_maps plain place s p) p
    stmt-leads (Set slot value at) labels looped p (a, d) =
        made plain env place labels (turned looped p) (λ i. fold_out-TypedStmt StmtMaking ClauseMaking stmt_step clause_step (Set slot value at) i labels) (taken-lead labels (turned looped p) value.value (Store slot) p a d)
    stmt-leads (Perform form operands at) labels looped p (a, r) =
        made plain env place labels (turned looped p) (λ i. fold_out-TypedStmt StmtMaking ClauseMaking stmt_step clause_step (Perform form operands at) i labels)
        (runs-over plain env place labels (turned looped p) (perform_operations form) (above p (own_types operands.items) ∷ []) p (above p (own_types operands.items)) (above p (own_types operands.items)) p (exprs_made operands.items) (exprs_maps plain place operands.items p) (exprs-lead labels (turned looped p) operands.items p a) refl r)
    stmt-leads (Update t op value at) labels looped p h =
        made plain env place labels (turned looped p) (λ i. fold_out-TypedStmt StmtMaking ClauseMaking stmt_step clause_step (Update t op value at) i labels) (update-lead labels (turned looped p) t op value.value p h)
    stmt-leads (Return None at) labels looped p (a, d) =
        let m : Stack = p ++ nil_type ∷ [] in
        made plain env place labels (turned looped p) (λ i. fold_out-TypedStmt StmtMaking ClauseMaking stmt_step clause_step (Return None at) i labels)
        (then-lead plain env place labels (turned looped p) (does (Const constant.Nil)) (does ReturnOp) (mark p) (mark m) p m p (does-lead plain env place labels (turned looped p) (Const constant.Nil) p m a) (does-lead plain env place labels (turned looped p) ReturnOp m p d))
    stmt-leads (Return (Some e) at) labels looped p (a, d) =
        made plain env place labels (turned looped p) (λ i. fold_out-TypedStmt StmtMaking ClauseMaking stmt_step clause_step (Return (Some e) at) i labels) (taken-lead labels (turned looped p) e.value ReturnOp p a d)
    stmt-leads (Break at) labels looped p h =
        made plain env place labels (turned looped p) (λ i. fold_out-TypedStmt StmtMaking ClauseMaking stmt_step clause_step (Break at) i labels) (leave-lead labels looped (λ l. l.exit) (λ wants l q inside. inside.1) p h)
    stmt-leads (Continue at) labels looped p h =
        made plain env place labels (turned looped p) (λ i. fold_out-TypedStmt StmtMaking ClauseMaking stmt_step clause_step (Continue at) i labels) (leave-lead labels looped (λ l. l.head) (λ wants l q inside. inside.0) p h)
    stmt-leads (BlockStmt shape stmts at) labels looped p h =
        made plain env place labels (turned looped p) (λ i. fold_out-TypedStmt StmtMaking ClauseMaking stmt_step clause_step (BlockStmt shape stmts at) i labels) (shown-lead shape stmts labels (turned looped p) (stmts_maps plain place stmts p) p p (row-leads stmts labels looped p h))
    stmt-leads (If' condition shape first shape' second at) labels looped p (a, holds, b, c) =
        let m : Stack = p ++ own_type condition.value ∷ [] in
        made plain env place labels (turned looped p) (λ i. fold_out-TypedStmt StmtMaking ClauseMaking stmt_step clause_step (If' condition shape first shape' second at) i labels)
        (then-lead plain env place labels (turned looped p) (expr_made condition.value) (parts (made_of (shown shape first) labels) (made_of (shown shape' second) labels)) (expr_maps plain place condition.value p) (λ k. stmts_maps plain place second p (mark p (stmts_maps plain place first p (mark m k)))) p m p
        (expr-leads plain env place labels (turned looped p) condition.value p a)
        (parts-lead plain env place labels (turned looped p) (made_of (shown shape first) labels) (made_of (shown shape' second) labels) (stmts_maps plain place first p) (stmts_maps plain place second p) m p p p p p holds
        (shown-lead shape first labels (turned looped p) (stmts_maps plain place first p) p p (row-leads first labels looped p b)) (below-itself env place p) holds
        (shown-lead shape' second labels (turned looped p) (stmts_maps plain place second p) p p (row-leads second labels looped p c)) (below-itself env place p)))
    stmt-leads (While' condition shape body at) labels looped p (tick, a, holds, b) =
        made plain env place labels (turned looped p) (λ i. fold_out-TypedStmt StmtMaking ClauseMaking stmt_step clause_step (While' condition shape body at) i labels)
        (loops-lead plain env place labels (turned looped p) (expr_made condition.value) nothing_made (λ x. made_of (shown shape body) (Some x)) (expr_maps plain place condition.value p) (λ k. k) (stmts_maps plain place body p) p (p ++ own_type condition.value ∷ []) tick
        (expr-leads plain env place labels (turned looped p) condition.value p a) holds (come-lead plain env place labels (turned looped p) p p (below-itself env place p)) (λ x. shown-lead shape body (Some x) (around p) (stmts_maps plain place body p) p p (row-leads body (Some x) true p b)))
    stmt-leads (Foreach' slot source shape body at) labels looped p (begins, tick, (tries, holds), prepares, b) =
        made plain env place labels (turned looped p) (λ i. fold_out-TypedStmt StmtMaking ClauseMaking stmt_step clause_step (Foreach' slot source shape body at) i labels)
        (then-lead plain env place labels (turned looped p) (begin_made source) (loops (tries_made source) (prepare_made slot source) (λ x. made_of (shown shape body) (Some x))) (begin_maps plain place source p)
        (loop_maps plain place (over p (tries_points plain place source)) (tried_type plain place source) (prepare_maps plain place slot source p) (stmts_maps plain place body p) p) p p p (begin-lead labels (turned looped p) source p begins)
        (loops-lead plain env place labels (turned looped p) (tries_made source) (prepare_made slot source) (λ x. made_of (shown shape body) (Some x)) (over p (tries_points plain place source)) (prepare_maps plain place slot source p) (stmts_maps plain place body p) p (p ++ tried_type plain place source ∷ []) tick
        (tries-lead labels (turned looped p) source p (tries, holds)) holds (prepare-lead labels (turned looped p) slot source p prepares) (λ x. shown-lead shape body (Some x) (around p) (stmts_maps plain place body p) p p (row-leads body (Some x) true p b))))
    stmt-leads (Match' own subject shape clauses at) labels looped p (a, store, cs) =
        made plain env place labels (turned looped p) (λ i. fold_out-TypedStmt StmtMaking ClauseMaking stmt_step clause_step (Match' own subject shape clauses at) i labels)
        (subst (λ us. LeadIn labels looped (match_made own (expr_made subject.value) (λ end. clauses_in_turn (map clause_made us) own end labels)) (stmt_maps plain place (Match' own subject shape clauses at) p) p) (sym (clauses-shown shape clauses))
        (match-lead labels (turned looped p) own (expr_made subject.value) (λ end. clauses_in_turn (map clause_made (clauses_in _ clauses)) own end labels) (taken_maps plain place subject.value p) (clauses_maps plain place own clauses p) p
        (taken-lead labels (turned looped p) subject.value (Store own) p a store) (λ end. clauses-lead own clauses end labels looped p cs)))

    pub row-leads : {n : _} (row : Row_of-TypedStmt n) (labels : Loops) (looped : Bool) (p : Stack) → StmtsWritten plain env place row looped p → LeadIn labels looped (made_of (stmts_in _ row) labels) (stmts_maps plain place row p) p
    row-leads end_of-TypedStmt labels looped p h = come-lead plain env place labels (turned looped p) p p (below-itself env place p)
    row-leads (more_of-TypedStmt s rest) labels looped p (a, more) =
        then-lead plain env place labels (turned looped p) (stmt_made s labels) (made_of (stmts_in _ rest) labels) (stmt_maps plain place s p) (stmts_maps plain place rest p) p p p (stmt-leads s labels looped p a) (row-leads rest labels looped p more)

    clauses-lead : {n : _} (own : ℕ) (row : Row_of-TypedClause n) (end : ℕ) (labels : Loops) (looped : Bool) (p : Stack) → ClausesWritten plain env place own row looped p →
        LeadTo labels (turned looped p) end (clauses_in_turn (map clause_made (clauses_in _ row)) own end labels) (clauses_maps plain place own row p) p
    clauses-lead own end_of-TypedClause end labels looped p h = λ m old many inside stands. (old, by-comes env place m old p p many (below-itself env place p))
    clauses-lead own (more_of-TypedClause patterns shape stmts at rest) end labels looped p (ps, block, more) =
        let c : TypedClause = record { patterns = patterns; stmts = shown-the_row-TypedStmt-0 shape stmts; at = at } in
        let f : Marks = λ k. mark p (stmts_maps plain place stmts p (mark p (patterns_maps plain place own patterns.items p k))) in
        to-then labels (turned looped p) end (clause_made c own end labels) (clauses_in_turn (map clause_made (clauses_in _ rest)) own end labels) f (clauses_maps plain place own rest p) p
        (subst (λ F. LeadTo labels (turned looped p) end F f p) (sym (λ i. fold_out-TypedClause StmtMaking ClauseMaking stmt_step clause_step c i own end labels))
        (clause-lead labels (turned looped p) own patterns.items end (made_of (shown shape stmts) labels) (stmts_maps plain place stmts p) p ps (shown-lead shape stmts labels (turned looped p) (stmts_maps plain place stmts p) p p (row-leads stmts labels looped p block))))
        (clauses-lead own rest end labels looped p more)

pub statements-are-mapped : StatementsAreMapped
statements-are-mapped plain env place labels looped s p h = stmt-leads plain env place s labels looped p h
