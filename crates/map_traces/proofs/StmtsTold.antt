-- What a statement tells is what its maps say.
use Rattle.std.proofs.Common.{◌≡◌, ◌∙◌, ◌+◌, ◌++◌, ℕ, List, [], ◌∷◌, Option, Some, None, length, map, refl, sym, subst, ap}
use Rattle.std.proofs.lemmas.List.{length-map}
use Rattle.std.specs.Global.{Global}
use Rattle.std.specs.formers.vec.Vec
use Rattle.type_model.specs.declared.basic.SemType.{SemType}
use Rattle.operations.specs.declared.operation.Constant.{Constant}
use Rattle.operations.specs.Rows.{Surroundings}
use Rattle.typed_tree.specs.declared.expr.TypedExpr.{TypedExpr}
use Rattle.typed_tree.specs.declared.form.Operator.{Operator}
use Rattle.typed_tree.specs.declared.stmt.RangeEnd.TheVariants.{Included, Excluded}
use Rattle.typed_tree.specs.declared.stmt.Source.{Source}
use Rattle.typed_tree.specs.declared.stmt.Source.TheVariants.{Range, List as ListSource}
use Rattle.typed_tree.specs.declared.stmt.TypedPattern.{TypedPattern}
use Rattle.typed_tree.specs.declared.stmt.TypedStmt.{TypedStmt, Set, Perform, Update, If', While', Foreach', Match', Return, Block' as BlockStmt, Break, Continue, out-TypedStmt, fold_out-TypedStmt, Row_of-TypedStmt, end_of-TypedStmt, more_of-TypedStmt, items-the_row-TypedStmt as stmts_in, items_shown-the_row-TypedStmt-0 as stmts-shown, Row_of-TypedClause, end_of-TypedClause, more_of-TypedClause, items-the_row-TypedClause as clauses_in, items_shown-the_row-TypedClause-1 as clauses-shown}
use Rattle.typed_tree.specs.declared.stmt.TypedClause.{TypedClause, fold_out-TypedClause}
use Rattle.typed_tree.specs.declared.stmt.TypedStmt.TheBlock.{shown-the_row-TypedStmt-0}
use Rattle.typed_tree.specs.declared.stmt.UpdateTarget.{UpdateTarget}
use Rattle.typed_tree.specs.declared.stmt.UpdateTarget.TheVariants as target
use denote.Hole.Carrier
use mathlib.Core.Former
use Rattle.typed_tree.specs.SharedTypes.{sem_of}
use Rattle.eval_model.specs.Expressions.{narrowed_to}
use Rattle.tree_promises.specs.Types.{Stack}
use Rattle.map_model.specs.Maps.{begin_maps, clauses_maps, exprs_maps, expr_maps, gets_maps, mark, over, own_type, own_types, pattern_maps, patterns_maps, prepare_maps, stmt_maps, stmts_maps, stores_maps, taken_maps, tried_type, tries_points, update_maps}
use Rattle.map_model.specs.Points.{PlainTypes, member_points, operator_type, slot_type, variable_type}
use Rattle.map_traces.specs.Constructs.{Known, known_in, member_read, operator_traced}
use Rattle.map_traces.specs.Laws.{StatementsAreTraced}
use Rattle.map_traces.specs.Tracing.{Tracing, drops, gives, leaves, takes, place as place_more, turned}
use Rattle.map_traces.specs.Trees.{begin_traced, clause_step, clause_traced, clauses_in_turn, loops_traced, patterns_traced, pattern_traced, prepare_traced, stmt_step, stmt_traced, stmts_traced, stored, taken, tries_traced, update_traced}
use Rattle.map_traces.proofs.ExprsTold.{expr-told, exprs-told, taken-told}
use Rattle.map_traces.proofs.Forms.{loads-told, member-told, operator-told}
use Rattle.map_traces.proofs.Operands.{at, pushed-dropped, turned-pushed}

module _ (plain : PlainTypes) (place : Surroundings) where
  abbrev known : Known
  known = known_in plain place

  -- ---- assignments with an operator

  stored-told : (op : Operator) (value : TypedExpr) (t : SemType) (w : List SemType) (m : List Stack) → stored known op value (at (t ∷ w) m) ≡ at w (stores_maps plain place t op value (turned w) m)
  stored-told op value t w m =
      ap (λ x. leaves (operator_traced known op 2 (operator_type plain op) x)) (expr-told plain place value (at (t ∷ w) m))
      ∙ ap leaves (operator-told plain place op (t ∷ own_type value ∷ []) (operator_type plain op) w (expr_maps plain place value (turned w ++ t ∷ []) m))

  update-told : (t : UpdateTarget) (op : Operator) (value : TypedExpr) (k : Tracing) → update_traced known t op value k ≡ at k.waiting (update_maps plain place t op value (turned k.waiting) k.places)
  update-told (target.Local slot narrowed type) op value k =
      ap (stored known op value) (loads-told plain place slot narrowed type k)
      ∙ stored-told op value (sem_of type) k.waiting (gets_maps plain place slot (narrowed_to narrowed type) (turned k.waiting) k.places)
  update-told (target.Variable x) op value k = stored-told op value (variable_type place x) k.waiting (mark (turned k.waiting) k.places)
  update-told (target.Member own how container key type) op value k =
      let p : Stack = turned k.waiting in
      let m : List Stack = taken_maps plain place container.value p k.places in
      let n : List Stack = taken_maps plain place key.value p m in
      let below : List SemType = slot_type place (own + 1) ∷ slot_type place own ∷ k.waiting in
      ap (λ x. drops 2 (stored known op value (member_read known how own (sem_of type) (taken known key.value x)))) (taken-told plain place container.value k)
      ∙ ap (λ x. drops 2 (stored known op value (member_read known how own (sem_of type) x))) (taken-told plain place key.value (at k.waiting m))
      ∙ ap (λ x. drops 2 (stored known op value x)) (member-told plain place how own (sem_of type) k.waiting n)
      ∙ ap (drops 2) (stored-told op value (sem_of type) below (over p (member_points plain place how own) n))

  -- ---- loops

  begin-told : (source : Source) (k : Tracing) → begin_traced known source k ≡ at k.waiting (begin_maps plain place source (turned k.waiting) k.places)
  begin-told (Range own Included from to) k =
      let begins : Tracing → Tracing = λ x. leaves (takes 2 plain.boolean (gives (slot_type place (own + 1)) (gives (slot_type place own) x))) in
      ap (λ x. begins (taken known to.value x)) (taken-told plain place from.value k)
      ∙ ap begins (taken-told plain place to.value (at k.waiting (taken_maps plain place from.value (turned k.waiting) k.places)))
  begin-told (Range own Excluded from to) k =
      ap (taken known to.value) (taken-told plain place from.value k) ∙ taken-told plain place to.value (at k.waiting (taken_maps plain place from.value (turned k.waiting) k.places))
  begin-told (ListSource own list) k = ap (λ x. leaves (gives plain.int x)) (taken-told plain place list.value k)

  tries-told : (source : Source) (w : List SemType) (m : List Stack) → tries_traced known source (at w m) ≡ at (tried_type plain place source ∷ w) (over (turned w) (tries_points plain place source) m)
  tries-told (Range own Included from to) w m = refl
  tries-told (Range own Excluded from to) w m = refl
  tries-told (ListSource own list) w m = refl

  prepare-told : (slot : ℕ) (source : Source) (w : List SemType) (m : List Stack) → prepare_traced known slot source (at w m) ≡ at w (prepare_maps plain place slot source (turned w) m)
  prepare-told slot (Range own Included from to) w m = refl
  prepare-told slot (Range own Excluded from to) w m = refl
  prepare-told slot (ListSource own list) w m = refl

  -- ---- patterns

  pattern-told : (own : ℕ) (c : Option Constant) (k : Tracing) → pattern_traced known own c k ≡ at k.waiting (pattern_maps plain place own c (turned k.waiting) k.places)
  pattern-told own (Some c) k = refl
  pattern-told own None k = refl

  patterns-told : (own : ℕ) (ts : List TypedPattern) (k : Tracing) → patterns_traced known own ts k ≡ at k.waiting (patterns_maps plain place own ts (turned k.waiting) k.places)
  patterns-told own [] k = refl
  patterns-told own (t ∷ ts) k =
      ap (patterns_traced known own ts) (pattern-told own t.value k) ∙ patterns-told own ts (at k.waiting (pattern_maps plain place own t.value (turned k.waiting) k.places))

  -- ---- statements

  abbrev shown : (shape : (Vec.the_former (Former.this {0}) Global).Shape) → Row_of-TypedStmt (Former.arity (Vec.the_former (Former.this {0}) Global) shape) → List TypedStmt
  shown shape row = (shown-the_row-TypedStmt-0 shape row).items

  shown-told : (shape : _) (row : _) (k t : Tracing) → stmts_traced known (stmts_in _ row) k ≡ t → stmts_traced known (shown shape row) k ≡ t
  shown-told shape row k t h = subst (λ ss. stmts_traced known ss k ≡ t) (sym (stmts-shown shape row)) h

  abbrev folded : (s : TypedStmt) (k : Tracing) → Type 0
  folded s k = stmt_traced known s k ≡ at k.waiting (stmt_maps plain place s (turned k.waiting) k.places)

  mutual
    unfolding out-TypedStmt Carrier.out

    pub stmt-told : (s : TypedStmt) (k : Tracing) → folded s k
    stmt-told (Set slot value where_) k =
        (λ i. fold_out-TypedStmt (Tracing → Tracing) (ℕ → Tracing → Tracing) (stmt_step known) (clause_step known) (Set slot value where_) i k) ∙ taken-told plain place value.value k
    stmt-told (Perform form operands where_) k =
        let es : List TypedExpr = operands.items in
        let m : List Stack = exprs_maps plain place es (turned k.waiting) k.places in
        (λ i. fold_out-TypedStmt (Tracing → Tracing) (ℕ → Tracing → Tracing) (stmt_step known) (clause_step known) (Perform form operands where_) i k)
        ∙ ap (λ x. drops (length es) (place_more x)) (exprs-told plain place es k)
        ∙ (λ i. at (pushed-dropped (own_types es) k.waiting (length es) (sym (length-map es own_type)) i) (mark (turned-pushed (own_types es) k.waiting i) m))
    stmt-told (Update t op value where_) k =
        (λ i. fold_out-TypedStmt (Tracing → Tracing) (ℕ → Tracing → Tracing) (stmt_step known) (clause_step known) (Update t op value where_) i k) ∙ update-told t op value.value k
    stmt-told (Return None where_) k =
        λ i. fold_out-TypedStmt (Tracing → Tracing) (ℕ → Tracing → Tracing) (stmt_step known) (clause_step known) (Return None where_) i k
    stmt-told (Return (Some e) where_) k =
        (λ i. fold_out-TypedStmt (Tracing → Tracing) (ℕ → Tracing → Tracing) (stmt_step known) (clause_step known) (Return (Some e) where_) i k) ∙ taken-told plain place e.value k
    stmt-told (Break where_) k = λ i. fold_out-TypedStmt (Tracing → Tracing) (ℕ → Tracing → Tracing) (stmt_step known) (clause_step known) (Break where_) i k
    stmt-told (Continue where_) k = λ i. fold_out-TypedStmt (Tracing → Tracing) (ℕ → Tracing → Tracing) (stmt_step known) (clause_step known) (Continue where_) i k
    stmt-told (BlockStmt shape stmts where_) k =
        (λ i. fold_out-TypedStmt (Tracing → Tracing) (ℕ → Tracing → Tracing) (stmt_step known) (clause_step known) (BlockStmt shape stmts where_) i k)
        ∙ shown-told shape stmts k (at k.waiting (stmts_maps plain place stmts (turned k.waiting) k.places)) (stmts-told stmts k)
    stmt-told (If' condition shape first shape' second where_) k =
        let p : Stack = turned k.waiting in
        let m : List Stack = taken_maps plain place condition.value p k.places in
        let n : List Stack = stmts_maps plain place first p m in
        (λ i. fold_out-TypedStmt (Tracing → Tracing) (ℕ → Tracing → Tracing) (stmt_step known) (clause_step known) (If' condition shape first shape' second where_) i k)
        ∙ ap (λ x. stmts_traced known (shown shape' second) (place_more (stmts_traced known (shown shape first) x))) (taken-told plain place condition.value k)
        ∙ ap (λ x. stmts_traced known (shown shape' second) (place_more x)) (shown-told shape first (at k.waiting m) (at k.waiting n) (stmts-told first (at k.waiting m)))
        ∙ shown-told shape' second (at k.waiting (mark p n)) (at k.waiting (stmts_maps plain place second p (mark p n))) (stmts-told second (at k.waiting (mark p n)))
    stmt-told (While' condition shape body where_) k =
        let p : Stack = turned k.waiting in
        let m : List Stack = taken_maps plain place condition.value p (mark p k.places) in
        (λ i. fold_out-TypedStmt (Tracing → Tracing) (ℕ → Tracing → Tracing) (stmt_step known) (clause_step known) (While' condition shape body where_) i k)
        ∙ ap (λ x. place_more (stmts_traced known (shown shape body) x)) (taken-told plain place condition.value (place_more k))
        ∙ ap place_more (shown-told shape body (at k.waiting m) (at k.waiting (stmts_maps plain place body p m)) (stmts-told body (at k.waiting m)))
    stmt-told (Foreach' slot source shape body where_) k =
        let p : Stack = turned k.waiting in
        let w : List SemType = k.waiting in
        let a : List Stack = mark p (begin_maps plain place source p k.places) in
        let b : List Stack = mark (p ++ tried_type plain place source ∷ []) (over p (tries_points plain place source) a) in
        let m : List Stack = prepare_maps plain place slot source p b in
        (λ i. fold_out-TypedStmt (Tracing → Tracing) (ℕ → Tracing → Tracing) (stmt_step known) (clause_step known) (Foreach' slot source shape body where_) i k)
        ∙ ap (loops_traced (tries_traced known source) (prepare_traced known slot source) (stmts_traced known (shown shape body))) (begin-told source k)
        ∙ ap (λ x. place_more (stmts_traced known (shown shape body) (prepare_traced known slot source (leaves x)))) (tries-told source w a)
        ∙ ap (λ x. place_more (stmts_traced known (shown shape body) x)) (prepare-told slot source w b)
        ∙ ap place_more (shown-told shape body (at w m) (at w (stmts_maps plain place body p m)) (stmts-told body (at w m)))
    stmt-told (Match' own subject shape clauses where_) k =
        let p : Stack = turned k.waiting in
        let m : List Stack = taken_maps plain place subject.value p k.places in
        (λ i. fold_out-TypedStmt (Tracing → Tracing) (ℕ → Tracing → Tracing) (stmt_step known) (clause_step known) (Match' own subject shape clauses where_) i k)
        ∙ subst (λ us. clauses_in_turn (map (clause_traced known) us) own (taken known subject.value k) ≡ at k.waiting (clauses_maps plain place own clauses p m)) (sym (clauses-shown shape clauses))
        (ap (clauses_in_turn (map (clause_traced known) (clauses_in _ clauses)) own) (taken-told plain place subject.value k) ∙ clauses-told own clauses (at k.waiting m))

    pub stmts-told : {n : _} (row : Row_of-TypedStmt n) (k : Tracing) → stmts_traced known (stmts_in _ row) k ≡ at k.waiting (stmts_maps plain place row (turned k.waiting) k.places)
    stmts-told end_of-TypedStmt k = refl
    stmts-told (more_of-TypedStmt s rest) k =
        ap (stmts_traced known (stmts_in _ rest)) (stmt-told s k) ∙ stmts-told rest (at k.waiting (stmt_maps plain place s (turned k.waiting) k.places))

    clauses-told : {n : _} (own : ℕ) (row : Row_of-TypedClause n) (k : Tracing) → clauses_in_turn (map (clause_traced known) (clauses_in _ row)) own k ≡ at k.waiting (clauses_maps plain place own row (turned k.waiting) k.places)
    clauses-told own end_of-TypedClause k = refl
    clauses-told own (more_of-TypedClause patterns shape stmts where_ rest) k =
        let p : Stack = turned k.waiting in
        let c : TypedClause = record { patterns = patterns; stmts = shown-the_row-TypedStmt-0 shape stmts; at = where_ } in
        let m : List Stack = mark p (patterns_maps plain place own patterns.items p k.places) in
        let n : List Stack = stmts_maps plain place stmts p m in
        ap (clauses_in_turn (map (clause_traced known) (clauses_in _ rest)) own)
        ((λ i. fold_out-TypedClause (Tracing → Tracing) (ℕ → Tracing → Tracing) (stmt_step known) (clause_step known) c i own k)
        ∙ ap (λ x. place_more (stmts_traced known (shown shape stmts) (place_more x))) (patterns-told own patterns.items k)
        ∙ ap place_more (shown-told shape stmts (at k.waiting m) (at k.waiting n) (stmts-told stmts (at k.waiting m))))
        ∙ clauses-told own rest (at k.waiting (mark p n))

pub statements-are-traced : StatementsAreTraced
statements-are-traced plain place st s = stmt-told plain place st s
