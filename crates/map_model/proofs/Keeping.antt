-- All maps over some operands begin with these.
use Rattle.std.proofs.Common.{◌≡◌, ◌∙◌, ◌+◌, ◌++◌, ℕ, List, [], ◌∷◌, Option, Some, None, map, refl, sym, ap}
use Rattle.std.proofs.lemmas.List.{append-nil, append_assoc}
use Rattle.type_model.specs.declared.basic.SemType.{SemType}
use Rattle.operations.specs.declared.operation.Constant.{Constant}
use Rattle.operations.specs.Rows.{Surroundings}
use Rattle.typed_tree.specs.declared.expr.TypedExpr.{TypedExpr, Strict', Implied, Local as Variable, And', Or', Conditional', Elvis', Check', Trap', Function', Parens', Row_of-TypedExpr, end_of-TypedExpr, more_of-TypedExpr, items-the_row-TypedExpr as exprs_in}
use Rattle.typed_tree.specs.declared.form.Operator.{Operator}
use Rattle.typed_tree.specs.declared.stmt.RangeEnd.TheVariants.{Included, Excluded}
use Rattle.typed_tree.specs.declared.stmt.Source.{Source}
use Rattle.typed_tree.specs.declared.stmt.Source.TheVariants.{Range, List as ListSource}
use Rattle.typed_tree.specs.declared.stmt.TypedPattern.{TypedPattern}
use Rattle.typed_tree.specs.declared.stmt.TypedStmt.{TypedStmt, Set, Perform, Update, If', While', Foreach', Match', Return, Block' as BlockStmt, Break, Continue, Row_of-TypedStmt, end_of-TypedStmt, more_of-TypedStmt, Row_of-TypedClause, end_of-TypedClause, more_of-TypedClause}
use Rattle.typed_tree.specs.declared.stmt.UpdateTarget.{UpdateTarget}
use Rattle.typed_tree.specs.declared.stmt.UpdateTarget.TheVariants as target
use Rattle.typed_tree.specs.declared.unit.Captured.{Captured}
use Rattle.typed_tree.specs.SharedTypes.{sem_of}
use Rattle.eval_model.specs.Expressions.{error_type, narrowed_to, nil_type}
use Rattle.tree_promises.specs.Types.{Stack}
use Rattle.map_model.specs.Kept.{EachBegins, Keeps}
use Rattle.map_model.specs.Laws.{ExpressionsKeepOperands, StatementsKeepOperands}
use Rattle.map_model.specs.Maps.{Marks, above, begin_maps, captured_type, captures_maps, clauses_maps, expr_maps, exprs_maps, fork_maps, gets_maps, loop_maps, mark, next_points, over, own_type, own_types, pattern_maps, patterns_maps, prepare_maps, row_maps, stmt_maps, stmts_maps, stores_maps, taken_maps, tried_type, tries_points, update_maps}
use Rattle.map_model.specs.Points.{PlainTypes, form_points, member_points, operator_points, operator_type, raise_points, slot_type, tested_points, variable_type}

-- ---- lists

each-append : (p : Stack) (ss ts : List Stack) → EachBegins p ss → EachBegins p ts → EachBegins p (ss ++ ts)
each-append p [] ts f g = g
each-append p (s ∷ ss) ts (b, f) g = (b, each-append p ss ts f g)

each-wider : (p x : Stack) (ss : List Stack) → EachBegins (p ++ x) ss → EachBegins p ss
each-wider p x [] h = tt
each-wider p x (s ∷ ss) ((more, e), h) = ((x ++ more, e ∙ append_assoc p x more), each-wider p x ss h)

above-is : (p ts : Stack) → above p ts ≡ p ++ ts
above-is p [] = sym (append-nil p)
above-is p (t ∷ ts) = above-is (p ++ t ∷ []) ts ∙ append_assoc p (t ∷ []) ts

-- ---- one behind another

nothing-keeps : (p : Stack) → Keeps p (λ m. m)
nothing-keeps p m = ([], sym (append-nil m), tt)

then-keeps : (p : Stack) (F G : Marks) → Keeps p F → Keeps p G → Keeps p (λ m. G (F m))
then-keeps p F G f g m =
    let (a, d, x) = f m in
    let (b, e, y) = g (F m) in
    (a ++ b, e ∙ ap (λ l. l ++ b) d ∙ append_assoc m a b, each-append p a b x y)

wider-keeps : (p x : Stack) (F : Marks) → Keeps (p ++ x) F → Keeps p F
wider-keeps p x F f m = let (a, d, h) = f m in (a, d, each-wider p x a h)

mark-keeps : (p more : Stack) → Keeps p (mark (p ++ more))
mark-keeps p more m = ((p ++ more) ∷ [], refl, ((more, refl), tt))

here-keeps : (p : Stack) → Keeps p (mark p)
here-keeps p m = (p ∷ [], refl, (([], sym (append-nil p)), tt))

above-keeps : (p ts : Stack) → Keeps p (mark (above p ts))
above-keeps p ts m = (above p ts ∷ [], refl, ((ts, above-is p ts), tt))

over-keeps : (p : Stack) (points : List Stack) → Keeps p (over p points)
over-keeps p [] = nothing-keeps p
over-keeps p (s ∷ ss) = then-keeps p (mark (above p s)) (over p ss) (above-keeps p s) (over-keeps p ss)

module _ (plain : PlainTypes) (place : Surroundings) where
  gets-keep : (slot : ℕ) (narrowed : Option SemType) (p : Stack) → Keeps p (gets_maps plain place slot narrowed p)
  gets-keep slot None p = here-keeps p
  gets-keep slot (Some t) p = then-keeps p (mark p) (mark (p ++ slot_type place slot ∷ [])) (here-keeps p) (mark-keeps p (slot_type place slot ∷ []))

  captures-keep : (cs : List Captured) (p : Stack) → Keeps p (captures_maps plain place cs p)
  captures-keep [] p = nothing-keeps p
  captures-keep (c ∷ cs) p =
      let m : Stack = p ++ captured_type c ∷ [] in
      then-keeps p (gets_maps plain place c.slot (narrowed_to c.narrowed c.ty) p) (captures_maps plain place cs m) (gets-keep c.slot (narrowed_to c.narrowed c.ty) p)
      (wider-keeps p (captured_type c ∷ []) (captures_maps plain place cs m) (captures-keep cs m))

  fork-keeps : (tested ends : SemType) (First Second : Marks) (p : Stack) → Keeps p First → Keeps p Second → Keeps p (fork_maps plain place tested First ends Second p)
  fork-keeps tested ends First Second p f g =
      then-keeps p (λ m. mark (p ++ ends ∷ []) (First (mark (p ++ tested ∷ []) m))) Second
      (then-keeps p (λ m. First (mark (p ++ tested ∷ []) m)) (mark (p ++ ends ∷ [])) (then-keeps p (mark (p ++ tested ∷ [])) First (mark-keeps p (tested ∷ [])) f) (mark-keeps p (ends ∷ []))) g

  -- ---- expressions

  mutual
    pub expr-keeps : (e : TypedExpr) (p : Stack) → Keeps p (expr_maps plain place e p)
    expr-keeps (Strict' form shape operands type at) p =
        then-keeps p (row_maps plain place operands p) (over p (form_points plain form (own_types (exprs_in _ operands)))) (row-keeps operands p) (over-keeps p (form_points plain form (own_types (exprs_in _ operands))))
    expr-keeps (Implied value type at) p = here-keeps p
    expr-keeps (Variable slot narrowed type at) p = gets-keep slot (narrowed_to narrowed type) p
    expr-keeps (And' _ left _ right type at) p =
        then-keeps p (expr_maps plain place left p) (fork_maps plain place (own_type left) (expr_maps plain place right p) (own_type right) (mark p) p) (expr-keeps left p)
        (fork-keeps (own_type left) (own_type right) (expr_maps plain place right p) (mark p) p (expr-keeps right p) (here-keeps p))
    expr-keeps (Or' _ left _ right type at) p =
        then-keeps p (expr_maps plain place left p) (fork_maps plain place (own_type left) (mark p) (sem_of type) (expr_maps plain place right p) p) (expr-keeps left p)
        (fork-keeps (own_type left) (sem_of type) (mark p) (expr_maps plain place right p) p (here-keeps p) (expr-keeps right p))
    expr-keeps (Conditional' _ condition _ middle _ last type at) p =
        then-keeps p (expr_maps plain place condition p) (fork_maps plain place (own_type condition) (expr_maps plain place middle p) (own_type middle) (expr_maps plain place last p) p) (expr-keeps condition p)
        (fork-keeps (own_type condition) (own_type middle) (expr_maps plain place middle p) (expr_maps plain place last p) p (expr-keeps middle p) (expr-keeps last p))
    expr-keeps (Elvis' own _ left _ right type at) p =
        let points : List Stack = tested_points plain place own (own_type left) in
        then-keeps p (λ m. over p points (expr_maps plain place left p m)) (fork_maps plain place plain.boolean (expr_maps plain place right p) (own_type right) (gets_maps plain place own (Some (sem_of type)) p) p)
        (then-keeps p (expr_maps plain place left p) (over p points) (expr-keeps left p) (over-keeps p points))
        (fork-keeps plain.boolean (own_type right) (expr_maps plain place right p) (gets_maps plain place own (Some (sem_of type)) p) p (expr-keeps right p) (gets-keep own (Some (sem_of type)) p))
    expr-keeps (Check' panics own _ operand type at) p =
        let points : List Stack = tested_points plain place own (own_type operand) in
        let First : Marks = λ k. mark (p ++ error_type ∷ []) (gets_maps plain place own (Some error_type) p k) in
        then-keeps p (λ m. over p points (expr_maps plain place operand p m)) (fork_maps plain place plain.boolean First (sem_of type) (gets_maps plain place own (Some (sem_of type)) p) p)
        (then-keeps p (expr_maps plain place operand p) (over p points) (expr-keeps operand p) (over-keeps p points))
        (fork-keeps plain.boolean (sem_of type) First (gets_maps plain place own (Some (sem_of type)) p) p
        (then-keeps p (gets_maps plain place own (Some error_type) p) (mark (p ++ error_type ∷ [])) (gets-keep own (Some error_type) p) (mark-keeps p (error_type ∷ []))) (gets-keep own (Some (sem_of type)) p))
    expr-keeps (Trap' _ operand type at) p =
        let b : Stack = p ++ own_type operand ∷ [] in
        then-keeps p (λ m. mark b (mark b (expr_maps plain place operand p (mark p m)))) (mark (p ++ error_type ∷ []))
        (then-keeps p (λ m. mark b (expr_maps plain place operand p (mark p m))) (mark b)
        (then-keeps p (λ m. expr_maps plain place operand p (mark p m)) (mark b) (then-keeps p (mark p) (expr_maps plain place operand p) (here-keeps p) (expr-keeps operand p)) (mark-keeps p (own_type operand ∷ [])))
        (mark-keeps p (own_type operand ∷ []))) (mark-keeps p (error_type ∷ []))
    expr-keeps (Function' function _ value type at) p =
        then-keeps p (captures_maps plain place function.value.captured p) (mark (above p (map captured_type function.value.captured))) (captures-keep function.value.captured p) (above-keeps p (map captured_type function.value.captured))
    expr-keeps (Parens' _ inner type at) p = expr-keeps inner p

    row-keeps : {n : _} (row : Row_of-TypedExpr n) (p : Stack) → Keeps p (row_maps plain place row p)
    row-keeps end_of-TypedExpr p = nothing-keeps p
    row-keeps (more_of-TypedExpr e rest) p =
        let m : Stack = p ++ own_type e ∷ [] in
        then-keeps p (expr_maps plain place e p) (row_maps plain place rest m) (expr-keeps e p) (wider-keeps p (own_type e ∷ []) (row_maps plain place rest m) (row-keeps rest m))

  exprs-keep : (es : List TypedExpr) (p : Stack) → Keeps p (exprs_maps plain place es p)
  exprs-keep [] p = nothing-keeps p
  exprs-keep (e ∷ es) p =
      let m : Stack = p ++ own_type e ∷ [] in
      then-keeps p (expr_maps plain place e p) (exprs_maps plain place es m) (expr-keeps e p) (wider-keeps p (own_type e ∷ []) (exprs_maps plain place es m) (exprs-keep es m))

  taken-keeps : (e : TypedExpr) (p : Stack) → Keeps p (taken_maps plain place e p)
  taken-keeps e p = then-keeps p (expr_maps plain place e p) (mark (p ++ own_type e ∷ [])) (expr-keeps e p) (mark-keeps p (own_type e ∷ []))

  -- ---- assignments with an operator

  stores-keep : (t : SemType) (op : Operator) (value : TypedExpr) (p : Stack) → Keeps p (stores_maps plain place t op value p)
  stores-keep t op value p =
      let points : List Stack = operator_points plain op (t ∷ own_type value ∷ []) in
      let Value : Marks = expr_maps plain place value (p ++ t ∷ []) in
      then-keeps p (λ m. over p points (Value m)) (mark (p ++ operator_type plain op ∷ []))
      (then-keeps p Value (over p points) (wider-keeps p (t ∷ []) Value (expr-keeps value (p ++ t ∷ []))) (over-keeps p points)) (mark-keeps p (operator_type plain op ∷ []))

  update-keeps : (t : UpdateTarget) (op : Operator) (value : TypedExpr) (p : Stack) → Keeps p (update_maps plain place t op value p)
  update-keeps (target.Local slot narrowed type) op value p =
      then-keeps p (gets_maps plain place slot (narrowed_to narrowed type) p) (stores_maps plain place (sem_of type) op value p) (gets-keep slot (narrowed_to narrowed type) p) (stores-keep (sem_of type) op value p)
  update-keeps (target.Variable x) op value p = then-keeps p (mark p) (stores_maps plain place (variable_type place x) op value p) (here-keeps p) (stores-keep (variable_type place x) op value p)
  update-keeps (target.Member own how container key type) op value p =
      let container-type : SemType = slot_type place own in
      let key-type : SemType = slot_type place (own + 1) in
      let points : List Stack = member_points plain place how own in
      let Stores : Marks = stores_maps plain place (sem_of type) op value ((p ++ container-type ∷ []) ++ key-type ∷ []) in
      then-keeps p (λ m. over p points (taken_maps plain place key.value p (taken_maps plain place container.value p m))) Stores
      (then-keeps p (λ m. taken_maps plain place key.value p (taken_maps plain place container.value p m)) (over p points)
      (then-keeps p (taken_maps plain place container.value p) (taken_maps plain place key.value p) (taken-keeps container.value p) (taken-keeps key.value p)) (over-keeps p points))
      (wider-keeps p (container-type ∷ []) Stores (wider-keeps (p ++ container-type ∷ []) (key-type ∷ []) Stores (stores-keep (sem_of type) op value ((p ++ container-type ∷ []) ++ key-type ∷ []))))

  -- ---- loops

  both-keep : (first second : TypedExpr) (p : Stack) → Keeps p (λ m. taken_maps plain place second p (taken_maps plain place first p m))
  both-keep first second p = then-keeps p (taken_maps plain place first p) (taken_maps plain place second p) (taken-keeps first p) (taken-keeps second p)

  begin-keeps : (source : Source) (p : Stack) → Keeps p (begin_maps plain place source p)
  begin-keeps (Range own Included from to) p =
      let points : List Stack = [] ∷ (slot_type place own ∷ []) ∷ (slot_type place own ∷ slot_type place (own + 1) ∷ []) ∷ (plain.boolean ∷ []) ∷ [] in
      then-keeps p (λ m. taken_maps plain place to.value p (taken_maps plain place from.value p m)) (over p points) (both-keep from.value to.value p) (over-keeps p points)
  begin-keeps (Range own Excluded from to) p = both-keep from.value to.value p
  begin-keeps (ListSource own list) p =
      let points : List Stack = (own_type list.value ∷ []) ∷ [] ∷ (plain.int ∷ []) ∷ [] in
      then-keeps p (expr_maps plain place list.value p) (over p points) (expr-keeps list.value p) (over-keeps p points)

  prepare-keeps : (slot : ℕ) (source : Source) (p : Stack) → Keeps p (prepare_maps plain place slot source p)
  prepare-keeps slot (Range own Included from to) p =
      let points : List Stack = next_points plain place own slot in
      let more : List Stack = raise_points plain place own in
      let m : Stack = p ++ slot_type place (own + 2) ∷ [] in
      then-keeps p (λ k. over p more (mark m (over p points k))) (mark p)
      (then-keeps p (λ k. mark m (over p points k)) (over p more) (then-keeps p (over p points) (mark m) (over-keeps p points) (mark-keeps p (slot_type place (own + 2) ∷ []))) (over-keeps p more)) (here-keeps p)
  prepare-keeps slot (Range own Excluded from to) p = over-keeps p ([] ∷ (slot_type place own ∷ []) ∷ raise_points plain place own)
  prepare-keeps slot (ListSource own list) p =
      over-keeps p ([] ∷ (slot_type place own ∷ []) ∷ (slot_type place own ∷ slot_type place (own + 1) ∷ []) ∷ (slot_type place slot ∷ []) ∷ [])

  loop-keeps : (Tries : Marks) (tested : SemType) (Prepares Body : Marks) (p : Stack) → Keeps p Tries → Keeps p Prepares → Keeps p Body → Keeps p (loop_maps plain place Tries tested Prepares Body p)
  loop-keeps Tries tested Prepares Body p f g h =
      let m : Stack = p ++ tested ∷ [] in
      then-keeps p (λ k. Body (Prepares (mark m (Tries (mark p k))))) (mark p)
      (then-keeps p (λ k. Prepares (mark m (Tries (mark p k)))) Body
      (then-keeps p (λ k. mark m (Tries (mark p k))) Prepares
      (then-keeps p (λ k. Tries (mark p k)) (mark m) (then-keeps p (mark p) Tries (here-keeps p) f) (mark-keeps p (tested ∷ []))) g) h) (here-keeps p)

  -- ---- statements

  pattern-keeps : (own : ℕ) (value : Option Constant) (p : Stack) → Keeps p (pattern_maps plain place own value p)
  pattern-keeps own (Some c) p =
      let s : Stack = p ++ slot_type place own ∷ [] in
      let b : Stack = p ++ plain.boolean ∷ [] in
      then-keeps p (λ m. mark b (mark s (mark p m))) (mark p)
      (then-keeps p (λ m. mark s (mark p m)) (mark b) (then-keeps p (mark p) (mark s) (here-keeps p) (mark-keeps p (slot_type place own ∷ []))) (mark-keeps p (plain.boolean ∷ []))) (here-keeps p)
  pattern-keeps own None p = here-keeps p

  patterns-keep : (own : ℕ) (ts : List TypedPattern) (p : Stack) → Keeps p (patterns_maps plain place own ts p)
  patterns-keep own [] p = nothing-keeps p
  patterns-keep own (t ∷ ts) p = then-keeps p (pattern_maps plain place own t.value p) (patterns_maps plain place own ts p) (pattern-keeps own t.value p) (patterns-keep own ts p)

  mutual
    pub stmt-keeps : (s : TypedStmt) (p : Stack) → Keeps p (stmt_maps plain place s p)
    stmt-keeps (Set slot value at) p = taken-keeps value.value p
    stmt-keeps (Perform form operands at) p =
        then-keeps p (exprs_maps plain place operands.items p) (mark (above p (own_types operands.items))) (exprs-keep operands.items p) (above-keeps p (own_types operands.items))
    stmt-keeps (Update t op value at) p = update-keeps t op value.value p
    stmt-keeps (If' condition shape first shape' second at) p =
        then-keeps p (λ m. mark p (stmts_maps plain place first p (taken_maps plain place condition.value p m))) (stmts_maps plain place second p)
        (then-keeps p (λ m. stmts_maps plain place first p (taken_maps plain place condition.value p m)) (mark p)
        (then-keeps p (taken_maps plain place condition.value p) (stmts_maps plain place first p) (taken-keeps condition.value p) (stmts-keep first p)) (here-keeps p)) (stmts-keep second p)
    stmt-keeps (While' condition shape body at) p =
        loop-keeps (expr_maps plain place condition.value p) (own_type condition.value) (λ k. k) (stmts_maps plain place body p) p (expr-keeps condition.value p) (nothing-keeps p) (stmts-keep body p)
    stmt-keeps (Foreach' slot source shape body at) p =
        then-keeps p (begin_maps plain place source p) (loop_maps plain place (over p (tries_points plain place source)) (tried_type plain place source) (prepare_maps plain place slot source p) (stmts_maps plain place body p) p) (begin-keeps source p)
        (loop-keeps (over p (tries_points plain place source)) (tried_type plain place source) (prepare_maps plain place slot source p) (stmts_maps plain place body p) p (over-keeps p (tries_points plain place source)) (prepare-keeps slot source p) (stmts-keep body p))
    stmt-keeps (Match' own subject shape clauses at) p = then-keeps p (taken_maps plain place subject.value p) (clauses_maps plain place own clauses p) (taken-keeps subject.value p) (clauses-keep own clauses p)
    stmt-keeps (Return None at) p = then-keeps p (mark p) (mark (p ++ nil_type ∷ [])) (here-keeps p) (mark-keeps p (nil_type ∷ []))
    stmt-keeps (Return (Some e) at) p = taken-keeps e.value p
    stmt-keeps (BlockStmt shape stmts at) p = stmts-keep stmts p
    stmt-keeps (Break at) p = here-keeps p
    stmt-keeps (Continue at) p = here-keeps p

    stmts-keep : {n : _} (row : Row_of-TypedStmt n) (p : Stack) → Keeps p (stmts_maps plain place row p)
    stmts-keep end_of-TypedStmt p = nothing-keeps p
    stmts-keep (more_of-TypedStmt s rest) p = then-keeps p (stmt_maps plain place s p) (stmts_maps plain place rest p) (stmt-keeps s p) (stmts-keep rest p)

    clauses-keep : {n : _} (own : ℕ) (row : Row_of-TypedClause n) (p : Stack) → Keeps p (clauses_maps plain place own row p)
    clauses-keep own end_of-TypedClause p = nothing-keeps p
    clauses-keep own (more_of-TypedClause patterns shape stmts at rest) p =
        then-keeps p (λ m. mark p (stmts_maps plain place stmts p (mark p (patterns_maps plain place own patterns.items p m)))) (clauses_maps plain place own rest p)
        (then-keeps p (λ m. stmts_maps plain place stmts p (mark p (patterns_maps plain place own patterns.items p m))) (mark p)
        (then-keeps p (λ m. mark p (patterns_maps plain place own patterns.items p m)) (stmts_maps plain place stmts p)
        (then-keeps p (patterns_maps plain place own patterns.items p) (mark p) (patterns-keep own patterns.items p) (here-keeps p)) (stmts-keep stmts p)) (here-keeps p)) (clauses-keep own rest p)

pub expressions-keep-operands : ExpressionsKeepOperands
expressions-keep-operands plain place e p = expr-keeps plain place e p

pub statements-keep-operands : StatementsKeepOperands
statements-keep-operands plain place s p = stmt-keeps plain place s p
