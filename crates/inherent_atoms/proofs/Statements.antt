-- What each statement adds to the code that is being made names what the statement names.
use Rattle.std.proofs.Common.{◌≡◌, ◌∙◌, ◌+◌, ◌++◌, ℕ, List, [], ◌∷◌, Option, Some, None, refl, sym, subst, ap, map}
use Rattle.std.specs.Prelude.{negsuc}
use Rattle.std.specs.Global.{Global}
use Rattle.std.specs.formers.vec.Vec
use Rattle.operations.specs.declared.library.LibraryCall.TheVariants.{ListLength}
use Rattle.operations.specs.declared.operation.Constant.{Constant}
use Rattle.operations.specs.declared.operation.Constant.TheVariants as constant
use Rattle.operations.specs.declared.operation.Operation.{Operation}
use Rattle.operations.specs.declared.operation.Operation.TheVariants.{Const, Load, Store, LoadModule, StoreModule, Less, LessEqual, GetItem, Test, Library, Return as ReturnOp}
use Rattle.operations.specs.Uses.{Use}
use Rattle.typed_tree.specs.declared.expr.TypedExpr.{TypedExpr}
use Rattle.typed_tree.specs.declared.form.Operator.{Operator}
use Rattle.typed_tree.specs.declared.form.Operator.TheVariants as operator
use Rattle.typed_tree.specs.declared.stmt.PerformForm.{PerformForm}
use Rattle.typed_tree.specs.declared.stmt.PerformForm.TheVariants as perform
use Rattle.typed_tree.specs.declared.form.Read.{Read}
use Rattle.typed_tree.specs.declared.form.Read.TheVariants as read
use Rattle.typed_tree.specs.declared.stmt.RangeEnd.TheVariants.{Included, Excluded}
use Rattle.typed_tree.specs.declared.stmt.Source.{Source}
use Rattle.typed_tree.specs.declared.stmt.Source.TheVariants.{Range, List as ListSource}
use Rattle.typed_tree.specs.declared.stmt.TypedPattern.{TypedPattern}
use Rattle.typed_tree.specs.declared.stmt.TypedStmt.{TypedStmt, Set, Perform, Update, If', While', Foreach', Match', Return, Block' as BlockStmt, Break, Continue, out-TypedStmt, fold_out-TypedStmt, Row_of-TypedStmt, end_of-TypedStmt, more_of-TypedStmt, items-the_row-TypedStmt as stmts_in, items_shown-the_row-TypedStmt-0 as stmts-shown, Row_of-TypedClause, end_of-TypedClause, more_of-TypedClause, items-the_row-TypedClause as clauses_in, items_shown-the_row-TypedClause-1 as clauses-shown}
use Rattle.typed_tree.specs.declared.stmt.TypedClause.{TypedClause, fold_out-TypedClause, out-TypedClause}
use Rattle.typed_tree.specs.declared.stmt.TypedStmt.TheBlock.{shown-the_row-TypedStmt-0}
use Rattle.typed_tree.specs.declared.stmt.UpdateTarget.TheVariants as target
use denote.Hole.Carrier
use mathlib.Core.Former
use Rattle.typed_tree.specs.Listed.{Listed, nothing, ◌&◌, joined}
use Rattle.typed_tree.specs.Units.{UnitTree}
use Rattle.held_operations.specs.Constructs.{operator_operations, perform_operations}
use Rattle.held_operations.specs.Operation.{singleton}
use Rattle.eval_model.specs.Expressions.{narrowed_to}
use Rattle.eval_model.specs.Inherent.{expr_uses, stmts_uses}
use Rattle.eval_model.specs.Loops.{raises}
use Rattle.eval_model.specs.Statements.{reads_member, sets_member}
use Rattle.eval_model.specs.Ways.{Turns}
use Rattle.stack_code.specs.Commands.{GoTo, GoToIfNot}
use Rattle.lower_model.specs.Making.{ClauseMaking, Making, StmtMaking, add, all_do, begin_made, bind, clause_made, clause_step, clauses_in_turn, does, expr_made, exprs_made, fresh, gets, loops, match_made, next_label, nothing_made, parts, pattern_made, patterns_made, prepare_made, spoilt, stmt_made, stmt_step, stmts_in_turn, tries_made}
use Rattle.inherent_atoms.proofs.Adding.{Adds, add-adds, alike, both, does-adds, gets-adds, loops-add, named_before, nothing-adds, ops-add, ops_uses, parts-add, then-adds, turn-adds, uses_before}
use Rattle.inherent_atoms.proofs.Expressions.{expr-adds}

abbrev Loops : Type 0
Loops = Option (Turns ℕ)

abbrev made_of : List TypedStmt → Loops → Making → Making
made_of ss loop = stmts_in_turn (map stmt_made ss) loop

abbrev shown : (shape : (Vec.the_former (Former.this {0}) Global).Shape) → Row_of-TypedStmt (Former.arity (Vec.the_former (Former.this {0}) Global) shape) → List TypedStmt
shown shape row = (shown-the_row-TypedStmt-0 shape row).items

-- what a clause uses: what its statements use
abbrev clause_uses : TypedClause → Listed Use
clause_uses c = stmts_uses (out-TypedClause c).stmts.items

joined-same : {X Y : Type 0} (f g : X → Listed Y) → ((x : X) → f x ≡ g x) → (xs : List X) → joined (map f xs) ≡ joined (map g xs)
joined-same f g same [] = refl
joined-same f g same (x ∷ xs) = ap (λ l. l & joined (map f xs)) (same x) ∙ ap (λ l. g x & l) (joined-same f g same xs)

module _ (us : List UnitTree) where
  -- operations that use nothing
  quiet : (ops : List Operation) → ((k : List ℕ) → uses_before us (ops_uses us ops) k ≡ k) → Adds us (all_do ops) nothing
  quiet ops e = alike us (ops-add us ops) e

  operator-quiet : (op : Operator) → Adds us (all_do (operator_operations op)) nothing
  operator-quiet op = quiet (operator_operations op) (is op)
    where
      is : (op : Operator) (k : List ℕ) → uses_before us (ops_uses us (operator_operations op)) k ≡ k
      is operator.Negate k = refl
      is operator.Not k = refl
      is operator.Multiply k = refl
      is operator.Divide k = refl
      is operator.Remainder k = refl
      is operator.Add k = refl
      is operator.Concat k = refl
      is operator.Subtract k = refl
      is operator.Less k = refl
      is operator.LessEqual k = refl
      is operator.Greater k = refl
      is operator.GreaterEqual k = refl
      is operator.Equal k = refl
      is operator.NotEqual k = refl
      is operator.Same k = refl
      is operator.NotSame k = refl

  perform-quiet : (form : PerformForm) → Adds us (all_do (perform_operations form)) nothing
  perform-quiet form = quiet (perform_operations form) (is form)
    where
      is : (form : PerformForm) (k : List ℕ) → uses_before us (ops_uses us (perform_operations form)) k ≡ k
      is (perform.SetVariable x) k = refl
      is perform.SetItem k = refl
      is perform.SetKey k = refl
      is perform.Ignore k = refl
      is perform.Evaluate k = refl
      is perform.Panic k = refl

  reads-quiet : (own : ℕ) (how : Read) → Adds us (all_do (Load own ∷ Load (own + 1) ∷ reads_member how own)) nothing
  reads-quiet own how = quiet (Load own ∷ Load (own + 1) ∷ reads_member how own) (is how)
    where
      is : (how : Read) (k : List ℕ) → uses_before us (ops_uses us (Load own ∷ Load (own + 1) ∷ reads_member how own)) k ≡ k
      is read.Item k = refl
      is read.Key k = refl
      is read.Char k = refl
      is (read.Field name) k = refl
      is (read.OptionalField name) k = refl

  sets-quiet : (how : Read) → Adds us (does (sets_member how)) nothing
  sets-quiet read.Item = alike us (does-adds us (sets_member read.Item)) (λ k. refl)
  sets-quiet read.Key = alike us (does-adds us (sets_member read.Key)) (λ k. refl)
  sets-quiet read.Char = alike us (does-adds us (sets_member read.Char)) (λ k. refl)
  sets-quiet (read.Field name) = alike us (does-adds us (sets_member (read.Field name))) (λ k. refl)
  sets-quiet (read.OptionalField name) = alike us (does-adds us (sets_member (read.OptionalField name))) (λ k. refl)

  -- ---- assignments with an operator

  stores-add : (op : Operator) (value : TypedExpr) (Last : Making → Making) → Adds us Last nothing → Adds us (λ m. Last (all_do (operator_operations op) (expr_made value m))) (expr_uses value)
  stores-add op value Last last =
      alike us (then-adds us (expr_made value) (λ m. Last (all_do (operator_operations op) m)) (expr-adds us value) (then-adds us (all_do (operator_operations op)) Last (operator-quiet op) last)) (λ k. refl)

  member-adds : (own : ℕ) (how : Read) (container key : TypedExpr) (op : Operator) (value : TypedExpr)
      → Adds us (λ m. does (sets_member how) (all_do (operator_operations op) (expr_made value (all_do (Load own ∷ Load (own + 1) ∷ reads_member how own) (does (Store (own + 1)) (expr_made key (does (Store own) (expr_made container m)))))))) ((expr_uses container & expr_uses key) & expr_uses value)
  member-adds own how container key op value =
      alike us
      (then-adds us (λ m. does (Store (own + 1)) (expr_made key (does (Store own) (expr_made container m)))) (λ m. does (sets_member how) (all_do (operator_operations op) (expr_made value (all_do (Load own ∷ Load (own + 1) ∷ reads_member how own) m))))
      (then-adds us (λ m. does (Store own) (expr_made container m)) (λ m. does (Store (own + 1)) (expr_made key m))
      (then-adds us (expr_made container) (does (Store own)) (expr-adds us container) (does-adds us (Store own)))
      (then-adds us (expr_made key) (does (Store (own + 1))) (expr-adds us key) (does-adds us (Store (own + 1)))))
      (then-adds us (all_do (Load own ∷ Load (own + 1) ∷ reads_member how own)) (λ m. does (sets_member how) (all_do (operator_operations op) (expr_made value m))) (reads-quiet own how)
      (stores-add op value (does (sets_member how)) (sets-quiet how)))) (λ k. refl)

  -- ---- loops

  included-adds : (own : ℕ) (from to : TypedExpr)
      → Adds us (λ m. all_do (Load own ∷ Load (own + 1) ∷ LessEqual ∷ Store (own + 2) ∷ []) (does (Store (own + 1)) (expr_made to (does (Store own) (expr_made from m))))) (expr_uses from & expr_uses to)
  included-adds own from to =
      alike us
      (then-adds us (λ m. does (Store own) (expr_made from m)) (λ m. all_do (Load own ∷ Load (own + 1) ∷ LessEqual ∷ Store (own + 2) ∷ []) (does (Store (own + 1)) (expr_made to m)))
      (then-adds us (expr_made from) (does (Store own)) (expr-adds us from) (does-adds us (Store own)))
      (then-adds us (expr_made to) (λ m. all_do (Load own ∷ Load (own + 1) ∷ LessEqual ∷ Store (own + 2) ∷ []) (does (Store (own + 1)) m)) (expr-adds us to)
      (then-adds us (does (Store (own + 1))) (all_do (Load own ∷ Load (own + 1) ∷ LessEqual ∷ Store (own + 2) ∷ [])) (does-adds us (Store (own + 1))) (ops-add us (Load own ∷ Load (own + 1) ∷ LessEqual ∷ Store (own + 2) ∷ []))))) (λ k. refl)

  excluded-adds : (own : ℕ) (from to : TypedExpr) → Adds us (λ m. does (Store (own + 1)) (expr_made to (does (Store own) (expr_made from m)))) (expr_uses from & expr_uses to)
  excluded-adds own from to =
      alike us
      (then-adds us (λ m. does (Store own) (expr_made from m)) (λ m. does (Store (own + 1)) (expr_made to m))
      (then-adds us (expr_made from) (does (Store own)) (expr-adds us from) (does-adds us (Store own)))
      (then-adds us (expr_made to) (does (Store (own + 1))) (expr-adds us to) (does-adds us (Store (own + 1))))) (λ k. refl)

  list-adds : (own : ℕ) (list : TypedExpr) → Adds us (λ m. all_do (Store own ∷ Const (constant.Int (negsuc 0)) ∷ Store (own + 1) ∷ []) (expr_made list m)) (expr_uses list)
  list-adds own list =
      alike us
      (then-adds us (expr_made list) (all_do (Store own ∷ Const (constant.Int (negsuc 0)) ∷ Store (own + 1) ∷ [])) (expr-adds us list) (ops-add us (Store own ∷ Const (constant.Int (negsuc 0)) ∷ Store (own + 1) ∷ []))) (λ k. refl)

  tries-add : (source : Source) → Adds us (tries_made source) nothing
  tries-add (Range own Included from to) = alike us (ops-add us (Load (own + 2) ∷ [])) (λ k. refl)
  tries-add (Range own Excluded from to) = alike us (ops-add us (Load own ∷ Load (own + 1) ∷ Less ∷ [])) (λ k. refl)
  tries-add (ListSource own list) = alike us (ops-add us (raises (own + 1) ++ Load (own + 1) ∷ Load own ∷ Library ListLength None 1 ∷ Less ∷ [])) (λ k. refl)

  prepare-adds : (slot : ℕ) (source : Source) → Adds us (prepare_made slot source) nothing
  prepare-adds slot (Range own Included from to) =
      alike us
      (then-adds us (all_do (Load own ∷ Store slot ∷ Load own ∷ Load (own + 1) ∷ Less ∷ Store (own + 2) ∷ Load (own + 2) ∷ [])) (parts (all_do (raises own)) (all_do []))
      (ops-add us (Load own ∷ Store slot ∷ Load own ∷ Load (own + 1) ∷ Less ∷ Store (own + 2) ∷ Load (own + 2) ∷ []))
      (parts-add us (all_do (raises own)) (all_do []) (ops-add us (raises own)) (ops-add us []))) (λ k. refl)
  prepare-adds slot (Range own Excluded from to) = alike us (ops-add us (Load own ∷ Store slot ∷ raises own)) (λ k. refl)
  prepare-adds slot (ListSource own list) = alike us (ops-add us (Load own ∷ Load (own + 1) ∷ GetItem ∷ Store slot ∷ [])) (λ k. refl)

  -- ---- matches

  pattern-adds : (own body : ℕ) (value : Option Constant) → Adds us (pattern_made own body value) nothing
  pattern-adds own body None = alike us (add-adds us (GoTo body)) (λ k. refl)
  pattern-adds own body (Some c) = record { adds = made }
    where
      made : (m : Making) (k : List ℕ) → named_before us (pattern_made own body (Some c) m).steps k ≡ named_before us m.steps k
      made m k =
          let m2 = all_do (Load own ∷ Test (singleton c) ∷ []) (fresh m) in
          let m3 = add (GoToIfNot (next_label m)) m2 in
          (add-adds us (GoTo body)).adds m3 k ∙ (add-adds us (GoToIfNot (next_label m))).adds m2 k ∙ (ops-add us (Load own ∷ Test (singleton c) ∷ [])).adds (fresh m) k

  patterns-add : (own body : ℕ) (ts : List TypedPattern) → Adds us (patterns_made own body ts) nothing
  patterns-add own body [] = nothing-adds us
  patterns-add own body (t ∷ ts) =
      alike us (then-adds us (pattern_made own body t.value) (patterns_made own body ts) (pattern-adds own body t.value) (patterns-add own body ts)) (λ k. refl)

  abbrev clause_of : ℕ → List TypedPattern → ℕ → (Making → Making) → Making → Making
  clause_of own ts end Body m =
      let body = next_label m in
      let next = next_label (fresh m) in
      bind next (add (GoTo end) (Body (bind body (add (GoTo next) (patterns_made own body ts (fresh (fresh m)))))))

  clause-adds : {p : Listed Use} (own : ℕ) (ts : List TypedPattern) (end : ℕ) (Body : Making → Making) → Adds us Body p → Adds us (clause_of own ts end Body) p
  clause-adds {p} own ts end Body block = record { adds = made }
    where
      made : (m : Making) (k : List ℕ) → named_before us (clause_of own ts end Body m).steps k ≡ named_before us m.steps (uses_before us p k)
      made m k =
          let body = next_label m in
          let next = next_label (fresh m) in
          let m2 = fresh (fresh m) in
          let m3 = patterns_made own body ts m2 in
          let m5 = bind body (add (GoTo next) m3) in
          (add-adds us (GoTo end)).adds (Body m5) k ∙ block.adds m5 k ∙ (add-adds us (GoTo next)).adds m3 (uses_before us p k) ∙ (patterns-add own body ts).adds m2 (uses_before us p k)

  match-adds : {p : Listed Use} (own : ℕ) (subject : TypedExpr) (Clauses : ℕ → Making → Making) → ((end : ℕ) → Adds us (Clauses end) p) → Adds us (match_made own (expr_made subject) Clauses) (expr_uses subject & p)
  match-adds {p} own subject Clauses clauses = record { adds = made }
    where
      made : (m : Making) (k : List ℕ) → named_before us (match_made own (expr_made subject) Clauses m).steps k ≡ named_before us m.steps (uses_before us (expr_uses subject) (uses_before us p k))
      made m k =
          let m1 = fresh m in
          let m2 = expr_made subject m1 in
          (clauses (next_label m)).adds (does (Store own) m2) k ∙ (does-adds us (Store own)).adds m2 (uses_before us p k) ∙ (expr-adds us subject).adds m1 (uses_before us p k)

  -- ---- statements

  abbrev Using : List TypedStmt → Loops → Type 0
  Using ss loop = Adds us (made_of ss loop) (stmts_uses ss)

  shown-adds : (shape : _) (row : _) (loop : Loops) → Using (stmts_in _ row) loop → Using (shown shape row) loop
  shown-adds shape row loop h = subst (λ ss. Using ss loop) (sym (stmts-shown shape row)) h

  leaves-add : (label : ℕ) → Adds us (add (GoTo label)) nothing
  leaves-add label = alike us (add-adds us (GoTo label)) (λ k. refl)

  spoilt-adds : Adds us spoilt nothing
  spoilt-adds = record { adds = λ m k. refl }

  -- the same, said in two ways, of one statement
  one-of : {F G : Making → Making} {p q r : Listed Use} → F ≡ G → p ≡ q → Adds us G r → ((k : List ℕ) → uses_before us r k ≡ uses_before us q k) → Adds us F (p & nothing)
  one-of e f g same = alike us (both us e f g same) (λ k. refl)

  mutual
    unfolding out-TypedStmt Carrier.out

    pub stmt-adds : (s : TypedStmt) (loop : Loops) → Adds us (stmt_made s loop) (stmts_uses (s ∷ []))
    stmt-adds (Set slot value at) loop =
        one-of (λ i. fold_out-TypedStmt StmtMaking ClauseMaking stmt_step clause_step (Set slot value at) i loop) (fold_out-TypedStmt (Listed Use) (Listed Use) _ _ (Set slot value at))
        (then-adds us (expr_made value.value) (does (Store slot)) (expr-adds us value.value) (does-adds us (Store slot))) (λ k. refl)
    stmt-adds (Perform form operands at) loop =
        one-of (λ i. fold_out-TypedStmt StmtMaking ClauseMaking stmt_step clause_step (Perform form operands at) i loop) (fold_out-TypedStmt (Listed Use) (Listed Use) _ _ (Perform form operands at))
        (then-adds us (exprs_made operands.items) (all_do (perform_operations form)) (turn-adds us expr_made expr_uses (expr-adds us) operands.items) (perform-quiet form)) (λ k. refl)
    stmt-adds (Update (target.Local slot narrowed type) op value at) loop =
        one-of (λ i. fold_out-TypedStmt StmtMaking ClauseMaking stmt_step clause_step (Update (target.Local slot narrowed type) op value at) i loop) (fold_out-TypedStmt (Listed Use) (Listed Use) _ _ (Update (target.Local slot narrowed type) op value at))
        (then-adds us (gets slot (narrowed_to narrowed type)) (λ m. does (Store slot) (all_do (operator_operations op) (expr_made value.value m))) (gets-adds us slot (narrowed_to narrowed type)) (stores-add op value.value (does (Store slot)) (alike us (does-adds us (Store slot)) (λ k. refl)))) (λ k. refl)
    stmt-adds (Update (target.Variable x) op value at) loop =
        one-of (λ i. fold_out-TypedStmt StmtMaking ClauseMaking stmt_step clause_step (Update (target.Variable x) op value at) i loop) (fold_out-TypedStmt (Listed Use) (Listed Use) _ _ (Update (target.Variable x) op value at))
        (then-adds us (does (LoadModule x)) (λ m. does (StoreModule x) (all_do (operator_operations op) (expr_made value.value m))) (does-adds us (LoadModule x)) (stores-add op value.value (does (StoreModule x)) (alike us (does-adds us (StoreModule x)) (λ k. refl)))) (λ k. refl)
    stmt-adds (Update (target.Member own how container key type) op value at) loop =
        one-of (λ i. fold_out-TypedStmt StmtMaking ClauseMaking stmt_step clause_step (Update (target.Member own how container key type) op value at) i loop) (fold_out-TypedStmt (Listed Use) (Listed Use) _ _ (Update (target.Member own how container key type) op value at))
        (member-adds own how container.value key.value op value.value) (λ k. refl)
    stmt-adds (Return None at) loop =
        one-of (λ i. fold_out-TypedStmt StmtMaking ClauseMaking stmt_step clause_step (Return None at) i loop) (fold_out-TypedStmt (Listed Use) (Listed Use) _ _ (Return None at)) (ops-add us (Const constant.Nil ∷ ReturnOp ∷ [])) (λ k. refl)
    stmt-adds (Return (Some e) at) loop =
        one-of (λ i. fold_out-TypedStmt StmtMaking ClauseMaking stmt_step clause_step (Return (Some e) at) i loop) (fold_out-TypedStmt (Listed Use) (Listed Use) _ _ (Return (Some e) at))
        (then-adds us (expr_made e.value) (does ReturnOp) (expr-adds us e.value) (does-adds us ReturnOp)) (λ k. refl)
    stmt-adds (Break at) (Some l) =
        one-of (λ i. fold_out-TypedStmt StmtMaking ClauseMaking stmt_step clause_step (Break at) i (Some l)) (fold_out-TypedStmt (Listed Use) (Listed Use) _ _ (Break at)) (leaves-add l.exit) (λ k. refl)
    stmt-adds (Continue at) (Some l) =
        one-of (λ i. fold_out-TypedStmt StmtMaking ClauseMaking stmt_step clause_step (Continue at) i (Some l)) (fold_out-TypedStmt (Listed Use) (Listed Use) _ _ (Continue at)) (leaves-add l.head) (λ k. refl)
    stmt-adds (Break at) None =
        one-of (λ i. fold_out-TypedStmt StmtMaking ClauseMaking stmt_step clause_step (Break at) i None) (fold_out-TypedStmt (Listed Use) (Listed Use) _ _ (Break at)) spoilt-adds (λ k. refl)
    stmt-adds (Continue at) None =
        one-of (λ i. fold_out-TypedStmt StmtMaking ClauseMaking stmt_step clause_step (Continue at) i None) (fold_out-TypedStmt (Listed Use) (Listed Use) _ _ (Continue at)) spoilt-adds (λ k. refl)
    stmt-adds (BlockStmt shape stmts at) loop =
        one-of (λ i. fold_out-TypedStmt StmtMaking ClauseMaking stmt_step clause_step (BlockStmt shape stmts at) i loop) (fold_out-TypedStmt (Listed Use) (Listed Use) _ _ (BlockStmt shape stmts at)) (shown-adds shape stmts loop (row-adds stmts loop)) (λ k. refl)
    stmt-adds (If' condition shape first shape' second at) loop =
        one-of (λ i. fold_out-TypedStmt StmtMaking ClauseMaking stmt_step clause_step (If' condition shape first shape' second at) i loop) (fold_out-TypedStmt (Listed Use) (Listed Use) _ _ (If' condition shape first shape' second at))
        (then-adds us (expr_made condition.value) (parts (made_of (shown shape first) loop) (made_of (shown shape' second) loop)) (expr-adds us condition.value)
        (parts-add us (made_of (shown shape first) loop) (made_of (shown shape' second) loop) (shown-adds shape first loop (row-adds first loop)) (shown-adds shape' second loop (row-adds second loop)))) (λ k. refl)
    stmt-adds (While' condition shape body at) loop =
        one-of (λ i. fold_out-TypedStmt StmtMaking ClauseMaking stmt_step clause_step (While' condition shape body at) i loop) (fold_out-TypedStmt (Listed Use) (Listed Use) _ _ (While' condition shape body at))
        (loops-add us (expr_made condition.value) nothing_made (λ l. made_of (shown shape body) (Some l)) (expr-adds us condition.value) (nothing-adds us) (λ l. shown-adds shape body (Some l) (row-adds body (Some l)))) (λ k. refl)
    stmt-adds (Foreach' slot (Range own Included from to) shape body at) loop =
        one-of (λ i. fold_out-TypedStmt StmtMaking ClauseMaking stmt_step clause_step (Foreach' slot (Range own Included from to) shape body at) i loop) (fold_out-TypedStmt (Listed Use) (Listed Use) _ _ (Foreach' slot (Range own Included from to) shape body at))
        (then-adds us (begin_made (Range own Included from to)) (loops (tries_made (Range own Included from to)) (prepare_made slot (Range own Included from to)) (λ l. made_of (shown shape body) (Some l))) (included-adds own from.value to.value)
        (loops-add us (tries_made (Range own Included from to)) (prepare_made slot (Range own Included from to)) (λ l. made_of (shown shape body) (Some l)) (tries-add (Range own Included from to)) (prepare-adds slot (Range own Included from to)) (λ l. shown-adds shape body (Some l) (row-adds body (Some l))))) (λ k. refl)
    stmt-adds (Foreach' slot (Range own Excluded from to) shape body at) loop =
        one-of (λ i. fold_out-TypedStmt StmtMaking ClauseMaking stmt_step clause_step (Foreach' slot (Range own Excluded from to) shape body at) i loop) (fold_out-TypedStmt (Listed Use) (Listed Use) _ _ (Foreach' slot (Range own Excluded from to) shape body at))
        (then-adds us (begin_made (Range own Excluded from to)) (loops (tries_made (Range own Excluded from to)) (prepare_made slot (Range own Excluded from to)) (λ l. made_of (shown shape body) (Some l))) (excluded-adds own from.value to.value)
        (loops-add us (tries_made (Range own Excluded from to)) (prepare_made slot (Range own Excluded from to)) (λ l. made_of (shown shape body) (Some l)) (tries-add (Range own Excluded from to)) (prepare-adds slot (Range own Excluded from to)) (λ l. shown-adds shape body (Some l) (row-adds body (Some l))))) (λ k. refl)
    stmt-adds (Foreach' slot (ListSource own list) shape body at) loop =
        one-of (λ i. fold_out-TypedStmt StmtMaking ClauseMaking stmt_step clause_step (Foreach' slot (ListSource own list) shape body at) i loop) (fold_out-TypedStmt (Listed Use) (Listed Use) _ _ (Foreach' slot (ListSource own list) shape body at))
        (then-adds us (begin_made (ListSource own list)) (loops (tries_made (ListSource own list)) (prepare_made slot (ListSource own list)) (λ l. made_of (shown shape body) (Some l))) (list-adds own list.value)
        (loops-add us (tries_made (ListSource own list)) (prepare_made slot (ListSource own list)) (λ l. made_of (shown shape body) (Some l)) (tries-add (ListSource own list)) (prepare-adds slot (ListSource own list)) (λ l. shown-adds shape body (Some l) (row-adds body (Some l))))) (λ k. refl)
    stmt-adds (Match' own subject shape clauses at) loop =
        one-of (λ i. fold_out-TypedStmt StmtMaking ClauseMaking stmt_step clause_step (Match' own subject shape clauses at) i loop)
        (fold_out-TypedStmt (Listed Use) (Listed Use) _ _ (Match' own subject shape clauses at) ∙ ap (λ l. expr_uses subject.value & l) (joined-same _ clause_uses (λ c. fold_out-TypedClause (Listed Use) (Listed Use) _ _ c) _ ∙ ap (λ cs. joined (map clause_uses cs)) (clauses-shown shape clauses)))
        (subst (λ cs. Adds us (match_made own (expr_made subject.value) (λ end. clauses_in_turn (map clause_made cs) own end loop)) (expr_uses subject.value & joined (map clause_uses (clauses_in _ clauses)))) (sym (clauses-shown shape clauses))
        (match-adds own subject.value (λ end. clauses_in_turn (map clause_made (clauses_in _ clauses)) own end loop) (λ end. clauses-add own clauses end loop))) (λ k. refl)

    pub row-adds : {n : _} (row : Row_of-TypedStmt n) (loop : Loops) → Using (stmts_in _ row) loop
    row-adds end_of-TypedStmt loop = nothing-adds us
    row-adds (more_of-TypedStmt s rest) loop =
        alike us (then-adds us (stmt_made s loop) (made_of (stmts_in _ rest) loop) (stmt-adds s loop) (row-adds rest loop)) (λ k. refl)

    clauses-add : {n : _} (own : ℕ) (row : Row_of-TypedClause n) (end : ℕ) (loop : Loops) → Adds us (clauses_in_turn (map clause_made (clauses_in _ row)) own end loop) (joined (map clause_uses (clauses_in _ row)))
    clauses-add own end_of-TypedClause end loop = nothing-adds us
    clauses-add own (more_of-TypedClause patterns shape stmts at rest) end loop =
        let c : TypedClause = record { patterns = patterns; stmts = shown-the_row-TypedStmt-0 shape stmts; at = at } in
        then-adds us (clause_made c own end loop) (clauses_in_turn (map clause_made (clauses_in _ rest)) own end loop)
        (both us (λ i. fold_out-TypedClause StmtMaking ClauseMaking stmt_step clause_step c i own end loop) refl
        (clause-adds own patterns.items end (made_of (shown shape stmts) loop) (shown-adds shape stmts loop (row-adds stmts loop))) (λ k. refl))
        (clauses-add own rest end loop)
