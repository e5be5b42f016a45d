-- What each statement adds to the code that is being made stands for it.
use Rattle.std.proofs.Common.{◌≡◌, ℕ, ◌+◌, ◌++◌, ◌<◌, List, [], ◌∷◌, length, Option, Some, None, refl, sym, subst, ◌∙◌, arith, true, false, map}
use Rattle.std.proofs.Math.ListN.{length-set}
use Rattle.std.specs.Prelude.{option_map, negsuc}
use Rattle.std.specs.Global.{Global}
use Rattle.std.specs.formers.vec.Vec
use Rattle.operations.specs.declared.library.LibraryCall.TheVariants.{ListLength}
use Rattle.operations.specs.declared.operation.Constant.{Constant}
use Rattle.operations.specs.declared.operation.Constant.TheVariants as constant
use Rattle.operations.specs.declared.operation.Operation.{Operation}
use Rattle.operations.specs.declared.operation.Operation.TheVariants.{Const, Load, Store, LoadModule, StoreModule, Less, LessEqual, GetItem, Test, Library, Return as ReturnOp}
use Rattle.typed_tree.specs.declared.expr.TypedExpr.{TypedExpr}
use Rattle.typed_tree.specs.declared.form.Operator.{Operator}
use Rattle.typed_tree.specs.declared.stmt.RangeEnd.TheVariants.{Included, Excluded}
use Rattle.typed_tree.specs.declared.stmt.Source.{Source}
use Rattle.typed_tree.specs.declared.stmt.Source.TheVariants.{Range, List as ListSource}
use Rattle.typed_tree.specs.declared.stmt.TypedPattern.{TypedPattern}
use Rattle.typed_tree.specs.declared.stmt.TypedStmt.{TypedStmt, Set, Perform, Update, If', While', Foreach', Match', Return, Block' as BlockStmt, Break, Continue, out-TypedStmt, fold_out-TypedStmt, Row_of-TypedStmt, end_of-TypedStmt, more_of-TypedStmt, items-the_row-TypedStmt as stmts_in, items_shown-the_row-TypedStmt-0 as stmts-shown, Row_of-TypedClause, end_of-TypedClause, more_of-TypedClause, items-the_row-TypedClause as clauses_in, items_shown-the_row-TypedClause-1 as clauses-shown}
use Rattle.typed_tree.specs.declared.stmt.TypedClause.{TypedClause, fold_out-TypedClause}
use Rattle.typed_tree.specs.declared.stmt.TypedStmt.TheBlock.{shown-the_row-TypedStmt-0}
use Rattle.typed_tree.specs.declared.stmt.UpdateTarget.{UpdateTarget}
use Rattle.typed_tree.specs.declared.stmt.UpdateTarget.TheVariants as target
use denote.Hole.Carrier
use mathlib.Core.Former
use Rattle.held_operations.specs.Constructs.{operator_operations, perform_operations}
use Rattle.held_operations.specs.Operation.{singleton}
use Rattle.eval_model.specs.Expressions.{narrowed_to}
use Rattle.eval_model.specs.Loops.{raises}
use Rattle.eval_model.specs.Statements.{reads_member, sets_member}
use Rattle.eval_model.specs.Tasks.{Loop}
use Rattle.eval_model.specs.Walk.{BeginsOver, ClausesOver, ExprOver, ExprsOver, OpsOver, PatternOver, PatternsOver, PreparesOver, StmtsOver, TriesOver, UpdateOver, loop_of}
use Rattle.eval_model.specs.Ways.{Turns}
use Rattle.stack_code.specs.declared.code.Code.{Code}
use Rattle.stack_code.specs.Commands.{GoTo, GoToIfNot}
use Rattle.lower_model.specs.Lowered.{Comes, Does, Has, Spot, by, code_ways, here, spot}
use Rattle.lower_model.specs.Laying.{Keeps, Laid, Piece, StmtPiece, turns_of}
use Rattle.lower_model.specs.Making.{ClauseMaking, Making, StmtMaking, add, all_do, begin_made, bind, clause_made, clause_step, clauses_in_turn, does, expr_made, exprs_made, fresh, gets, loops, match_made, next_label, nothing_made, parts, pattern_made, patterns_made, prepare_made, spoilt, stmt_made, stmt_step, stmts_in_turn, tries_made, update_made}
use Rattle.lower_model.proofs.CodeWays.{comes-then}
use Rattle.lower_model.proofs.Laying.{IsOpen, add-lays, as-laid, bind-keeps, bind-other, bind-says, does-laid, fresh-below, fresh-keeps, fresh-open, fresh-says, keeps-then, length-one, loops-laid, nothing-laid, open-kept, ops-laid, parts-laid, then-laid}
use Rattle.lower_model.proofs.Lowering.{expr-laid, gets-laid, made}

exprs-laid : (es : List TypedExpr) → Laid (exprs_made es) (λ code places landings. ExprsOver (code_ways code) es)
exprs-laid [] = nothing-laid
exprs-laid (e ∷ es) = then-laid (expr_made e) (exprs_made es) (expr-laid e) (exprs-laid es)

-- ---- assignments with an operator

-- the value, the operator and the store
abbrev Stores : Operator → TypedExpr → Operation → Piece
Stores op value store code places landings p q =
    (n : Spot) × ExprOver (code_ways code) value p n × ((k : Spot) × OpsOver (code_ways code) (operator_operations op) n k × Does code store k q)

stores-laid : (op : Operator) (value : TypedExpr) (store : Operation) → Laid (λ m. does store (all_do (operator_operations op) (expr_made value m))) (Stores op value store)
stores-laid op value store =
    then-laid (expr_made value) (λ m. does store (all_do (operator_operations op) m)) (expr-laid value)
    (then-laid (all_do (operator_operations op)) (does store) (ops-laid (operator_operations op)) (does-laid store))

update-laid : (t : UpdateTarget) (op : Operator) (value : TypedExpr) → Laid (update_made t op value) (λ code places landings. UpdateOver (code_ways code) t op value)
update-laid (target.Local slot narrowed type) op value =
    as-laid _ (λ code places landings p q (m, get, (n, a, (k, ops, o))). (m, n, k, get, a, ops, o))
    (then-laid (gets slot (narrowed_to narrowed type)) (λ m. does (Store slot) (all_do (operator_operations op) (expr_made value m))) (gets-laid slot (narrowed_to narrowed type)) (stores-laid op value (Store slot)))
update-laid (target.Variable x) op value =
    as-laid _ (λ code places landings p q (m, get, (n, a, (k, ops, o))). (m, n, k, get, a, ops, o))
    (then-laid (does (LoadModule x)) (λ m. does (StoreModule x) (all_do (operator_operations op) (expr_made value m))) (does-laid (LoadModule x)) (stores-laid op value (StoreModule x)))
update-laid (target.Member own how container key type) op value =
    as-laid _ (λ code places landings p q (a, x, (b, s, (c, y, (d, t, (m, reads, (n, v, (k, ops, o))))))). (a, b, c, d, m, n, k, x, s, y, t, reads, v, ops, o))
    (then-laid (expr_made container.value) (λ m. does (sets_member how) (all_do (operator_operations op) (expr_made value (all_do (Load own ∷ Load (own + 1) ∷ reads_member how own) (does (Store (own + 1)) (expr_made key.value (does (Store own) m))))))) (expr-laid container.value)
    (then-laid (does (Store own)) (λ m. does (sets_member how) (all_do (operator_operations op) (expr_made value (all_do (Load own ∷ Load (own + 1) ∷ reads_member how own) (does (Store (own + 1)) (expr_made key.value m)))))) (does-laid (Store own))
    (then-laid (expr_made key.value) (λ m. does (sets_member how) (all_do (operator_operations op) (expr_made value (all_do (Load own ∷ Load (own + 1) ∷ reads_member how own) (does (Store (own + 1)) m))))) (expr-laid key.value)
    (then-laid (does (Store (own + 1))) (λ m. does (sets_member how) (all_do (operator_operations op) (expr_made value (all_do (Load own ∷ Load (own + 1) ∷ reads_member how own) m)))) (does-laid (Store (own + 1)))
    (then-laid (all_do (Load own ∷ Load (own + 1) ∷ reads_member how own)) (λ m. does (sets_member how) (all_do (operator_operations op) (expr_made value m))) (ops-laid (Load own ∷ Load (own + 1) ∷ reads_member how own))
    (stores-laid op value (sets_member how)))))))

-- ---- loops

begin-laid : (source : Source) → Laid (begin_made source) (λ code places landings. BeginsOver (code_ways code) source)
begin-laid (Range own Included from to) =
    as-laid _ (λ code places landings p q (a, x, (b, s, (c, y, (d, t, ops)))). (a, b, c, d, x, s, y, t, ops))
    (then-laid (expr_made from.value) (λ m. all_do (Load own ∷ Load (own + 1) ∷ LessEqual ∷ Store (own + 2) ∷ []) (does (Store (own + 1)) (expr_made to.value (does (Store own) m)))) (expr-laid from.value)
    (then-laid (does (Store own)) (λ m. all_do (Load own ∷ Load (own + 1) ∷ LessEqual ∷ Store (own + 2) ∷ []) (does (Store (own + 1)) (expr_made to.value m))) (does-laid (Store own))
    (then-laid (expr_made to.value) (λ m. all_do (Load own ∷ Load (own + 1) ∷ LessEqual ∷ Store (own + 2) ∷ []) (does (Store (own + 1)) m)) (expr-laid to.value)
    (then-laid (does (Store (own + 1))) (all_do (Load own ∷ Load (own + 1) ∷ LessEqual ∷ Store (own + 2) ∷ [])) (does-laid (Store (own + 1)))
    (ops-laid (Load own ∷ Load (own + 1) ∷ LessEqual ∷ Store (own + 2) ∷ []))))))
begin-laid (Range own Excluded from to) =
    as-laid _ (λ code places landings p q (a, x, (b, s, (c, y, t))). (a, b, c, x, s, y, t))
    (then-laid (expr_made from.value) (λ m. does (Store (own + 1)) (expr_made to.value (does (Store own) m))) (expr-laid from.value)
    (then-laid (does (Store own)) (λ m. does (Store (own + 1)) (expr_made to.value m)) (does-laid (Store own))
    (then-laid (expr_made to.value) (does (Store (own + 1))) (expr-laid to.value) (does-laid (Store (own + 1))))))
begin-laid (ListSource own list) =
    then-laid (expr_made list.value) (all_do (Store own ∷ Const (constant.Int (negsuc 0)) ∷ Store (own + 1) ∷ [])) (expr-laid list.value) (ops-laid (Store own ∷ Const (constant.Int (negsuc 0)) ∷ Store (own + 1) ∷ []))

abbrev Tries : Loop → Piece
Tries loop code places landings = TriesOver (code_ways code) loop

abbrev Prepares : Loop → Piece
Prepares loop code places landings = PreparesOver (code_ways code) loop

abbrev over : ℕ → Source → Code → Loop
over slot source code = loop_of (code_ways code) slot source

tries-laid : (slot : ℕ) (source : Source) → Laid (tries_made source) (λ code places landings. TriesOver (code_ways code) (over slot source code))
tries-laid slot (Range own Included from to) = ops-laid (Load (own + 2) ∷ [])
tries-laid slot (Range own Excluded from to) = ops-laid (Load own ∷ Load (own + 1) ∷ Less ∷ [])
tries-laid slot (ListSource own list) = ops-laid (raises (own + 1) ++ Load (own + 1) ∷ Load own ∷ Library ListLength None 1 ∷ Less ∷ [])

prepare-laid : (slot : ℕ) (source : Source) → Laid (prepare_made slot source) (λ code places landings. PreparesOver (code_ways code) (over slot source code))
prepare-laid slot (Range own Included from to) =
    then-laid (all_do (Load own ∷ Store slot ∷ Load own ∷ Load (own + 1) ∷ Less ∷ Store (own + 2) ∷ Load (own + 2) ∷ [])) (parts (all_do (raises own)) (all_do []))
    (ops-laid (Load own ∷ Store slot ∷ Load own ∷ Load (own + 1) ∷ Less ∷ Store (own + 2) ∷ Load (own + 2) ∷ [])) (parts-laid (all_do (raises own)) (all_do []) (ops-laid (raises own)) (ops-laid []))
prepare-laid slot (Range own Excluded from to) = ops-laid (Load own ∷ Store slot ∷ raises own)
prepare-laid slot (ListSource own list) = ops-laid (Load own ∷ Load (own + 1) ∷ GetItem ∷ Store slot ∷ [])

-- ---- matches

-- a test of the slot, and two ways: to the body, and to before q
abbrev Fits : ℕ → ℕ → Constant → Piece
Fits own body c code places landings p q =
    (m a : Spot) × OpsOver (code_ways code) (Load own ∷ Test (singleton c) ∷ []) p m × (code_ways code).takes true m a
    × (code_ways code).comes a (spot (places body) landings) × (code_ways code).takes false m q

pattern-laid : (own body : ℕ) (c : Constant) → Laid (pattern_made own body (Some c)) (Fits own body c)
pattern-laid own body c m =
    let l = next_label m in
    let ops = Load own ∷ Test (singleton c) ∷ [] in
    let m1 = fresh m in
    let m2 = all_do ops m1 in
    let m3 = add (GoToIfNot l) m2 in
    let m4 = add (GoTo body) m3 in
    let one = ops-laid ops m1 in
    let two = add-lays (GoToIfNot l) m2 in
    let three = add-lays (GoTo body) m3 in
    let k14 : Keeps m1 m4 = keeps-then one.keeps (keeps-then two.keeps three.keeps) in
    let open4 : IsOpen l m4 = open-kept l k14 (fresh-below m) (fresh-open m) in
    record {
      keeps = bind-keeps l m m4 (omega arith) (keeps-then (fresh-keeps m) k14);
      says = λ code places a5.
          let a4 = bind-says code places l m4 open4 a5 in
          let a3 = three.says code places a4.0 in
          let a2 = two.says code places a3.0 in
          let a1 = one.says code places a2.0 in (
            fresh-says code places m a1.0,
            λ landings. (
              spot (length m2.steps) landings,
              spot (length m3.steps) landings,
              a1.1 landings,
              ((places l, (a2.1 landings).0), (a2.1 landings).1),
              (by (a3.1 landings).0 here, refl),
              (subst (λ x. Has code (length m2.steps) (GoToIfNot x)) a4.1 (a2.1 landings).0, refl),
            ),
          );
    }

-- where the patterns end it goes on at n
abbrev Patterns : ℕ → ℕ → List TypedPattern → Piece
Patterns own body ts code places landings p q =
    (n : Spot) → (code_ways code).comes q n → PatternsOver (code_ways code) own ts (spot (places body) landings) p n

abbrev Pattern : ℕ → ℕ → Option Constant → List TypedPattern → Piece
Pattern own body value ts code places landings p q =
    (n : Spot) → (code_ways code).comes q n →
    PatternOver (code_ways code) own value (λ k. PatternsOver (code_ways code) own ts (spot (places body) landings) k n) (spot (places body) landings) p

pattern-then : (own body : ℕ) (value : Option Constant) (ts : List TypedPattern) → Laid (patterns_made own body ts) (Patterns own body ts) → Laid (λ m. patterns_made own body ts (pattern_made own body value m)) (Pattern own body value ts)
pattern-then own body (Some c) ts rest =
    as-laid _ (λ code places landings p q (k, (m, a, ops, way, out, other), more) n go. (m, a, k, ops, way, out, other, more n go))
    (then-laid (pattern_made own body (Some c)) (patterns_made own body ts) (pattern-laid own body c) rest)
pattern-then own body None ts rest =
    as-laid _ (λ code places landings p q (k, (jump, is), more) n go. (by jump here, refl))
    (then-laid (add (GoTo body)) (patterns_made own body ts) (add-lays (GoTo body)) rest)

patterns-laid : (own body : ℕ) (ts : List TypedPattern) → Laid (patterns_made own body ts) (Patterns own body ts)
patterns-laid own body [] = as-laid (λ m. m) (λ code places landings p q c n d. (comes-then code c.0 d.0, d.1 ∙ c.1)) nothing-laid
patterns-laid own body (t ∷ ts) = pattern-then own body t.value ts (patterns-laid own body ts)

-- a clause: its patterns, its body, and a jump to the end of the match
abbrev Clause : ℕ → List TypedPattern → ℕ → Piece → Piece
Clause own ts end Body code places landings p q =
    (b m : Spot) × PatternsOver (code_ways code) own ts b p q × Body code places landings b m × (code_ways code).comes m (spot (places end) landings)

abbrev clause_of : ℕ → List TypedPattern → ℕ → (Making → Making) → Making → Making
clause_of own ts end Body m =
    let body = next_label m in
    let next = next_label (fresh m) in
    bind next (add (GoTo end) (Body (bind body (add (GoTo next) (patterns_made own body ts (fresh (fresh m)))))))

clause-laid : {P : Piece} (own : ℕ) (ts : List TypedPattern) (end : ℕ) (Body : Making → Making) → Laid Body P → Laid (clause_of own ts end Body) (Clause own ts end P)
clause-laid {P} own ts end Body block m =
    let body = next_label m in
    let m1 = fresh m in
    let next = next_label m1 in
    let m2 = fresh m1 in
    let m3 = patterns_made own body ts m2 in
    let m4 = add (GoTo next) m3 in
    let m5 = bind body m4 in
    let m6 = Body m5 in
    let m7 = add (GoTo end) m6 in
    let one = patterns-laid own body ts m2 in
    let two = add-lays (GoTo next) m3 in
    let three = block m5 in
    let four = add-lays (GoTo end) m6 in
    let apart : next ≡ body + 1 = length-one m.labels None in
    let k24 : Keeps m2 m4 = keeps-then one.keeps two.keeps in
    let k14 : Keeps m1 m4 = keeps-then (fresh-keeps m1) k24 in
    let k57 : Keeps m5 m7 = keeps-then three.keeps four.keeps in
    let body4 : IsOpen body m4 = open-kept body k14 (fresh-below m) (fresh-open m) in
    let next5 : IsOpen next m5 = bind-other next body m4 (λ e. omega (arith, apart, e)) (open-kept next k24 (fresh-below m1) (fresh-open m1)) in
    let below5 : next < length m5.labels = subst (λ x. next < x) (sym (length-set m4.labels body (Some (length m4.steps)))) (omega (arith, fresh-below m1, k24.more)) in
    let next7 : IsOpen next m7 = open-kept next k57 below5 next5 in
    let k07 : Keeps m m7 = keeps-then (bind-keeps body m m4 (omega arith) (keeps-then (fresh-keeps m) k14)) k57 in
    record {
      keeps = bind-keeps next m m7 (omega (arith, apart)) k07;
      says = λ code places a8.
          let a7 = bind-says code places next m7 next7 a8 in
          let a6 = four.says code places a7.0 in
          let a5 = three.says code places a6.0 in
          let a4 = bind-says code places body m4 body4 a5.0 in
          let a3 = two.says code places a4.0 in
          let a2 = one.says code places a3.0 in (
            fresh-says code places m (fresh-says code places m1 a2.0),
            λ landings. (
              spot (places body) landings,
              spot (length m6.steps) landings,
              a2.1 landings (spot (length m7.steps) landings) (by (subst (λ x. Has code (length m3.steps) (GoTo x)) a7.1 (a3.1 landings).0) here, refl),
              subst (λ x. P code places landings (spot x landings) (spot (length m6.steps) landings)) (sym a4.1) (a5.1 landings),
              (by (a6.1 landings).0 here, refl),
            ),
          );
    }

-- where the clauses end, and where one of them leads, it goes on at q
abbrev Ending : ℕ → Piece → Piece
Ending end P code places landings p r =
    (q : Spot) → (code_ways code).comes (spot (places end) landings) q → (code_ways code).comes r q → P code places landings p q

abbrev Matching : ℕ → TypedExpr → Piece → Piece
Matching own subject P code places landings p q =
    (m n : Spot) × ExprOver (code_ways code) subject p m × Does code (Store own) m n × P code places landings n q

match-laid : {P : Piece} (own : ℕ) (subject : TypedExpr) (Clauses : ℕ → Making → Making) → ((end : ℕ) → Laid (Clauses end) (Ending end P)) → Laid (match_made own (expr_made subject) Clauses) (Matching own subject P)
match-laid {P} own subject Clauses clauses m =
    let end = next_label m in
    let m1 = fresh m in
    let m2 = expr_made subject m1 in
    let m3 = does (Store own) m2 in
    let m4 = Clauses end m3 in
    let one = expr-laid subject m1 in
    let two = does-laid (Store own) m2 in
    let three = clauses end m3 in
    let k14 : Keeps m1 m4 = keeps-then one.keeps (keeps-then two.keeps three.keeps) in
    let open4 : IsOpen end m4 = open-kept end k14 (fresh-below m) (fresh-open m) in
    record {
      keeps = bind-keeps end m m4 (omega arith) (keeps-then (fresh-keeps m) k14);
      says = λ code places a5.
          let a4 = bind-says code places end m4 open4 a5 in
          let a3 = three.says code places a4.0 in
          let a2 = two.says code places a3.0 in
          let a1 = one.says code places a2.0 in (
            fresh-says code places m a1.0,
            λ landings. (
              spot (length m2.steps) landings,
              spot (length m3.steps) landings,
              a1.1 landings,
              a2.1 landings,
              a3.1 landings (spot (length m4.steps) landings) (subst (λ x. Comes code x (length m4.steps)) (sym a4.1) here, refl) (here, refl),
            ),
          );
    }

-- ---- statements

spoilt-laid : (P : Piece) → Laid spoilt P
spoilt-laid P m =
    record { keeps = record { more = omega arith; labels = λ l lt. refl }; says = λ code places a. absurd (let e : false ≡ true = a.sound in let bad : ⊥ = cc in bad) }

abbrev Loops : Type 0
Loops = Option (Turns ℕ)

abbrev turns_around : (ℕ → ℕ) → List ℕ → Loops → Option (Turns Spot)
turns_around places landings loop = option_map (turns_of places landings) loop

abbrev Rows : {n : _} → Row_of-TypedStmt n → Loops → Piece
Rows row loop code places landings = StmtsOver (code_ways code) row (turns_around places landings loop)

abbrev Clauses : {n : _} → ℕ → Row_of-TypedClause n → Loops → Piece
Clauses own row loop code places landings = ClausesOver (code_ways code) own row (turns_around places landings loop)

abbrev made_of : List TypedStmt → Loops → Making → Making
made_of ss loop = stmts_in_turn (map stmt_made ss) loop

abbrev shown : (shape : (Vec.the_former (Former.this {0}) Global).Shape) → Row_of-TypedStmt (Former.arity (Vec.the_former (Former.this {0}) Global) shape) → List TypedStmt
shown shape row = (shown-the_row-TypedStmt-0 shape row).items

shown-laid : {P : Piece} (shape : _) (row : _) (loop : Loops) → Laid (made_of (stmts_in _ row) loop) P → Laid (made_of (shown shape row) loop) P
shown-laid {P} shape row loop h = subst (λ ss. Laid (made_of ss loop) P) (sym (stmts-shown shape row)) h

leaves-laid : (label : Turns ℕ → ℕ) (l : Turns ℕ) → Laid (add (GoTo (label l))) (λ code places landings p q. (code_ways code).comes p (spot (places (label l)) landings) × (code_ways code).stops p q)
leaves-laid label l = as-laid (add (GoTo (label l))) (λ code places landings p q h. ((by h.0 here, refl), refl)) (add-lays (GoTo (label l)))

mutual
  unfolding out-TypedStmt Carrier.out

  pub stmt-laid : (s : TypedStmt) (loop : Loops) → Laid (stmt_made s loop) (StmtPiece s loop)
  stmt-laid (Set slot value at) loop =
      made (λ i. fold_out-TypedStmt StmtMaking ClauseMaking stmt_step clause_step (Set slot value at) i loop) (then-laid (expr_made value.value) (does (Store slot)) (expr-laid value.value) (does-laid (Store slot)))
  stmt-laid (Perform form operands at) loop =
      made (λ i. fold_out-TypedStmt StmtMaking ClauseMaking stmt_step clause_step (Perform form operands at) i loop) (then-laid (exprs_made operands.items) (all_do (perform_operations form)) (exprs-laid operands.items) (ops-laid (perform_operations form)))
  stmt-laid (Update t op value at) loop =
      made (λ i. fold_out-TypedStmt StmtMaking ClauseMaking stmt_step clause_step (Update t op value at) i loop) (update-laid t op value.value)
  stmt-laid (Return None at) loop =
      made (λ i. fold_out-TypedStmt StmtMaking ClauseMaking stmt_step clause_step (Return None at) i loop) (ops-laid (Const constant.Nil ∷ ReturnOp ∷ []))
  stmt-laid (Return (Some e) at) loop =
      made (λ i. fold_out-TypedStmt StmtMaking ClauseMaking stmt_step clause_step (Return (Some e) at) i loop) (then-laid (expr_made e.value) (does ReturnOp) (expr-laid e.value) (does-laid ReturnOp))
  stmt-laid (Break at) (Some l) =
      made (λ i. fold_out-TypedStmt StmtMaking ClauseMaking stmt_step clause_step (Break at) i (Some l)) (leaves-laid (λ l. l.exit) l)
  stmt-laid (Continue at) (Some l) =
      made (λ i. fold_out-TypedStmt StmtMaking ClauseMaking stmt_step clause_step (Continue at) i (Some l)) (leaves-laid (λ l. l.head) l)
  stmt-laid (Break at) None = made (λ i. fold_out-TypedStmt StmtMaking ClauseMaking stmt_step clause_step (Break at) i None) (spoilt-laid _)
  stmt-laid (Continue at) None = made (λ i. fold_out-TypedStmt StmtMaking ClauseMaking stmt_step clause_step (Continue at) i None) (spoilt-laid _)
  stmt-laid (BlockStmt shape stmts at) loop =
      made (λ i. fold_out-TypedStmt StmtMaking ClauseMaking stmt_step clause_step (BlockStmt shape stmts at) i loop) (shown-laid shape stmts loop (row-laid stmts loop))
  stmt-laid (If' condition shape first shape' second at) loop =
      made (λ i. fold_out-TypedStmt StmtMaking ClauseMaking stmt_step clause_step (If' condition shape first shape' second at) i loop)
      (then-laid (expr_made condition.value) (parts (made_of (shown shape first) loop) (made_of (shown shape' second) loop)) (expr-laid condition.value)
      (parts-laid (made_of (shown shape first) loop) (made_of (shown shape' second) loop) (shown-laid shape first loop (row-laid first loop)) (shown-laid shape' second loop (row-laid second loop))))
  stmt-laid (While' condition shape body at) loop =
      made (λ i. fold_out-TypedStmt StmtMaking ClauseMaking stmt_step clause_step (While' condition shape body at) i loop)
      (as-laid _ (λ code places landings p q (l, c, turning, d). (turns_of places landings l, c, turning, d))
      (loops-laid (expr_made condition.value) nothing_made (λ l. made_of (shown shape body) (Some l)) (expr-laid condition.value) nothing-laid (λ l. shown-laid shape body (Some l) (row-laid body (Some l)))))
  stmt-laid (Foreach' slot source shape body at) loop =
      made (λ i. fold_out-TypedStmt StmtMaking ClauseMaking stmt_step clause_step (Foreach' slot source shape body at) i loop)
      (as-laid _ (λ code places landings p q (m, b, (l, c, turning, d)). (m, turns_of places landings l, b, c, turning, d))
      (then-laid (begin_made source) (loops (tries_made source) (prepare_made slot source) (λ l. made_of (shown shape body) (Some l))) (begin-laid source)
      (loops-laid (tries_made source) (prepare_made slot source) (λ l. made_of (shown shape body) (Some l)) (tries-laid slot source) (prepare-laid slot source) (λ l. shown-laid shape body (Some l) (row-laid body (Some l))))))
  stmt-laid (Match' own subject shape clauses at) loop =
      made (λ i. fold_out-TypedStmt StmtMaking ClauseMaking stmt_step clause_step (Match' own subject shape clauses at) i loop)
      (subst (λ cs. Laid (match_made own (expr_made subject.value) (λ end. clauses_in_turn (map clause_made cs) own end loop)) (StmtPiece (Match' own subject shape clauses at) loop)) (sym (clauses-shown shape clauses))
      (match-laid own subject.value (λ end. clauses_in_turn (map clause_made (clauses_in _ clauses)) own end loop) (λ end. clauses-laid own clauses end loop)))

  pub row-laid : {n : _} (row : Row_of-TypedStmt n) (loop : Loops) → Laid (made_of (stmts_in _ row) loop) (Rows row loop)
  row-laid end_of-TypedStmt loop = nothing-laid
  row-laid (more_of-TypedStmt s rest) loop = then-laid (stmt_made s loop) (made_of (stmts_in _ rest) loop) (stmt-laid s loop) (row-laid rest loop)

  clauses-laid : {n : _} (own : ℕ) (row : Row_of-TypedClause n) (end : ℕ) (loop : Loops) → Laid (clauses_in_turn (map clause_made (clauses_in _ row)) own end loop) (Ending end (Clauses own row loop))
  clauses-laid own end_of-TypedClause end loop = as-laid (λ m. m) (λ code places landings p r c q e d. (comes-then code c.0 d.0, d.1 ∙ c.1)) nothing-laid
  clauses-laid own (more_of-TypedClause patterns shape stmts at rest) end loop =
      let c : TypedClause = record { patterns = patterns; stmts = shown-the_row-TypedStmt-0 shape stmts; at = at } in
      as-laid _ (λ code places landings p r (n, (b, m, ps, block, j), more) q e f. (n, b, m, ps, block, (comes-then code j.0 e.0, e.1 ∙ j.1), more q e f))
      (then-laid (clause_made c own end loop) (clauses_in_turn (map clause_made (clauses_in _ rest)) own end loop)
      (made (λ i. fold_out-TypedClause StmtMaking ClauseMaking stmt_step clause_step c i own end loop)
      (clause-laid own patterns.items end (made_of (shown shape stmts) loop) (shown-laid shape stmts loop (row-laid stmts loop))))
      (clauses-laid own rest end loop))
