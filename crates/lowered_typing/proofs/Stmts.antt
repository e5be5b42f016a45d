-- What is added for a statement leads where it should.
use Rattle.std.proofs.Common.{◌≡◌, ◌≤◌, ◌+◌, ◌++◌, ◌⊎◌, ℕ, List, [], ◌∷◌, length, Option, Some, None, inl, inr, map, refl, sym, subst, arith}
use Rattle.std.proofs.lemmas.List.{append-nil}
use Rattle.std.specs.Prelude.{negsuc}
use Rattle.std.specs.Global.{Global}
use Rattle.std.specs.formers.vec.Vec
use Rattle.operations.specs.declared.library.LibraryCall.TheVariants.{ListLength}
use Rattle.operations.specs.declared.operation.Constant.{Constant}
use Rattle.operations.specs.declared.operation.Constant.TheVariants as constant
use Rattle.operations.specs.declared.operation.Operation.{Operation}
use Rattle.operations.specs.declared.operation.Operation.TheVariants.{Const, Load, Store, LoadModule, StoreModule, Less, LessEqual, GetItem, Library, Test, Return as ReturnOp}
use Rattle.typed_tree.specs.declared.expr.TypedExpr.{TypedExpr}
use Rattle.typed_tree.specs.declared.form.Operator.{Operator}
use Rattle.typed_tree.specs.declared.stmt.RangeEnd.TheVariants.{Included, Excluded}
use Rattle.typed_tree.specs.declared.stmt.Source.{Source}
use Rattle.typed_tree.specs.declared.stmt.Source.TheVariants.{Range, List as ListSource}
use Rattle.typed_tree.specs.declared.stmt.TypedPattern.{TypedPattern}
use Rattle.typed_tree.specs.declared.stmt.TypedStmt.{TypedStmt, Set, Perform, Update, If', While', Foreach', Match', Return, Block' as BlockStmt, Break, Continue, out-TypedStmt, fold_out-TypedStmt, Row_of-TypedStmt, end_of-TypedStmt, more_of-TypedStmt, items-the_row-TypedStmt as stmts_in, items_shown-the_row-TypedStmt-0 as stmts-shown, Row_of-TypedClause, end_of-TypedClause, more_of-TypedClause, items-the_row-TypedClause as clauses_in, items_shown-the_row-TypedClause-1 as clauses-shown}
use Rattle.typed_tree.specs.declared.stmt.TypedClause.{TypedClause, fold_out-TypedClause}
use Rattle.typed_tree.specs.declared.stmt.TypedStmt.TheBlock.{shown-the_row-TypedStmt-0}
use Rattle.typed_tree.specs.declared.stmt.UpdateTarget.{UpdateTarget}
use Rattle.typed_tree.specs.declared.stmt.UpdateTarget.TheVariants as target
use denote.Hole.Carrier
use mathlib.Core.Former
use Rattle.held_operations.specs.Constructs.{operator_operations, perform_operations}
use Rattle.held_operations.specs.Operation.{singleton}
use Rattle.eval_model.specs.Expressions.{narrowed_to}
use Rattle.eval_model.specs.Loops.{raises}
use Rattle.eval_model.specs.Statements.{reads_member, sets_member}
use Rattle.eval_model.specs.Ways.{Turns}
use Rattle.stack_code.specs.Commands.{GoTo, GoToIfNot}
use Rattle.lower_model.specs.Making.{ClauseMaking, Making, StmtMaking, add, all_do, begin_made, bind, clause_made, clause_step, clauses_in_turn, does, expr_made, exprs_made, fresh, gets, leave_made, loops, match_made, nothing_made, parts, pattern_made, patterns_made, prepare_made, spoilt, stmt_made, stmt_step, stmts_in_turn, tries_made, update_made}
use Rattle.typed_making.proofs.Mapping.{no-label}
use Rattle.lowered_typing.proofs.Exprs.{expr-tidy, exprs-tidy, tidy-made}
use Rattle.lowered_typing.proofs.Nesting.{Traps}
use Rattle.lowered_typing.proofs.Pieces.{Either, one-more, tidy-all, tidy-does, tidy-gets, tidy-goes, tidy-loops, tidy-nothing, tidy-parts, tidy-then, wider}
use Rattle.lowered_typing.proofs.Tidy.{MayJump, TidyBy, added, ahead-of, bound, just, labelled, may-bind, may-fresh, may-later, none, tidied-then}

-- the labels of the loop around, if there is one
abbrev pub Turning : Option (Turns ℕ) → ℕ → Type 0
Turning None l = ⊥
Turning (Some t) l = Either t.head t.exit l

-- this label too
abbrev Into : (ℕ → Type 0) → ℕ → ℕ → Type 0
Into ctx end l = ctx l ⊎ (l ≡ end)

module _ (ctx : ℕ → Type 0) where
  an-expr : (e : TypedExpr) → TidyBy ctx (expr_made e)
  an-expr e = wider none ctx (λ l c. absurd c) (expr_made e) (expr-tidy e)

  exprs : (es : List TypedExpr) → TidyBy ctx (exprs_made es)
  exprs es = wider none ctx (λ l c. absurd c) (exprs_made es) (exprs-tidy es)

  -- an expression, and operations behind it
  behind : (e : TypedExpr) (ops : List Operation) → TidyBy ctx (λ m. all_do ops (expr_made e m))
  behind e ops = tidy-then ctx (expr_made e) (all_do ops) (an-expr e) (tidy-all ctx ops)

  taken : (e : TypedExpr) (op : Operation) → TidyBy ctx (λ m. does op (expr_made e m))
  taken e op = tidy-then ctx (expr_made e) (does op) (an-expr e) (tidy-does ctx op)

  -- ---- assignments with an operator

  stored : (op : Operator) (value : TypedExpr) (store : Operation) → TidyBy ctx (λ m. does store (all_do (operator_operations op) (expr_made value m)))
  stored op value store = tidy-then ctx (λ m. all_do (operator_operations op) (expr_made value m)) (does store) (behind value (operator_operations op)) (tidy-does ctx store)

  updated : (t : UpdateTarget) (op : Operator) (value : TypedExpr) → TidyBy ctx (update_made t op value)
  updated (target.Local slot narrowed type) op value =
      tidy-then ctx (gets slot (narrowed_to narrowed type)) (λ m. does (Store slot) (all_do (operator_operations op) (expr_made value m))) (tidy-gets ctx slot (narrowed_to narrowed type)) (stored op value (Store slot))
  updated (target.Variable x) op value =
      tidy-then ctx (does (LoadModule x)) (λ m. does (StoreModule x) (all_do (operator_operations op) (expr_made value m))) (tidy-does ctx (LoadModule x)) (stored op value (StoreModule x))
  updated (target.Member own how container key type) op value =
      tidy-then ctx (λ m. does (Store own) (expr_made container.value m)) (λ m. does (sets_member how) (all_do (operator_operations op) (expr_made value (all_do (Load own ∷ Load (own + 1) ∷ reads_member how own) (does (Store (own + 1)) (expr_made key.value m))))))
      (taken container.value (Store own))
      (tidy-then ctx (λ m. does (Store (own + 1)) (expr_made key.value m)) (λ m. does (sets_member how) (all_do (operator_operations op) (expr_made value (all_do (Load own ∷ Load (own + 1) ∷ reads_member how own) m))))
      (taken key.value (Store (own + 1)))
      (tidy-then ctx (all_do (Load own ∷ Load (own + 1) ∷ reads_member how own)) (λ m. does (sets_member how) (all_do (operator_operations op) (expr_made value m))) (tidy-all ctx (Load own ∷ Load (own + 1) ∷ reads_member how own)) (stored op value (sets_member how))))

  -- ---- loops

  begun : (source : Source) → TidyBy ctx (begin_made source)
  begun (Range own Included from to) =
      tidy-then ctx (λ m. does (Store own) (expr_made from.value m)) (λ m. all_do (Load own ∷ Load (own + 1) ∷ LessEqual ∷ Store (own + 2) ∷ []) (does (Store (own + 1)) (expr_made to.value m))) (taken from.value (Store own))
      (tidy-then ctx (λ m. does (Store (own + 1)) (expr_made to.value m)) (all_do (Load own ∷ Load (own + 1) ∷ LessEqual ∷ Store (own + 2) ∷ [])) (taken to.value (Store (own + 1))) (tidy-all ctx (Load own ∷ Load (own + 1) ∷ LessEqual ∷ Store (own + 2) ∷ [])))
  begun (Range own Excluded from to) =
      tidy-then ctx (λ m. does (Store own) (expr_made from.value m)) (λ m. does (Store (own + 1)) (expr_made to.value m)) (taken from.value (Store own)) (taken to.value (Store (own + 1)))
  begun (ListSource own list) = behind list.value (Store own ∷ Const (constant.Int (negsuc 0)) ∷ Store (own + 1) ∷ [])

  tried : (source : Source) → TidyBy ctx (tries_made source)
  tried (Range own Included from to) = tidy-all ctx (Load (own + 2) ∷ [])
  tried (Range own Excluded from to) = tidy-all ctx (Load own ∷ Load (own + 1) ∷ Less ∷ [])
  tried (ListSource own list) = tidy-all ctx (raises (own + 1) ++ Load (own + 1) ∷ Load own ∷ Library ListLength None 1 ∷ Less ∷ [])

  prepared : (slot : ℕ) (source : Source) → TidyBy ctx (prepare_made slot source)
  prepared slot (Range own Included from to) =
      tidy-then ctx (all_do (Load own ∷ Store slot ∷ Load own ∷ Load (own + 1) ∷ Less ∷ Store (own + 2) ∷ Load (own + 2) ∷ [])) (parts (all_do (raises own)) (all_do []))
      (tidy-all ctx (Load own ∷ Store slot ∷ Load own ∷ Load (own + 1) ∷ Less ∷ Store (own + 2) ∷ Load (own + 2) ∷ [])) (tidy-parts ctx (all_do (raises own)) (all_do []) (tidy-all ctx (raises own)) (tidy-nothing ctx))
  prepared slot (Range own Excluded from to) = tidy-all ctx (Load own ∷ Store slot ∷ raises own)
  prepared slot (ListSource own list) = tidy-all ctx (Load own ∷ Load (own + 1) ∷ GetItem ∷ Store slot ∷ [])

  -- ---- matches

  -- a pattern that fits leads to the body
  pattern : (own body : ℕ) (value : Option Constant) → ctx body → TidyBy ctx (pattern_made own body value)
  pattern own body None c m old ts many may = tidy-goes ctx body c m old ts many may
  pattern own body (Some k) c m old ts many may =
      let l : ℕ = length m.labels in
      let m1 : Making = fresh m in
      let w : List Traps = old ++ ts ∷ [] in
      let ops : List Operation = Load own ∷ Test (singleton k) ∷ [] in
      let a1 = labelled ctx ts m old ts many in
      let may1 : (i : ℕ) → ctx i → MayJump m1 w ts i = λ i d. may-later ctx (just l) m m1 old w ts ts a1 ts i (may i d) in
      let (w2, a2) = tidy-all ctx ops m1 w ts a1.many may1 in
      let m2 : Making = all_do ops m1 in
      let l2 = may-later ctx none m1 m2 w w2 ts ts a2 ts l (may-fresh ts m old many) in
      let m3 : Making = add (GoToIfNot l) m2 in
      let a3 = added (just l) (GoToIfNot l) m2 w2 ts a2.many l2.1 (ahead-of (GoToIfNot l) m2 w2 ts l l2) refl in
      let l3 = may-later (just l) none m2 m3 w2 w2 ts ts a3 ts l l2 in
      let body3 = may-later (just l) none m2 m3 w2 w2 ts ts a3 ts body (may-later ctx none m1 m2 w w2 ts ts a2 ts body (may1 body c)) in
      let m4 : Making = add (GoTo body) m3 in
      let a4 = added ctx (GoTo body) m3 w2 ts a3.many body3.1 (ahead-of (GoTo body) m3 w2 ts body body3) c in
      let l4 = may-later ctx none m3 m4 w2 w2 ts ts a4 ts l l3 in
      let b2 = tidied-then ctx (just l) ctx none (just l) m m1 m2 old w w2 ts ts ts a1 a2 (λ i d. inr d) (λ i d. d) (λ i d. absurd d) in
      let b3 = tidied-then ctx (just l) (just l) none (just l) m m2 m3 old w2 w2 ts ts ts b2 a3 (λ i d. inl (omega (arith, d))) (λ i d. d) (λ i d. absurd d) in
      let b4 = tidied-then ctx (just l) ctx none (just l) m m3 m4 old w2 w2 ts ts ts b3 a4 (λ i d. inr d) (λ i d. d) (λ i d. absurd d) in
      (w2, bound ctx (just l) none m m4 old w2 ts ts l b4 (omega arith) l4.0 l4.1 (λ i d. inl d))

  patterns : (own body : ℕ) (ps : List TypedPattern) → ctx body → TidyBy ctx (patterns_made own body ps)
  patterns own body [] c = tidy-nothing ctx
  patterns own body (p ∷ ps) c = tidy-then ctx (pattern_made own body p.value) (patterns_made own body ps) (pattern own body p.value c) (patterns own body ps c)

-- a clause: its patterns, its body, and a jump to the end of the match
abbrev clause_of : ℕ → List TypedPattern → ℕ → (Making → Making) → Making → Making
clause_of own ps end Body m =
    let body = length m.labels in
    let next = length (fresh m).labels in
    bind next (add (GoTo end) (Body (bind body (add (GoTo next) (patterns_made own body ps (fresh (fresh m)))))))

module _ (ctx : ℕ → Type 0) where
  clause-tidy : (own : ℕ) (ps : List TypedPattern) (end : ℕ) (Body : Making → Making) → ctx end → TidyBy ctx Body → TidyBy ctx (clause_of own ps end Body)
  clause-tidy own ps end Body c x m old ts many may =
      let body : ℕ = length m.labels in
      let next : ℕ = length (fresh m).labels in
      let m1 : Making = fresh m in
      let m2 : Making = fresh m1 in
      let w1 : List Traps = old ++ ts ∷ [] in
      let w2 : List Traps = w1 ++ ts ∷ [] in
      let a1 = labelled ctx ts m old ts many in
      let a2 = labelled ctx ts m1 w1 ts a1.many in
      let body1 = may-fresh ts m old many in
      let body2 = may-later ctx (just next) m1 m2 w1 w2 ts ts a2 ts body body1 in
      let next2 = may-fresh ts m1 w1 a1.many in
      let may2 : (l : ℕ) → ctx l → MayJump m2 w2 ts l = λ l d. may-later ctx (just next) m1 m2 w1 w2 ts ts a2 ts l (may-later ctx (just body) m m1 old w1 ts ts a1 ts l (may l d)) in
      let b2 = tidied-then ctx (just body) ctx (just next) (Either body next) m m1 m2 old w1 w2 ts ts ts a1 a2 (λ l d. inr d) (λ l d. inl d) (λ l d. inr d) in
      let (w3, a3) = patterns (Into ctx body) own body ps (inr refl) m2 w2 ts a2.many (also m2 w2 ts body may2 body2) in
      let m3 : Making = patterns_made own body ps m2 in
      let b3 = tidied-then ctx (Either body next) (Into ctx body) none (Either body next) m m2 m3 old w2 w3 ts ts ts b2 a3 (inside m) (λ l d. d) (λ l d. absurd d) in
      let next3 = may-later (Into ctx body) none m2 m3 w2 w3 ts ts a3 ts next next2 in
      let m4 : Making = add (GoTo next) m3 in
      let a4 = added (just next) (GoTo next) m3 w3 ts a3.many next3.1 (ahead-of (GoTo next) m3 w3 ts next next3) refl in
      let b4 = tidied-then ctx (Either body next) (just next) none (Either body next) m m3 m4 old w3 w3 ts ts ts b3 a4 (λ l d. inl (omega (arith, d, one-more m))) (λ l d. d) (λ l d. absurd d) in
      let next4 = may-later (just next) none m3 m4 w3 w3 ts ts a4 ts next next3 in
      let body4 = may-later (just next) none m3 m4 w3 w3 ts ts a4 ts body (may-later (Into ctx body) none m2 m3 w2 w3 ts ts a3 ts body body2) in
      let m5 : Making = bind body m4 in
      let b5 = bound ctx (Either body next) (just next) m m4 old w3 ts ts body b4 (omega arith) body4.0 body4.1 (λ i d. d) in
      let next5 = may-bind m4 w3 ts body next (λ e. omega (arith, e, one-more m)) next4 in
      let may4 : (l : ℕ) → ctx l → MayJump m4 w3 ts l = λ l d. may-later (just next) none m3 m4 w3 w3 ts ts a4 ts l (may-later (Into ctx body) none m2 m3 w2 w3 ts ts a3 ts l (may2 l d)) in
      let may5 : (l : ℕ) → ctx l → MayJump m5 w3 ts l = λ l d. may-bind m4 w3 ts body l (λ e. omega (arith, e, (may l d).0)) (may4 l d) in
      let (w6, a6) = x m5 w3 ts b5.many may5 in
      let m6 : Making = Body m5 in
      let b6 = tidied-then ctx (just next) ctx none (just next) m m5 m6 old w3 w6 ts ts ts b5 a6 (λ l d. inr d) (λ l d. d) (λ l d. absurd d) in
      let next6 = may-later ctx none m5 m6 w3 w6 ts ts a6 ts next next5 in
      let end6 = may-later ctx none m5 m6 w3 w6 ts ts a6 ts end (may5 end c) in
      let m7 : Making = add (GoTo end) m6 in
      let a7 = added ctx (GoTo end) m6 w6 ts a6.many end6.1 (ahead-of (GoTo end) m6 w6 ts end end6) c in
      let b7 = tidied-then ctx (just next) ctx none (just next) m m6 m7 old w6 w6 ts ts ts b6 a7 (λ l d. inr d) (λ l d. d) (λ l d. absurd d) in
      (w6, bound ctx (just next) none m m7 old w6 ts ts next b7 (omega (arith, one-more m)) next6.0 next6.1 (λ i d. inl d))
    where
      also : (n : Making) (wants : List Traps) (ts : Traps) (a : ℕ) → ((l : ℕ) → ctx l → MayJump n wants ts l) → MayJump n wants ts a → (l : ℕ) → Into ctx a l → MayJump n wants ts l
      also n wants ts a may x l (inl d) = may l d
      also n wants ts a may x l (inr e) = subst (MayJump n wants ts) (sym e) x

      inside : (m : Making) (l : ℕ) → Into ctx (length m.labels) l → (length m.labels ≤ l) ⊎ ctx l
      inside m l (inl d) = inr d
      inside m l (inr e) = inl (omega (arith, e))

  match-tidy : (own : ℕ) (Subject : Making → Making) (Clauses : ℕ → Making → Making) → TidyBy ctx (λ m. does (Store own) (Subject m)) → ((end : ℕ) → TidyBy (Into ctx end) (Clauses end)) → TidyBy ctx (match_made own Subject Clauses)
  match-tidy own Subject Clauses x clauses m old ts many may =
      let end : ℕ = length m.labels in
      let m1 : Making = fresh m in
      let w1 : List Traps = old ++ ts ∷ [] in
      let a1 = labelled ctx ts m old ts many in
      let may1 : (l : ℕ) → ctx l → MayJump m1 w1 ts l = λ l d. may-later ctx (just end) m m1 old w1 ts ts a1 ts l (may l d) in
      let (w2, a2) = x m1 w1 ts a1.many may1 in
      let m2 : Making = does (Store own) (Subject m1) in
      let end2 = may-later ctx none m1 m2 w1 w2 ts ts a2 ts end (may-fresh ts m old many) in
      let may2 : (l : ℕ) → ctx l → MayJump m2 w2 ts l = λ l d. may-later ctx none m1 m2 w1 w2 ts ts a2 ts l (may1 l d) in
      let b2 = tidied-then ctx (just end) ctx none (just end) m m1 m2 old w1 w2 ts ts ts a1 a2 (λ l d. inr d) (λ l d. d) (λ l d. absurd d) in
      let (w3, a3) = clauses end m2 w2 ts a2.many (also m2 w2 ts end may2 end2) in
      let m3 : Making = Clauses end m2 in
      let b3 = tidied-then ctx (just end) (Into ctx end) none (just end) m m2 m3 old w2 w3 ts ts ts b2 a3 (inside m) (λ l d. d) (λ l d. absurd d) in
      let end3 = may-later (Into ctx end) none m2 m3 w2 w3 ts ts a3 ts end end2 in
      (w3, bound ctx (just end) none m m3 old w3 ts ts end b3 (omega arith) end3.0 end3.1 (λ i d. inl d))
    where
      also : (n : Making) (wants : List Traps) (ts : Traps) (a : ℕ) → ((l : ℕ) → ctx l → MayJump n wants ts l) → MayJump n wants ts a → (l : ℕ) → Into ctx a l → MayJump n wants ts l
      also n wants ts a may x l (inl d) = may l d
      also n wants ts a may x l (inr e) = subst (MayJump n wants ts) (sym e) x

      inside : (m : Making) (l : ℕ) → Into ctx (length m.labels) l → (length m.labels ≤ l) ⊎ ctx l
      inside m l (inl d) = inr d
      inside m l (inr e) = inl (omega (arith, e))

-- ---- statements

abbrev Loops : Type 0
Loops = Option (Turns ℕ)

abbrev In : Loops → (Making → Making) → Type 0
In labels F = TidyBy (Turning labels) F

spoilt-tidy : (ctx : ℕ → Type 0) → TidyBy ctx spoilt
spoilt-tidy ctx m old ts many may = (
  old,
  record {
    news = [];
    steps = sym (append-nil m.steps);
    nested = refl;
    ahead = tt;
    names = tt;
    grown = λ l w e. e;
    many = many;
    fewer = omega arith;
    keeps = λ l lt. refl;
    lands = λ l to le e. absurd (no-label m.labels l to le e);
    placed = λ l le lt. absurd (omega (arith, le, lt));
  },
)

leave-tidy : (labels : Loops) (label : Turns ℕ → ℕ) → ((t : Turns ℕ) → Either t.head t.exit (label t)) → In labels (leave_made labels label)
leave-tidy (Some t) label is = tidy-goes (Turning (Some t)) (label t) (is t)
leave-tidy None label is = spoilt-tidy (Turning None)

abbrev made_of : List TypedStmt → Loops → Making → Making
made_of ss labels = stmts_in_turn (map stmt_made ss) labels

abbrev shown : (shape : (Vec.the_former (Former.this {0}) Global).Shape) → Row_of-TypedStmt (Former.arity (Vec.the_former (Former.this {0}) Global) shape) → List TypedStmt
shown shape row = (shown-the_row-TypedStmt-0 shape row).items

shown-tidy : (shape : _) (row : _) (labels : Loops) (ctx : ℕ → Type 0) → TidyBy ctx (made_of (stmts_in _ row) labels) → TidyBy ctx (made_of (shown shape row) labels)
shown-tidy shape row labels ctx h = subst (λ ss. TidyBy ctx (made_of ss labels)) (sym (stmts-shown shape row)) h

made : {F G : Making → Making} (labels : Loops) → F ≡ G → In labels G → In labels F
made labels e g = tidy-made (Turning labels) e g

mutual
  unfolding out-TypedStmt Carrier.out

  pub stmt-tidy : (s : TypedStmt) (labels : Loops) → In labels (stmt_made s labels)
  stmt-tidy (Set slot value at) labels = made labels (λ i. fold_out-TypedStmt StmtMaking ClauseMaking stmt_step clause_step (Set slot value at) i labels) (taken (Turning labels) value.value (Store slot))
  stmt-tidy (Perform form operands at) labels =
      made labels (λ i. fold_out-TypedStmt StmtMaking ClauseMaking stmt_step clause_step (Perform form operands at) i labels)
      (tidy-then (Turning labels) (exprs_made operands.items) (all_do (perform_operations form)) (exprs (Turning labels) operands.items) (tidy-all (Turning labels) (perform_operations form)))
  stmt-tidy (Update t op value at) labels = made labels (λ i. fold_out-TypedStmt StmtMaking ClauseMaking stmt_step clause_step (Update t op value at) i labels) (updated (Turning labels) t op value.value)
  stmt-tidy (Return None at) labels =
      made labels (λ i. fold_out-TypedStmt StmtMaking ClauseMaking stmt_step clause_step (Return None at) i labels) (tidy-all (Turning labels) (Const constant.Nil ∷ ReturnOp ∷ []))
  stmt-tidy (Return (Some e) at) labels = made labels (λ i. fold_out-TypedStmt StmtMaking ClauseMaking stmt_step clause_step (Return (Some e) at) i labels) (taken (Turning labels) e.value ReturnOp)
  stmt-tidy (Break at) labels = made labels (λ i. fold_out-TypedStmt StmtMaking ClauseMaking stmt_step clause_step (Break at) i labels) (leave-tidy labels (λ l. l.exit) (λ t. inr refl))
  stmt-tidy (Continue at) labels = made labels (λ i. fold_out-TypedStmt StmtMaking ClauseMaking stmt_step clause_step (Continue at) i labels) (leave-tidy labels (λ l. l.head) (λ t. inl refl))
  stmt-tidy (BlockStmt shape stmts at) labels =
      made labels (λ i. fold_out-TypedStmt StmtMaking ClauseMaking stmt_step clause_step (BlockStmt shape stmts at) i labels) (shown-tidy shape stmts labels (Turning labels) (row-tidy stmts labels))
  stmt-tidy (If' condition shape first shape' second at) labels =
      made labels (λ i. fold_out-TypedStmt StmtMaking ClauseMaking stmt_step clause_step (If' condition shape first shape' second at) i labels)
      (tidy-then (Turning labels) (expr_made condition.value) (parts (made_of (shown shape first) labels) (made_of (shown shape' second) labels)) (an-expr (Turning labels) condition.value)
      (tidy-parts (Turning labels) (made_of (shown shape first) labels) (made_of (shown shape' second) labels) (shown-tidy shape first labels (Turning labels) (row-tidy first labels)) (shown-tidy shape' second labels (Turning labels) (row-tidy second labels))))
  stmt-tidy (While' condition shape body at) labels =
      made labels (λ i. fold_out-TypedStmt StmtMaking ClauseMaking stmt_step clause_step (While' condition shape body at) i labels)
      (tidy-loops (Turning labels) (expr_made condition.value) nothing_made (λ x. made_of (shown shape body) (Some x)) (expr-tidy condition.value) (tidy-nothing none) (λ x. shown-tidy shape body (Some x) (Turning (Some x)) (row-tidy body (Some x))))
  stmt-tidy (Foreach' slot source shape body at) labels =
      made labels (λ i. fold_out-TypedStmt StmtMaking ClauseMaking stmt_step clause_step (Foreach' slot source shape body at) i labels)
      (tidy-then (Turning labels) (begin_made source) (loops (tries_made source) (prepare_made slot source) (λ x. made_of (shown shape body) (Some x))) (begun (Turning labels) source)
      (tidy-loops (Turning labels) (tries_made source) (prepare_made slot source) (λ x. made_of (shown shape body) (Some x)) (tried none source) (prepared none slot source) (λ x. shown-tidy shape body (Some x) (Turning (Some x)) (row-tidy body (Some x)))))
  stmt-tidy (Match' own subject shape clauses at) labels =
      made labels (λ i. fold_out-TypedStmt StmtMaking ClauseMaking stmt_step clause_step (Match' own subject shape clauses at) i labels)
      (subst (λ us. In labels (match_made own (expr_made subject.value) (λ end. clauses_in_turn (map clause_made us) own end labels))) (sym (clauses-shown shape clauses))
      (match-tidy (Turning labels) own (expr_made subject.value) (λ end. clauses_in_turn (map clause_made (clauses_in _ clauses)) own end labels) (taken (Turning labels) subject.value (Store own)) (λ end. clauses-tidy own clauses end labels)))

  row-tidy : {n : _} (row : Row_of-TypedStmt n) (labels : Loops) → In labels (made_of (stmts_in _ row) labels)
  row-tidy end_of-TypedStmt labels = tidy-nothing (Turning labels)
  row-tidy (more_of-TypedStmt s rest) labels = tidy-then (Turning labels) (stmt_made s labels) (made_of (stmts_in _ rest) labels) (stmt-tidy s labels) (row-tidy rest labels)

  clauses-tidy : {n : _} (own : ℕ) (row : Row_of-TypedClause n) (end : ℕ) (labels : Loops) → TidyBy (Into (Turning labels) end) (clauses_in_turn (map clause_made (clauses_in _ row)) own end labels)
  clauses-tidy own end_of-TypedClause end labels = tidy-nothing (Into (Turning labels) end)
  clauses-tidy own (more_of-TypedClause patterns shape stmts at rest) end labels =
      let c : TypedClause = record { patterns = patterns; stmts = shown-the_row-TypedStmt-0 shape stmts; at = at } in
      tidy-then (Into (Turning labels) end) (clause_made c own end labels) (clauses_in_turn (map clause_made (clauses_in _ rest)) own end labels)
      (subst (λ F. TidyBy (Into (Turning labels) end) F) (sym (λ i. fold_out-TypedClause StmtMaking ClauseMaking stmt_step clause_step c i own end labels))
      (clause-tidy (Into (Turning labels) end) own patterns.items end (made_of (shown shape stmts) labels) (inr refl)
      (wider (Turning labels) (Into (Turning labels) end) (λ l d. inl d) (made_of (shown shape stmts) labels) (shown-tidy shape stmts labels (Turning labels) (row-tidy stmts labels)))))
      (clauses-tidy own rest end labels)
