-- Two chosen statements of the same tokens are alike: each form of a statement, and all by induction on the first.
use Rattle.std.proofs.Common.{◌≡◌, Bool, true, false, ◌&&◌, List, [], ◌∷◌, ◌++◌, map, length, Option, None, Some, refl, sym, ap, ◌∙◌, subst, arith, inl, inr}
use Rattle.std.specs.Global.{Box}
use Rattle.std.proofs.lemmas.Bool.{false≢true}
use Rattle.bal_base.specs.declared.token.TokenKind.TheVariants.{Keyword as KeywordKind, Sign as SignKind}
use Rattle.bal_base.specs.declared.token.Keyword.TheVariants.{If as IfKey, Else as ElseKey, In as InKey}
use Rattle.bal_base.specs.declared.token.Sign.TheVariants.{OpenBrace, CloseBrace, Semicolon}
use Rattle.bal_tree.specs.declared.expr.Expr.{Expr}
use Rattle.bal_tree.specs.declared.stmt.LocalType.TheVariants.{«Type» as TypeOf, Var}
use Rattle.bal_tree.specs.declared.stmt.Range.{Range}
use Rattle.bal_tree.specs.declared.stmt.RangeOp.{RangeOp}
use Rattle.bal_tree.specs.declared.stmt.RangeOp.TheVariants.{Through, Below}
use Rattle.bal_tree.specs.declared.stmt.Else.TheOpen as layer
use Rattle.bal_tree.specs.declared.stmt.Else.{Else, Else-F, roll-Else, map-Else, out-Else, roll-out-Else}
use Rattle.bal_tree.specs.declared.stmt.Stmt.{Stmt, Stmt-F, roll-Stmt, map-Stmt, ind-Stmt, out-Stmt, roll-out-Stmt}
use Rattle.bal_tree.specs.declared.stmt.Block.{Block, Block-F, roll-Block, map-Block, ind-Block, out-Block, roll-out-Block}
use Rattle.bal_tree.specs.declared.stmt.Clause.{Clause, Clause-F, roll-Clause, map-Clause, out-Clause, roll-out-Clause}
use Rattle.bal_tree.specs.declared.stmt.IfStmt.{IfStmt, IfStmt-F, roll-IfStmt, map-IfStmt, out-IfStmt, roll-out-IfStmt}
use Rattle.bal_tree.specs.ActionRules.{has_members, rhs_is_formed}
use Rattle.bal_tree.specs.ExprPieces.{expr_pieces}
use Rattle.bal_tree.specs.ExprRules.{expr_is_formed}
use Rattle.bal_tree.specs.Pieces.{Pieces, if_there, joined}
use Rattle.bal_tree.specs.Spells.{onto}
use Rattle.bal_tree.specs.StmtLayers.{of_else, of_stmt, of_block, of_clause, of_if_stmt}
use Rattle.bal_tree.specs.StmtPieces.{assign_sign, block_pieces, clause_pieces, else_pieces, ended as ended_pieces, range_pieces, range_sign, stmt_pieces, writing}
use Rattle.bal_tree.specs.StmtRules.{are_formed, block_is_formed, clause_is_formed, else_is_formed, forming, if_is_formed, local_type_is_formed, range_is_formed, stands_alone, stmt_is_formed, target_is_formed, value_is_formed}
use Rattle.token_steps.specs.Tokens.{Kinds, take_key}
use Rattle.parse_types.proofs.Law.{both_pass}
use Rattle.parse_expr.specs.Reaches.{expr}
use Rattle.parse_stmt.specs.Chosen.{AreChosen, led_in_stmt, led_in_stmts, listing, together}
use Rattle.parse_stmt.specs.Reaches.{clause, inside}
use Rattle.parse_stmt.specs.Starts.{ends_stmts}
use Rattle.parse_stmt.proofs.Alike.{Same, behind_first, first-token}
use Rattle.parse_stmt.proofs.FormTree.{AStmtLayer, Fits, fits, one-code, form, form-known, is_brace, is_led, no-end, one-form}
use Rattle.parse_stmt.proofs.Known.{Known}
use Rattle.parse_stmt.proofs.OneBelow.{OneBelow}
use Rattle.parse_stmt.proofs.PartTree.{ended-same, expr-then, expr-same, local-same, patterns-same, return-same, target-same, local_type-same}
use Rattle.parse_stmt.proofs.PlainLaw.{before-range}
use Rattle.parse_stmt.proofs.StmtLaw.{before-block, block-law, clause-law, if-law}
use Rattle.parse_stmt.proofs.StmtRolls.{parts_of_else, parts_of_stmt, parts_of_block, parts_of_clause, parts_of_if_stmt, rolled-else, rolled-stmt, rolled-block, rolled-clause, rolled-if_stmt}
use Rattle.parse_stmt.proofs.StmtTree.{Behind, behind, chosen-back, chosen-front, no-mapping}

-- ---- what is claimed of two trees, by what is told of them

pub record Told : Type 0 where
  pub formed : Bool
  pub led : List Pieces
  pub pieces : Pieces

-- where such tokens stand behind them
abbrev pub Pair : (Kinds → Type 0) → Told → Told → Type 0
Pair Then a b = (ks ls : Kinds) → Then ks → Then ls → a.formed ≡ true → b.formed ≡ true → AreChosen a.led → AreChosen b.led → onto a.pieces ks ≡ onto b.pieces ls → Same a.pieces b.pieces ks ls

abbrev Anything : Kinds → Type 0
Anything ks = Unit {0}

abbrev NoElse : Kinds → Type 0
NoElse ks = take_key ElseKey ks ≡ None

abbrev pub told_else : Else → Told
told_else t = record { formed = of_else forming t; led = of_else listing t; pieces = of_else writing t }

abbrev pub told_stmt : Stmt → Told
told_stmt t = record { formed = of_stmt forming t; led = of_stmt listing t; pieces = of_stmt writing t }

abbrev pub told_block : Block → Told
told_block t = record { formed = of_block forming t; led = of_block listing t; pieces = of_block writing t }

abbrev pub told_clause : Clause → Told
told_clause t = record { formed = of_clause forming t; led = of_clause listing t; pieces = of_clause writing t }

abbrev pub told_if : IfStmt → Told
told_if t = record { formed = of_if_stmt forming t; led = of_if_stmt listing t; pieces = of_if_stmt writing t }

abbrev ElseLayer : Else-F Else Stmt Block Clause IfStmt → Told
ElseLayer x = record { formed = forming.else (parts_of_else forming x); led = listing.else (parts_of_else listing x); pieces = writing.else (parts_of_else writing x) }

abbrev StmtLayer : AStmtLayer → Told
StmtLayer x = record { formed = forming.stmt (parts_of_stmt forming x); led = listing.stmt (parts_of_stmt listing x); pieces = writing.stmt (parts_of_stmt writing x) }

abbrev BlockLayer : Block-F Else Stmt Block Clause IfStmt → Told
BlockLayer x = record { formed = forming.block (parts_of_block forming x); led = listing.block (parts_of_block listing x); pieces = writing.block (parts_of_block writing x) }

abbrev ClauseLayer : Clause-F Else Stmt Block Clause IfStmt → Told
ClauseLayer x = record { formed = forming.clause (parts_of_clause forming x); led = listing.clause (parts_of_clause listing x); pieces = writing.clause (parts_of_clause writing x) }

abbrev IfLayer : IfStmt-F Else Stmt Block Clause IfStmt → Told
IfLayer x = record { formed = forming.if_stmt (parts_of_if_stmt forming x); led = listing.if_stmt (parts_of_if_stmt listing x); pieces = writing.if_stmt (parts_of_if_stmt writing x) }

told-else : (x : Else-F Else Stmt Block Clause IfStmt) → told_else (roll-Else x) ≡ ElseLayer x
told-else x = λ i. record { formed = rolled-else forming x i; led = rolled-else listing x i; pieces = rolled-else writing x i }

told-stmt : (x : AStmtLayer) → told_stmt (roll-Stmt x) ≡ StmtLayer x
told-stmt x = λ i. record { formed = rolled-stmt forming x i; led = rolled-stmt listing x i; pieces = rolled-stmt writing x i }

told-block : (x : Block-F Else Stmt Block Clause IfStmt) → told_block (roll-Block x) ≡ BlockLayer x
told-block x = λ i. record { formed = rolled-block forming x i; led = rolled-block listing x i; pieces = rolled-block writing x i }

told-clause : (x : Clause-F Else Stmt Block Clause IfStmt) → told_clause (roll-Clause x) ≡ ClauseLayer x
told-clause x = λ i. record { formed = rolled-clause forming x i; led = rolled-clause listing x i; pieces = rolled-clause writing x i }

told-if : (x : IfStmt-F Else Stmt Block Clause IfStmt) → told_if (roll-IfStmt x) ≡ IfLayer x
told-if x = λ i. record { formed = rolled-if_stmt forming x i; led = rolled-if_stmt listing x i; pieces = rolled-if_stmt writing x i }

-- ---- the claims

abbrev pub ClaimElse : Else → Type 0
ClaimElse t = (u : Else) → Pair NoElse (told_else t) (told_else u)

abbrev pub ClaimStmt : Stmt → Type 0
ClaimStmt t = (u : Stmt) → Pair Behind (told_stmt t) (told_stmt u)

abbrev pub ClaimBlock : Block → Type 0
ClaimBlock t = (u : Block) → Pair Anything (told_block t) (told_block u)

abbrev pub ClaimClause : Clause → Type 0
ClaimClause t = (u : Clause) → Pair Anything (told_clause t) (told_clause u)

abbrev pub ClaimIf : IfStmt → Type 0
ClaimIf t = (u : IfStmt) → Pair NoElse (told_if t) (told_if u)

-- a tree of which it is known
abbrev AnElse : Type 0
AnElse = (t : Else) × ClaimElse t

abbrev AStmt : Type 0
AStmt = (t : Stmt) × ClaimStmt t

abbrev ABlock : Type 0
ABlock = (t : Block) × ClaimBlock t

abbrev AClause : Type 0
AClause = (t : Clause) × ClaimClause t

abbrev AnIf : Type 0
AnIf = (t : IfStmt) × ClaimIf t

abbrev firsts_of_else : Else-F AnElse AStmt ABlock AClause AnIf → Else-F Else Stmt Block Clause IfStmt
firsts_of_else = map-Else AnElse AStmt ABlock AClause AnIf Else Stmt Block Clause IfStmt (λ e. e.0) (λ e. e.0) (λ e. e.0) (λ e. e.0) (λ e. e.0)

abbrev firsts_of_stmt : Stmt-F AnElse AStmt ABlock AClause AnIf → Stmt-F Else Stmt Block Clause IfStmt
firsts_of_stmt = map-Stmt AnElse AStmt ABlock AClause AnIf Else Stmt Block Clause IfStmt (λ e. e.0) (λ e. e.0) (λ e. e.0) (λ e. e.0) (λ e. e.0)

abbrev firsts_of_block : Block-F AnElse AStmt ABlock AClause AnIf → Block-F Else Stmt Block Clause IfStmt
firsts_of_block = map-Block AnElse AStmt ABlock AClause AnIf Else Stmt Block Clause IfStmt (λ e. e.0) (λ e. e.0) (λ e. e.0) (λ e. e.0) (λ e. e.0)

abbrev firsts_of_clause : Clause-F AnElse AStmt ABlock AClause AnIf → Clause-F Else Stmt Block Clause IfStmt
firsts_of_clause = map-Clause AnElse AStmt ABlock AClause AnIf Else Stmt Block Clause IfStmt (λ e. e.0) (λ e. e.0) (λ e. e.0) (λ e. e.0) (λ e. e.0)

abbrev firsts_of_if_stmt : IfStmt-F AnElse AStmt ABlock AClause AnIf → IfStmt-F Else Stmt Block Clause IfStmt
firsts_of_if_stmt = map-IfStmt AnElse AStmt ABlock AClause AnIf Else Stmt Block Clause IfStmt (λ e. e.0) (λ e. e.0) (λ e. e.0) (λ e. e.0) (λ e. e.0)

-- of each statement in a list
abbrev pub Claims : List Stmt → Type 0
Claims [] = Unit {0}
Claims (t ∷ ts) = ClaimStmt t × Claims ts

claims-of : (xs : List AStmt) → Claims (map (λ e. e.0) xs)
claims-of [] = tt
claims-of (x ∷ xs) = (x.1, claims-of xs)

range-no-brace : (op : RangeOp) (ks ls : Kinds) → SignKind OpenBrace ∷ ks ≡ SignKind (range_sign op) ∷ ls → ⊥
range-no-brace Through ks ls e = cc e
range-no-brace Below ks ls e = cc e

module _ (known : Known) (one : OneBelow) where
  -- ---- lists

  pub stmts-same : (ts us : List Stmt) → Claims ts → (ks ls : Kinds) → ends_stmts ks ≡ true → ends_stmts ls ≡ true → are_formed (map stmt_is_formed ts) ≡ true → are_formed (map stmt_is_formed us) ≡ true → AreChosen (led_in_stmts ts) → AreChosen (led_in_stmts us) → onto (joined (map stmt_pieces ts)) ks ≡ onto (joined (map stmt_pieces us)) ls → Same (joined (map stmt_pieces ts)) (joined (map stmt_pieces us)) ks ls
  stmts-same [] [] all ks ls h k f g c d e = (tt, e)
  stmts-same [] (u ∷ us) all ks ls h k f g c d e =
      absurd (no-end known u (onto (joined (map stmt_pieces us)) ls) (both_pass (stmt_is_formed u) (are_formed (map stmt_is_formed us)) g).0 (ap ends_stmts (sym e) ∙ h))
  stmts-same (t ∷ ts) [] all ks ls h k f g c d e =
      absurd (no-end known t (onto (joined (map stmt_pieces ts)) ks) (both_pass (stmt_is_formed t) (are_formed (map stmt_is_formed ts)) f).0 (ap ends_stmts e ∙ k))
  stmts-same (t ∷ ts) (u ∷ us) all ks ls h k f g c d e =
      let a = both_pass (stmt_is_formed t) (are_formed (map stmt_is_formed ts)) f in
      let b = both_pass (stmt_is_formed u) (are_formed (map stmt_is_formed us)) g in
      let s = all.0 u (onto (joined (map stmt_pieces ts)) ks) (onto (joined (map stmt_pieces us)) ls) (behind known ts ks a.1 h) (behind known us ls b.1 k) a.0 b.0
      (chosen-front (led_in_stmt t) (led_in_stmts ts) c) (chosen-front (led_in_stmt u) (led_in_stmts us) d) e in
      let more = stmts-same ts us all.1 ks ls h k a.1 b.1 (chosen-back (led_in_stmt t) (led_in_stmts ts) c) (chosen-back (led_in_stmt u) (led_in_stmts us) d) s.1 in
      ((s.0, more.0), more.1)

  no-clause : (u : Clause) (ks ls : Kinds) → clause_is_formed u ≡ true → SignKind CloseBrace ∷ ks ≡ onto (clause_pieces u) ls → ⊥
  no-clause u ks ls f e =
      let n = length (onto (clause_pieces u) ls) in
      let bad : None ≡ Some ls = ap (clause (inside n)) e ∙ (clause-law known u f).reads n ls (omega arith) in
      cc bad

  clauses-same : (ts : List AClause) (us : List Clause) (ks ls : Kinds) → are_formed (map clause_is_formed (map (λ e. e.0) ts)) ≡ true → are_formed (map clause_is_formed us) ≡ true → AreChosen (together (map (of_clause listing) (map (λ e. e.0) ts))) → AreChosen (together (map (of_clause listing) us)) → onto (joined (map clause_pieces (map (λ e. e.0) ts))) (SignKind CloseBrace ∷ ks) ≡ onto (joined (map clause_pieces us)) (SignKind CloseBrace ∷ ls) → Same (joined (map clause_pieces (map (λ e. e.0) ts))) (joined (map clause_pieces us)) (SignKind CloseBrace ∷ ks) (SignKind CloseBrace ∷ ls)
  clauses-same [] [] ks ls f g c d e = (tt, e)
  clauses-same [] (u ∷ us) ks ls f g c d e = absurd (no-clause u ks _ (both_pass (clause_is_formed u) (are_formed (map clause_is_formed us)) g).0 e)
  clauses-same (t ∷ ts) [] ks ls f g c d e = absurd (no-clause t.0 ls _ (both_pass (clause_is_formed t.0) (are_formed (map clause_is_formed (map (λ e. e.0) ts))) f).0 (sym e))
  clauses-same (t ∷ ts) (u ∷ us) ks ls f g c d e =
      let a = both_pass (clause_is_formed t.0) (are_formed (map clause_is_formed (map (λ e. e.0) ts))) f in
      let b = both_pass (clause_is_formed u) (are_formed (map clause_is_formed us)) g in
      let s = t.1 u (onto (joined (map clause_pieces (map (λ e. e.0) ts))) (SignKind CloseBrace ∷ ks)) (onto (joined (map clause_pieces us)) (SignKind CloseBrace ∷ ls)) tt tt a.0 b.0
      (chosen-front (of_clause listing t.0) (together (map (of_clause listing) (map (λ e. e.0) ts))) c) (chosen-front (of_clause listing u) (together (map (of_clause listing) us)) d) e in
      let more = clauses-same ts us ks ls a.1 b.1 (chosen-back (of_clause listing t.0) (together (map (of_clause listing) (map (λ e. e.0) ts))) c) (chosen-back (of_clause listing u) (together (map (of_clause listing) us)) d) s.1 in
      ((s.0, more.0), more.1)

  -- ---- an expression before a block

  expr-block : (e f : Expr) (b c : Block) (ks ls : Kinds) → expr_is_formed e false ≡ true → expr_is_formed f false ≡ true → block_is_formed b ≡ true → block_is_formed c ≡ true → onto (expr_pieces e) (onto (block_pieces b) ks) ≡ onto (expr_pieces f) (onto (block_pieces c) ls) → Same (expr_pieces e) (expr_pieces f) (onto (block_pieces b) ks) (onto (block_pieces c) ls)
  expr-block e f b c ks ls fe ff fb fc q =
      expr-then known one e f (onto (block_pieces b) ks) (onto (block_pieces c) ls) fe ff
      (before-block known e (block_pieces b) ks fe (block-law known b fb)) (before-block known f (block_pieces c) ls ff (block-law known c fc)) q

  -- and before a range
  range-then : (e : Expr) (r : Option Range) (b : Block) (ks : Kinds) → expr_is_formed e false ≡ true → block_is_formed b ≡ true → expr (onto (expr_pieces e) (onto (if_there range_pieces r) (onto (block_pieces b) ks))) ≡ Some (onto (if_there range_pieces r) (onto (block_pieces b) ks))
  range-then e r b ks fe fb =
      let o = (block-law known b fb).opens ks in
      subst (λ zs. expr (onto (expr_pieces e) (onto (if_there range_pieces r) zs)) ≡ Some (onto (if_there range_pieces r) zs)) (sym o.1.0) (before-range known e r o.0 fe)

  range-same : (r q : Option Range) (b c : Block) (ks ls : Kinds) → range_is_formed r ≡ true → range_is_formed q ≡ true → block_is_formed b ≡ true → block_is_formed c ≡ true → onto (if_there range_pieces r) (onto (block_pieces b) ks) ≡ onto (if_there range_pieces q) (onto (block_pieces c) ls) → Same (if_there range_pieces r) (if_there range_pieces q) (onto (block_pieces b) ks) (onto (block_pieces c) ls)
  range-same None None b c ks ls fr fq fb fc e = (tt, e)
  range-same None (Some q) b c ks ls fr fq fb fc e =
      let o = (block-law known b fb).opens ks in absurd (range-no-brace q.op o.0 (onto (expr_pieces q.end.value) (onto (block_pieces c) ls)) (sym o.1.0 ∙ e))
  range-same (Some r) None b c ks ls fr fq fb fc e =
      let o = (block-law known c fc).opens ls in absurd (range-no-brace r.op o.0 (onto (expr_pieces r.end.value) (onto (block_pieces b) ks)) (sym o.1.0 ∙ sym e))
  range-same (Some r) (Some q) b c ks ls fr fq fb fc e =
      let s = expr-block r.end.value q.end.value b c ks ls fr fq fb fc (ap behind_first e) in
      ((first-token (SignKind (range_sign r.op)) (SignKind (range_sign q.op)) _ _ e, s.0), s.1)

  -- ---- one layer of a tree, of whose parts it is known

  else-pair : (y : Else-F AnElse AStmt ABlock AClause AnIf) (x : Else-F Else Stmt Block Clause IfStmt) → Pair NoElse (ElseLayer (firsts_of_else y)) (ElseLayer x)
  else-pair (layer.«Else::If» s) (layer.«Else::If» t) ks ls h k f g c d e =
      s.1 t ks ls h k (both_pass (if_is_formed s.0) true f).0 (both_pass (if_is_formed t) true g).0 (chosen-front (of_if_stmt listing s.0) [] c) (chosen-front (of_if_stmt listing t) [] d) e
  else-pair (layer.«Else::If» s) (layer.«Else::Block» b) ks ls h k f g c d e =
      let o = (if-law known s.0 (both_pass (if_is_formed s.0) true f).0).opens ks in
      let p = (block-law known b (both_pass (block_is_formed b) true g).0).opens ls in
      let bad : KeywordKind IfKey ∷ o.0 ≡ SignKind OpenBrace ∷ p.0 = sym o.1 ∙ e ∙ p.1.0 in
      cc bad
  else-pair (layer.«Else::Block» b) (layer.«Else::If» s) ks ls h k f g c d e =
      let o = (if-law known s (both_pass (if_is_formed s) true g).0).opens ls in
      let p = (block-law known b.0 (both_pass (block_is_formed b.0) true f).0).opens ks in
      let bad : SignKind OpenBrace ∷ p.0 ≡ KeywordKind IfKey ∷ o.0 = sym p.1.0 ∙ e ∙ o.1 in
      cc bad
  else-pair (layer.«Else::Block» b) (layer.«Else::Block» t) ks ls h k f g c d e =
      b.1 t ks ls tt tt (both_pass (block_is_formed b.0) true f).0 (both_pass (block_is_formed t) true g).0 (chosen-front (of_block listing b.0) [] c) (chosen-front (of_block listing t) [] d) e

  block-pair : (y : Block-F AnElse AStmt ABlock AClause AnIf) (x : Block-F Else Stmt Block Clause IfStmt) → Pair Anything (BlockLayer (firsts_of_block y)) (BlockLayer x)
  block-pair y x ks ls h k f g c d e =
      let s = stmts-same (map (λ e. e.0) y.stmts.items) x.stmts.items (claims-of y.stmts.items) (SignKind CloseBrace ∷ ks) (SignKind CloseBrace ∷ ls) refl refl f g c d (ap behind_first e) in
      let rest : SignKind CloseBrace ∷ ks ≡ SignKind CloseBrace ∷ ls = s.1 in
      ((tt, (refl, (s.0, (tt, refl)))), cc rest)

  clause-pair : (y : Clause-F AnElse AStmt ABlock AClause AnIf) (x : Clause-F Else Stmt Block Clause IfStmt) → Pair Anything (ClauseLayer (firsts_of_clause y)) (ClauseLayer x)
  clause-pair y x ks ls h k f g c d e =
      let a = both_pass (has_members y.patterns.items) (block_is_formed y.body.0) f in
      let b = both_pass (has_members x.patterns.items) (block_is_formed x.body) g in
      let s = patterns-same y.patterns.items x.patterns.items (onto (block_pieces y.body.0) ks) (onto (block_pieces x.body) ls) a.0 b.0 e in
      let t = y.body.1 x.body ks ls tt tt a.1 b.1 c d s.1 in
      ((tt, (s.0, (refl, t.0))), t.1)

  if-pair : (y : IfStmt-F AnElse AStmt ABlock AClause AnIf) (x : IfStmt-F Else Stmt Block Clause IfStmt) → Pair NoElse (IfLayer (firsts_of_if_stmt y)) (IfLayer x)
  if-pair y x = by y.otherwise x.otherwise
    where
      by : (m : Option (Box AnElse)) (n : Option (Box Else)) → Pair NoElse (IfLayer (firsts_of_if_stmt record { condition = y.condition; then = y.then; otherwise = m; at = y.at })) (IfLayer record { condition = x.condition; then = x.then; otherwise = n; at = x.at })
      by None None ks ls h k f g c d e =
          let a = both_pass (expr_is_formed y.condition.value false) (block_is_formed y.then.0 && true) f in
          let b = both_pass (expr_is_formed x.condition.value false) (block_is_formed x.then && true) g in
          let fa = (both_pass (block_is_formed y.then.0) true a.1).0 in
          let fb = (both_pass (block_is_formed x.then) true b.1).0 in
          let s = expr-block y.condition.value x.condition.value y.then.0 x.then ks ls a.0 b.0 fa fb (ap behind_first e) in
          let t = y.then.1 x.then ks ls tt tt fa fb (chosen-front (of_block listing y.then.0) [] c) (chosen-front (of_block listing x.then) [] d) s.1 in
          ((tt, (refl, (s.0, (t.0, tt)))), t.1)
      by None (Some o) ks ls h k f g c d e =
          let a = both_pass (expr_is_formed y.condition.value false) (block_is_formed y.then.0 && true) f in
          let b = both_pass (expr_is_formed x.condition.value false) (block_is_formed x.then && (else_is_formed o.value && true)) g in
          let fa = (both_pass (block_is_formed y.then.0) true a.1).0 in
          let fb = (both_pass (block_is_formed x.then) (else_is_formed o.value && true) b.1).0 in
          let zs = KeywordKind ElseKey ∷ onto (else_pieces o.value) ls in
          let s = expr-block y.condition.value x.condition.value y.then.0 x.then ks zs a.0 b.0 fa fb (ap behind_first e) in
          let t = y.then.1 x.then ks zs tt tt fa fb (chosen-front (of_block listing y.then.0) [] c) (chosen-front (of_block listing x.then) (of_else listing o.value ++ []) d) s.1 in
          let bad : None ≡ Some (onto (else_pieces o.value) ls) = sym h ∙ ap (take_key ElseKey) t.1 in
          cc bad
      by (Some m) None ks ls h k f g c d e =
          let a = both_pass (expr_is_formed y.condition.value false) (block_is_formed y.then.0 && (else_is_formed m.value.0 && true)) f in
          let b = both_pass (expr_is_formed x.condition.value false) (block_is_formed x.then && true) g in
          let fa = (both_pass (block_is_formed y.then.0) (else_is_formed m.value.0 && true) a.1).0 in
          let fb = (both_pass (block_is_formed x.then) true b.1).0 in
          let zs = KeywordKind ElseKey ∷ onto (else_pieces m.value.0) ks in
          let s = expr-block y.condition.value x.condition.value y.then.0 x.then zs ls a.0 b.0 fa fb (ap behind_first e) in
          let t = y.then.1 x.then zs ls tt tt fa fb (chosen-front (of_block listing y.then.0) (of_else listing m.value.0 ++ []) c) (chosen-front (of_block listing x.then) [] d) s.1 in
          let bad : None ≡ Some (onto (else_pieces m.value.0) ks) = sym k ∙ ap (take_key ElseKey) (sym t.1) in
          cc bad
      by (Some m) (Some o) ks ls h k f g c d e =
          let a = both_pass (expr_is_formed y.condition.value false) (block_is_formed y.then.0 && (else_is_formed m.value.0 && true)) f in
          let b = both_pass (expr_is_formed x.condition.value false) (block_is_formed x.then && (else_is_formed o.value && true)) g in
          let fa = both_pass (block_is_formed y.then.0) (else_is_formed m.value.0 && true) a.1 in
          let fb = both_pass (block_is_formed x.then) (else_is_formed o.value && true) b.1 in
          let ys = KeywordKind ElseKey ∷ onto (else_pieces m.value.0) ks in
          let zs = KeywordKind ElseKey ∷ onto (else_pieces o.value) ls in
          let s = expr-block y.condition.value x.condition.value y.then.0 x.then ys zs a.0 b.0 fa.0 fb.0 (ap behind_first e) in
          let t = y.then.1 x.then ys zs tt tt fa.0 fb.0 (chosen-front (of_block listing y.then.0) (of_else listing m.value.0 ++ []) c) (chosen-front (of_block listing x.then) (of_else listing o.value ++ []) d) s.1 in
          let behind : KeywordKind ElseKey ∷ onto (else_pieces m.value.0) ks ≡ KeywordKind ElseKey ∷ onto (else_pieces o.value) ls = t.1 in
          let u = m.value.1 o.value ks ls h k (both_pass (else_is_formed m.value.0) true fa.1).0 (both_pass (else_is_formed o.value) true fb.1).0
          (chosen-front (of_else listing m.value.0) [] (chosen-back (of_block listing y.then.0) (of_else listing m.value.0 ++ []) c)) (chosen-front (of_else listing o.value) [] (chosen-back (of_block listing x.then) (of_else listing o.value ++ []) d)) (cc behind) in
          ((tt, (refl, (s.0, (t.0, (refl, u.0))))), u.1)

  -- two statements of one form
  same-form : (y : Stmt-F AnElse AStmt ABlock AClause AnIf) (x : AStmtLayer) → form (firsts_of_stmt y) ≡ form x → Pair Behind (StmtLayer (firsts_of_stmt y)) (StmtLayer x)
  same-form (layer.Local true t name r at) (layer.Local true u other q place) same ks ls h k f g c d e =
      let a = both_pass (local_type_is_formed t) (rhs_is_formed r) (both_pass (local_type_is_formed t && rhs_is_formed r) true f).0 in
      let b = both_pass (local_type_is_formed u) (rhs_is_formed q) (both_pass (local_type_is_formed u && rhs_is_formed q) true g).0 in
      let s = local-same known one t u name other r q ks ls a.0 b.0 a.1 b.1 (ap behind_first e) in
      ((tt, (refl, s.0)), s.1)
  same-form (layer.Local false (TypeOf t) name r at) (layer.Local false (TypeOf u) other q place) same ks ls h k f g c d e =
      let a = both_pass (local_type_is_formed (TypeOf t)) (rhs_is_formed r) (both_pass (local_type_is_formed (TypeOf t) && rhs_is_formed r) true f).0 in
      let b = both_pass (local_type_is_formed (TypeOf u)) (rhs_is_formed q) (both_pass (local_type_is_formed (TypeOf u) && rhs_is_formed q) true g).0 in
      let s = local-same known one (TypeOf t) (TypeOf u) name other r q ks ls a.0 b.0 a.1 b.1 e in
      ((tt, (tt, s.0)), s.1)
  same-form (layer.Local false (Var p) name r at) (layer.Local false (Var o) other q place) same ks ls h k f g c d e =
      let s = local-same known one (Var p) (Var o) name other r q ks ls refl refl (both_pass (rhs_is_formed r) true f).0 (both_pass (rhs_is_formed q) true g).0 e in
      ((tt, (tt, s.0)), s.1)
  same-form (layer.Assign t op r at) (layer.Assign u o q place) same ks ls h k f g c d e =
      let a = both_pass (target_is_formed t) (rhs_is_formed r) (both_pass (target_is_formed t && rhs_is_formed r) true f).0 in
      let b = both_pass (target_is_formed u) (rhs_is_formed q) (both_pass (target_is_formed u && rhs_is_formed q) true g).0 in
      let s = target-same known one t u op o (onto (ended_pieces r) ks) (onto (ended_pieces q) ls) a.0 b.0 e in
      let rest : SignKind (assign_sign op) ∷ onto (ended_pieces r) ks ≡ SignKind (assign_sign o) ∷ onto (ended_pieces q) ls = s.1 in
      let v = ended-same known one r q ks ls a.1 b.1 (cc rest) in
      ((tt, (s.0, (cc rest, v.0))), v.1)
  same-form (layer.Ignore r at) (layer.Ignore q place) same ks ls h k f g c d e =
      let v = ended-same known one r q ks ls (both_pass (rhs_is_formed r) true f).0 (both_pass (rhs_is_formed q) true g).0 (ap behind_first (ap behind_first e)) in
      ((tt, (refl, (refl, v.0))), v.1)
  same-form (layer.Rhs r at) (layer.Rhs q place) same ks ls h k f g c d e =
      let a = both_pass (stands_alone r) (rhs_is_formed r) (both_pass (stands_alone r && rhs_is_formed r) true f).0 in
      let b = both_pass (stands_alone q) (rhs_is_formed q) (both_pass (stands_alone q && rhs_is_formed q) true g).0 in
      let v = ended-same known one r q ks ls a.1 b.1 e in
      ((tt, v.0), v.1)
  same-form (layer.«Stmt::If» s) (layer.«Stmt::If» t) same ks ls h k f g c d e =
      s.1 t ks ls h.no_else k.no_else (both_pass (if_is_formed s.0) true f).0 (both_pass (if_is_formed t) true g).0 c d e
  same-form (layer.While m p at) (layer.While n q place) same ks ls h k f g c d e =
      let a = both_pass (expr_is_formed m.value false) (block_is_formed p.0 && true) f in
      let b = both_pass (expr_is_formed n.value false) (block_is_formed q && true) g in
      let fa = (both_pass (block_is_formed p.0) true a.1).0 in
      let fb = (both_pass (block_is_formed q) true b.1).0 in
      let s = expr-block m.value n.value p.0 q ks ls a.0 b.0 fa fb (ap behind_first e) in
      let t = p.1 q ks ls tt tt fa fb c d s.1 in
      ((tt, (refl, (s.0, t.0))), t.1)
  same-form (layer.Foreach t name m r p at) (layer.Foreach u other n o q place) same ks ls h k f g c d e =
      let a = both_pass (local_type_is_formed t && expr_is_formed m.value false && range_is_formed r) (block_is_formed p.0 && true) f in
      let b = both_pass (local_type_is_formed u && expr_is_formed n.value false && range_is_formed o) (block_is_formed q && true) g in
      let a2 = both_pass (local_type_is_formed t && expr_is_formed m.value false) (range_is_formed r) a.0 in
      let b2 = both_pass (local_type_is_formed u && expr_is_formed n.value false) (range_is_formed o) b.0 in
      let a3 = both_pass (local_type_is_formed t) (expr_is_formed m.value false) a2.0 in
      let b3 = both_pass (local_type_is_formed u) (expr_is_formed n.value false) b2.0 in
      let fa = (both_pass (block_is_formed p.0) true a.1).0 in
      let fb = (both_pass (block_is_formed q) true b.1).0 in
      let ys = onto (if_there range_pieces r) (onto (block_pieces p.0) ks) in
      let zs = onto (if_there range_pieces o) (onto (block_pieces q) ls) in
      let s = local_type-same known one t u name other (KeywordKind InKey ∷ onto (expr_pieces m.value) ys) (KeywordKind InKey ∷ onto (expr_pieces n.value) zs) a3.0 b3.0 (ap behind_first e) in
      let behind : KeywordKind InKey ∷ onto (expr_pieces m.value) ys ≡ KeywordKind InKey ∷ onto (expr_pieces n.value) zs = s.1 in
      let v = expr-then known one m.value n.value ys zs a3.1 b3.1 (range-then m.value r p.0 ks a3.1 fa) (range-then n.value o q ls b3.1 fb) (cc behind) in
      let w = range-same r o p.0 q ks ls a2.1 b2.1 fa fb v.1 in
      let z = p.1 q ks ls tt tt fa fb c d w.1 in
      ((tt, ((refl, (s.0.0, (s.0.1, (refl, (v.0, w.0))))), z.0)), z.1)
  same-form (layer.Match m cs at) (layer.Match n ds place) same ks ls h k f g c d e =
      let a = both_pass (expr_is_formed m.value false && has_members (map clause_is_formed (map (λ e. e.0) cs.items))) (are_formed (map clause_is_formed (map (λ e. e.0) cs.items))) f in
      let b = both_pass (expr_is_formed n.value false && has_members (map clause_is_formed ds.items)) (are_formed (map clause_is_formed ds.items)) g in
      let fa = (both_pass (expr_is_formed m.value false) (has_members (map clause_is_formed (map (λ e. e.0) cs.items))) a.0).0 in
      let fb = (both_pass (expr_is_formed n.value false) (has_members (map clause_is_formed ds.items)) b.0).0 in
      let ys = onto (joined (map clause_pieces (map (λ e. e.0) cs.items))) (SignKind CloseBrace ∷ ks) in
      let zs = onto (joined (map clause_pieces ds.items)) (SignKind CloseBrace ∷ ls) in
      let s = expr-same known one m.value n.value OpenBrace OpenBrace ys zs fa fb refl refl (ap behind_first e) in
      let inside : SignKind OpenBrace ∷ ys ≡ SignKind OpenBrace ∷ zs = s.1 in
      let t = clauses-same cs.items ds.items ks ls a.1 b.1 c d (cc inside) in
      let rest : SignKind CloseBrace ∷ ks ≡ SignKind CloseBrace ∷ ls = t.1 in
      ((tt, (refl, (s.0, (refl, (t.0, refl))))), cc rest)
  same-form (layer.Return m at) (layer.Return n place) same ks ls h k f g c d e =
      let s = return-same known one m n ks ls (both_pass (value_is_formed m) true f).0 (both_pass (value_is_formed n) true g).0 (ap behind_first e) in
      ((tt, (refl, s.0)), s.1)
  same-form (layer.Panic m at) (layer.Panic n place) same ks ls h k f g c d e =
      let s = expr-same known one m.value n.value Semicolon Semicolon ks ls (both_pass (expr_is_formed m.value false) true f).0 (both_pass (expr_is_formed n.value false) true g).0 refl refl (ap behind_first e) in
      let rest : SignKind Semicolon ∷ ks ≡ SignKind Semicolon ∷ ls = s.1 in
      ((tt, (refl, (s.0, refl))), cc rest)
  same-form (layer.Break at) (layer.Break place) same ks ls h k f g c d e = ((tt, (refl, refl)), ap behind_first (ap behind_first e))
  same-form (layer.Continue at) (layer.Continue place) same ks ls h k f g c d e = ((tt, (refl, refl)), ap behind_first (ap behind_first e))
  same-form (layer.«Stmt::Block» b) (layer.«Stmt::Block» t) same ks ls h k f g c d e =
      b.1 t ks ls tt tt (both_pass (block_is_formed b.0) true f).0 (both_pass (block_is_formed t) true g).0 c d e
  same-form (layer.Local true t name r at) (layer.Local false (TypeOf u) other q place) same ks ls h k f g c d e = absurd (false≢true (one-code (form (firsts_of_stmt (layer.Local true t name r at))) (form (layer.Local false (TypeOf u) other q place)) same))
  same-form (layer.Local true t name r at) (layer.Local false (Var o) other q place) same ks ls h k f g c d e = absurd (false≢true (one-code (form (firsts_of_stmt (layer.Local true t name r at))) (form (layer.Local false (Var o) other q place)) same))
  same-form (layer.Local false (TypeOf t) name r at) (layer.Local true u other q place) same ks ls h k f g c d e = absurd (false≢true (one-code (form (firsts_of_stmt (layer.Local false (TypeOf t) name r at))) (form (layer.Local true u other q place)) same))
  same-form (layer.Local false (TypeOf t) name r at) (layer.Local false (Var o) other q place) same ks ls h k f g c d e = absurd (false≢true (one-code (form (firsts_of_stmt (layer.Local false (TypeOf t) name r at))) (form (layer.Local false (Var o) other q place)) same))
  same-form (layer.Local false (Var p) name r at) (layer.Local true u other q place) same ks ls h k f g c d e = absurd (false≢true (one-code (form (firsts_of_stmt (layer.Local false (Var p) name r at))) (form (layer.Local true u other q place)) same))
  same-form (layer.Local false (Var p) name r at) (layer.Local false (TypeOf u) other q place) same ks ls h k f g c d e = absurd (false≢true (one-code (form (firsts_of_stmt (layer.Local false (Var p) name r at))) (form (layer.Local false (TypeOf u) other q place)) same))
  same-form (layer.Local true t name r at) x same ks ls h k f g c d e = absurd (false≢true (one-code (form (firsts_of_stmt (layer.Local true t name r at))) (form x) same))
  same-form (layer.Local false (TypeOf t) name r at) x same ks ls h k f g c d e = absurd (false≢true (one-code (form (firsts_of_stmt (layer.Local false (TypeOf t) name r at))) (form x) same))
  same-form (layer.Local false (Var p) name r at) x same ks ls h k f g c d e = absurd (false≢true (one-code (form (firsts_of_stmt (layer.Local false (Var p) name r at))) (form x) same))
  same-form y (layer.Local true u other q place) same ks ls h k f g c d e = absurd (false≢true (one-code (form (firsts_of_stmt y)) (form (layer.Local true u other q place)) same))
  same-form y (layer.Local false (TypeOf u) other q place) same ks ls h k f g c d e = absurd (false≢true (one-code (form (firsts_of_stmt y)) (form (layer.Local false (TypeOf u) other q place)) same))
  same-form y (layer.Local false (Var o) other q place) same ks ls h k f g c d e = absurd (false≢true (one-code (form (firsts_of_stmt y)) (form (layer.Local false (Var o) other q place)) same))
  same-form y x same ks ls h k f g c d e = absurd (false≢true (one-code (form (firsts_of_stmt y)) (form x) same))

  -- a block against a statement that leads
  block-or-led : (z x : AStmtLayer) (ks ls : Kinds) → is_brace (form z) ≡ true → is_led (form x) ≡ true → (StmtLayer z).formed ≡ true → (StmtLayer x).formed ≡ true → AreChosen (StmtLayer x).led → Behind ks → onto (StmtLayer z).pieces ks ≡ onto (StmtLayer x).pieces ls → ⊥
  block-or-led (layer.Local true t name value at) x ks ls h k f g d r e = cc h
  block-or-led (layer.Local false (TypeOf t) name value at) x ks ls h k f g d r e = cc h
  block-or-led (layer.Local false (Var place) name value at) x ks ls h k f g d r e = cc h
  block-or-led (layer.«Stmt::Block» b) x ks ls h k f g d r e = no-mapping known b x ks ls (both_pass (block_is_formed b) true f).0 g d k r e
  block-or-led z x ks ls h k f g d r e = cc h

  stmt-pair : (y : Stmt-F AnElse AStmt ABlock AClause AnIf) (x : AStmtLayer) → Pair Behind (StmtLayer (firsts_of_stmt y)) (StmtLayer x)
  stmt-pair y x ks ls h k f g c d e =
      elim (one-form (form (firsts_of_stmt y)) (form x) (onto (StmtLayer (firsts_of_stmt y)).pieces ks) ks ls (fits known (firsts_of_stmt y) ks f) (subst (λ xs. Fits (form x) xs ls) (sym e) (fits known x ls g)) (form-known (firsts_of_stmt y)) (form-known x)) [
        | inl same ↦ same-form y x same ks ls h k f g c d e
        | inr (inl braces) ↦ absurd (block-or-led (firsts_of_stmt y) x ks ls braces.0 braces.1 f g d h e)
        | inr (inr braces) ↦ absurd (block-or-led x (firsts_of_stmt y) ls ks braces.1 braces.0 g f c k (sym e))
      ]

  -- ---- the whole

  else-step : (x : Else-F Else Stmt Block Clause IfStmt) (y : Else-F AnElse AStmt ABlock AClause AnIf) → firsts_of_else y ≡ x → ClaimElse (roll-Else x)
  else-step x y is = λ u. subst (λ v. Pair NoElse (told_else (roll-Else x)) (told_else v)) (roll-out-Else u)
      (subst (λ a. Pair NoElse a (told_else (roll-Else (out-Else u)))) (sym (told-else x)) (subst (λ b. Pair NoElse (ElseLayer x) b) (sym (told-else (out-Else u))) (subst (λ z. Pair NoElse (ElseLayer z) (ElseLayer (out-Else u))) is (else-pair y (out-Else u)))))

  stmt-step : (x : AStmtLayer) (y : Stmt-F AnElse AStmt ABlock AClause AnIf) → firsts_of_stmt y ≡ x → ClaimStmt (roll-Stmt x)
  stmt-step x y is = λ u. subst (λ v. Pair Behind (told_stmt (roll-Stmt x)) (told_stmt v)) (roll-out-Stmt u)
      (subst (λ a. Pair Behind a (told_stmt (roll-Stmt (out-Stmt u)))) (sym (told-stmt x)) (subst (λ b. Pair Behind (StmtLayer x) b) (sym (told-stmt (out-Stmt u))) (subst (λ z. Pair Behind (StmtLayer z) (StmtLayer (out-Stmt u))) is (stmt-pair y (out-Stmt u)))))

  block-step : (x : Block-F Else Stmt Block Clause IfStmt) (y : Block-F AnElse AStmt ABlock AClause AnIf) → firsts_of_block y ≡ x → ClaimBlock (roll-Block x)
  block-step x y is = λ u. subst (λ v. Pair Anything (told_block (roll-Block x)) (told_block v)) (roll-out-Block u)
      (subst (λ a. Pair Anything a (told_block (roll-Block (out-Block u)))) (sym (told-block x)) (subst (λ b. Pair Anything (BlockLayer x) b) (sym (told-block (out-Block u))) (subst (λ z. Pair Anything (BlockLayer z) (BlockLayer (out-Block u))) is (block-pair y (out-Block u)))))

  clause-step : (x : Clause-F Else Stmt Block Clause IfStmt) (y : Clause-F AnElse AStmt ABlock AClause AnIf) → firsts_of_clause y ≡ x → ClaimClause (roll-Clause x)
  clause-step x y is = λ u. subst (λ v. Pair Anything (told_clause (roll-Clause x)) (told_clause v)) (roll-out-Clause u)
      (subst (λ a. Pair Anything a (told_clause (roll-Clause (out-Clause u)))) (sym (told-clause x)) (subst (λ b. Pair Anything (ClauseLayer x) b) (sym (told-clause (out-Clause u))) (subst (λ z. Pair Anything (ClauseLayer z) (ClauseLayer (out-Clause u))) is (clause-pair y (out-Clause u)))))

  if-step : (x : IfStmt-F Else Stmt Block Clause IfStmt) (y : IfStmt-F AnElse AStmt ABlock AClause AnIf) → firsts_of_if_stmt y ≡ x → ClaimIf (roll-IfStmt x)
  if-step x y is = λ u. subst (λ v. Pair NoElse (told_if (roll-IfStmt x)) (told_if v)) (roll-out-IfStmt u)
      (subst (λ a. Pair NoElse a (told_if (roll-IfStmt (out-IfStmt u)))) (sym (told-if x)) (subst (λ b. Pair NoElse (IfLayer x) b) (sym (told-if (out-IfStmt u))) (subst (λ z. Pair NoElse (IfLayer z) (IfLayer (out-IfStmt u))) is (if-pair y (out-IfStmt u)))))

  pub stmt-one : (t : Stmt) → ClaimStmt t
  stmt-one = ind-Stmt ClaimElse ClaimStmt ClaimBlock ClaimClause ClaimIf else-step stmt-step block-step clause-step if-step

  pub block-one : (t : Block) → ClaimBlock t
  block-one = ind-Block ClaimElse ClaimStmt ClaimBlock ClaimClause ClaimIf else-step stmt-step block-step clause-step if-step

  pub all-claims : (ts : List Stmt) → Claims ts
  all-claims [] = tt
  all-claims (t ∷ ts) = (stmt-one t, all-claims ts)
