-- Each statement leaves one statement, each block itself, and each clause is one of its match, by induction on trees.
use Rattle.std.proofs.Common.{◌≡◌, Bool, true, false, List, [], ◌∷◌, map, Option, None, Some, arith, refl, sym, subst}
use Rattle.std.specs.Global.{Box}
use Rattle.bal_base.specs.declared.place.Place.{Place}
use Rattle.bal_base.specs.declared.text.Name.{Name}
use Rattle.bal_tree.specs.declared.stmt.Else.TheOpen as layer
use Rattle.bal_tree.specs.declared.stmt.Else.{Else, Else-F, roll-Else, map-Else, fold-roll-Else}
use Rattle.bal_tree.specs.declared.stmt.Stmt.{Stmt, Stmt-F, roll-Stmt, map-Stmt, fold-roll-Stmt, ind-Stmt}
use Rattle.bal_tree.specs.declared.stmt.Block.{Block, Block-F, roll-Block, map-Block, fold-roll-Block, ind-Block}
use Rattle.bal_tree.specs.declared.stmt.Clause.{Clause, Clause-F, roll-Clause, map-Clause, fold-roll-Clause}
use Rattle.bal_tree.specs.declared.stmt.IfStmt.{IfStmt, IfStmt-F, roll-IfStmt, map-IfStmt, fold-roll-IfStmt}
use Rattle.bal_tree.specs.StmtLayers.{BlockOf, ClauseOf, ElseOf, IfStmtOf, StmtOf}
use Rattle.needs.specs.Needs.{in_turn_from}
use Rattle.typed_tree.specs.Listed.{Listed, nothing, one}
use Rattle.expr_needs.specs.declared.kind.Kind.TheVariants as kind
use Rattle.expr_needs.specs.ActionTable.{read_rhs}
use Rattle.expr_needs.specs.ExprTable.{read_expr}
use Rattle.expr_needs.specs.Needs.{Need, Breaks, Continues}
use Rattle.stmt_needs.specs.StmtTable.{StmtReading, Within, jump_needs, otherwise_needs, read_block, read_clause, read_else, read_if_stmt, read_stmt, stmt_reading, stmts_needs_from}
use Rattle.check_laws.specs.Heights.{Heights, ◌⊕◌, parts, matches, blocks, with_stmt}
use Rattle.check_laws.proofs.ActionTrees.{rhs-one}
use Rattle.check_laws.proofs.Leading.{Base, Leads}
use Rattle.check_laws.proofs.Lines.{of-any, of-kind}
use Rattle.check_laws.proofs.StmtLines.{OneBlock, OneClause, OneStmt, assignment, choice, clause, declaration, foreach, inner, no-else, returning, while}
use Rattle.check_laws.proofs.Trees.{expr-one}

module _ (workers : List Name) (base : Base) where
  abbrev Lead : Heights → Listed Need → Heights → Type 0
  Lead = Leads workers base

  abbrev ClaimElse : Else → Type 0
  ClaimElse e = OneBlock workers base (read_else e).needs

  abbrev AnElse : Type 0
  AnElse = (e : Else) × ClaimElse e

  abbrev ClaimStmt : Stmt → Type 0
  ClaimStmt e = OneStmt workers base (read_stmt e).needs

  abbrev AStmt : Type 0
  AStmt = (e : Stmt) × ClaimStmt e

  abbrev ClaimBlock : Block → Type 0
  ClaimBlock e = OneBlock workers base (read_block e).needs

  abbrev ABlock : Type 0
  ABlock = (e : Block) × ClaimBlock e

  abbrev ClaimClause : Clause → Type 0
  ClaimClause e = OneClause workers base (read_clause e).needs

  abbrev AClause : Type 0
  AClause = (e : Clause) × ClaimClause e

  abbrev ClaimIfStmt : IfStmt → Type 0
  ClaimIfStmt e = OneStmt workers base (read_if_stmt e).needs

  abbrev AnIfStmt : Type 0
  AnIfStmt = (e : IfStmt) × ClaimIfStmt e

  -- ---- one layer of a tree, of whose parts it is known

  abbrev firsts_of_else : Else-F AnElse AStmt ABlock AClause AnIfStmt → Else-F Else Stmt Block Clause IfStmt
  firsts_of_else = map-Else AnElse AStmt ABlock AClause AnIfStmt Else Stmt Block Clause IfStmt (λ e. e.0) (λ e. e.0) (λ e. e.0) (λ e. e.0) (λ e. e.0)

  abbrev parts_of_else : Else-F Else Stmt Block Clause IfStmt → ElseOf StmtReading
  parts_of_else = map-Else Else Stmt Block Clause IfStmt StmtReading StmtReading StmtReading StmtReading StmtReading read_else read_stmt read_block read_clause read_if_stmt

  rolled-else : (x : Else-F Else Stmt Block Clause IfStmt) → read_else (roll-Else x) ≡ stmt_reading.else (parts_of_else x)
  rolled-else x = fold-roll-Else StmtReading StmtReading StmtReading StmtReading StmtReading stmt_reading.else stmt_reading.stmt stmt_reading.block stmt_reading.clause stmt_reading.if_stmt x

  abbrev LayerElse : Else-F AnElse AStmt ABlock AClause AnIfStmt → Type 0
  LayerElse y = OneBlock workers base (stmt_reading.else (parts_of_else (firsts_of_else y))).needs

  abbrev firsts_of_stmt : Stmt-F AnElse AStmt ABlock AClause AnIfStmt → Stmt-F Else Stmt Block Clause IfStmt
  firsts_of_stmt = map-Stmt AnElse AStmt ABlock AClause AnIfStmt Else Stmt Block Clause IfStmt (λ e. e.0) (λ e. e.0) (λ e. e.0) (λ e. e.0) (λ e. e.0)

  abbrev parts_of_stmt : Stmt-F Else Stmt Block Clause IfStmt → StmtOf StmtReading
  parts_of_stmt = map-Stmt Else Stmt Block Clause IfStmt StmtReading StmtReading StmtReading StmtReading StmtReading read_else read_stmt read_block read_clause read_if_stmt

  rolled-stmt : (x : Stmt-F Else Stmt Block Clause IfStmt) → read_stmt (roll-Stmt x) ≡ stmt_reading.stmt (parts_of_stmt x)
  rolled-stmt x = fold-roll-Stmt StmtReading StmtReading StmtReading StmtReading StmtReading stmt_reading.else stmt_reading.stmt stmt_reading.block stmt_reading.clause stmt_reading.if_stmt x

  abbrev LayerStmt : Stmt-F AnElse AStmt ABlock AClause AnIfStmt → Type 0
  LayerStmt y = OneStmt workers base (stmt_reading.stmt (parts_of_stmt (firsts_of_stmt y))).needs

  abbrev firsts_of_block : Block-F AnElse AStmt ABlock AClause AnIfStmt → Block-F Else Stmt Block Clause IfStmt
  firsts_of_block = map-Block AnElse AStmt ABlock AClause AnIfStmt Else Stmt Block Clause IfStmt (λ e. e.0) (λ e. e.0) (λ e. e.0) (λ e. e.0) (λ e. e.0)

  abbrev parts_of_block : Block-F Else Stmt Block Clause IfStmt → BlockOf StmtReading
  parts_of_block = map-Block Else Stmt Block Clause IfStmt StmtReading StmtReading StmtReading StmtReading StmtReading read_else read_stmt read_block read_clause read_if_stmt

  rolled-block : (x : Block-F Else Stmt Block Clause IfStmt) → read_block (roll-Block x) ≡ stmt_reading.block (parts_of_block x)
  rolled-block x = fold-roll-Block StmtReading StmtReading StmtReading StmtReading StmtReading stmt_reading.else stmt_reading.stmt stmt_reading.block stmt_reading.clause stmt_reading.if_stmt x

  abbrev LayerBlock : Block-F AnElse AStmt ABlock AClause AnIfStmt → Type 0
  LayerBlock y = OneBlock workers base (stmt_reading.block (parts_of_block (firsts_of_block y))).needs

  abbrev firsts_of_clause : Clause-F AnElse AStmt ABlock AClause AnIfStmt → Clause-F Else Stmt Block Clause IfStmt
  firsts_of_clause = map-Clause AnElse AStmt ABlock AClause AnIfStmt Else Stmt Block Clause IfStmt (λ e. e.0) (λ e. e.0) (λ e. e.0) (λ e. e.0) (λ e. e.0)

  abbrev parts_of_clause : Clause-F Else Stmt Block Clause IfStmt → ClauseOf StmtReading
  parts_of_clause = map-Clause Else Stmt Block Clause IfStmt StmtReading StmtReading StmtReading StmtReading StmtReading read_else read_stmt read_block read_clause read_if_stmt

  rolled-clause : (x : Clause-F Else Stmt Block Clause IfStmt) → read_clause (roll-Clause x) ≡ stmt_reading.clause (parts_of_clause x)
  rolled-clause x = fold-roll-Clause StmtReading StmtReading StmtReading StmtReading StmtReading stmt_reading.else stmt_reading.stmt stmt_reading.block stmt_reading.clause stmt_reading.if_stmt x

  abbrev LayerClause : Clause-F AnElse AStmt ABlock AClause AnIfStmt → Type 0
  LayerClause y = OneClause workers base (stmt_reading.clause (parts_of_clause (firsts_of_clause y))).needs

  abbrev firsts_of_if_stmt : IfStmt-F AnElse AStmt ABlock AClause AnIfStmt → IfStmt-F Else Stmt Block Clause IfStmt
  firsts_of_if_stmt = map-IfStmt AnElse AStmt ABlock AClause AnIfStmt Else Stmt Block Clause IfStmt (λ e. e.0) (λ e. e.0) (λ e. e.0) (λ e. e.0) (λ e. e.0)

  abbrev parts_of_if_stmt : IfStmt-F Else Stmt Block Clause IfStmt → IfStmtOf StmtReading
  parts_of_if_stmt = map-IfStmt Else Stmt Block Clause IfStmt StmtReading StmtReading StmtReading StmtReading StmtReading read_else read_stmt read_block read_clause read_if_stmt

  rolled-if_stmt : (x : IfStmt-F Else Stmt Block Clause IfStmt) → read_if_stmt (roll-IfStmt x) ≡ stmt_reading.if_stmt (parts_of_if_stmt x)
  rolled-if_stmt x = fold-roll-IfStmt StmtReading StmtReading StmtReading StmtReading StmtReading stmt_reading.else stmt_reading.stmt stmt_reading.block stmt_reading.clause stmt_reading.if_stmt x

  abbrev LayerIfStmt : IfStmt-F AnElse AStmt ABlock AClause AnIfStmt → Type 0
  LayerIfStmt y = OneStmt workers base (stmt_reading.if_stmt (parts_of_if_stmt (firsts_of_if_stmt y))).needs

  -- ---- lists

  -- statements one behind another, in a block of their own
  pub stmts-lead : (xs : List AStmt) (w : Within) (h g : Heights) (before : Listed Need) → Lead g before (h ⊕ blocks 1)
      → Lead g (stmts_needs_from before w (map read_stmt (map (λ x. x.0) xs))) (h ⊕ blocks 1)
  stmts-lead [] w h g before begun = begun
  stmts-lead (x ∷ xs) w h g before begun =
      stmts-lead xs w h g _ (h ⊕ blocks 1, begun, x.1 _ (h ⊕ blocks 1) (omega arith))

  clauses-lead : (xs : List AClause) (w : Within) (h g : Heights) (start : Listed Need) → Lead g start (h ⊕ matches 1)
      → Lead g (in_turn_from start (λ c. c.needs w) (map read_clause (map (λ x. x.0) xs))) (h ⊕ matches 1)
  clauses-lead [] w h g start begun = begun
  clauses-lead (x ∷ xs) w h g start begun = clauses-lead xs w h g _ (h ⊕ matches 1, begun, x.1 w h)

  -- outside of loops it is refused
  jump : (n : Need) (at : Place) (loop : Bool) (h : Heights) → Lead h (one n) (with_stmt h) → Lead h (jump_needs n at loop) (with_stmt h)
  jump n at true h l = l
  jump n at false h l = tt

  -- ---- layers

  else-layer : (y : Else-F AnElse AStmt ABlock AClause AnIfStmt) → LayerElse y
  else-layer (layer.«Else::If» s) = inner workers base _ s.1
  else-layer (layer.«Else::Block» b) = b.1

  stmt-layer : (y : Stmt-F AnElse AStmt ABlock AClause AnIfStmt) → LayerStmt y
  stmt-layer (layer.Local final t name value at) = declaration workers base final t name (read_rhs value) at (rhs-one workers base value)
  stmt-layer (layer.Assign what o value at) = assignment workers base o what (read_rhs value) at (rhs-one workers base value)
  stmt-layer (layer.Ignore value at) = λ w h b. (h ⊕ parts 1, of-any workers base (read_rhs value) (rhs-one workers base value) h, (h, refl, refl, b))
  stmt-layer (layer.Rhs value at) = λ w h b.
      (h ⊕ parts 1, of-any workers base (read_rhs value) (rhs-one workers base value) h, (h ⊕ parts 1, (h, refl, refl), (h, refl, refl, b)))
  stmt-layer (layer.«Stmt::If» s) = s.1
  stmt-layer (layer.While c body at) = while workers base (read_expr c.value) (read_block body.0) at (expr-one workers base c.value) body.1
  stmt-layer (layer.Foreach t name from range body at) =
      foreach workers base t name (read_expr from.value) range (read_block body.0) at (expr-one workers base from.value) body.1
  stmt-layer (layer.Match value clauses at) = λ w h b.
      let k : Heights = h ⊕ (parts 1 ⊕ matches 1) in (
        k,
        (h ⊕ parts 1, of-any workers base (read_expr value.value) (expr-one workers base value.value) h, (h, refl, refl)),
        (k, clauses-lead clauses.items w (h ⊕ parts 1) k nothing refl, (h, refl, refl, b)),
      )
  stmt-layer (layer.Return None at) = λ w h b. (h, refl, refl, b)
  stmt-layer (layer.Return (Some value) at) = returning workers base (read_rhs value) at (rhs-one workers base value)
  stmt-layer (layer.Panic value at) = λ w h b. (
    h ⊕ parts 1,
    of-kind workers base kind.AnyError (read_expr value.value) (expr-one workers base value.value) h,
    (with_stmt h, (h, refl, refl, b), (with_stmt h, refl, refl)),
  )
  stmt-layer (layer.Break at) = λ w h b. jump (Breaks at) at w.loop h (h, refl, refl, b)
  stmt-layer (layer.Continue at) = λ w h b. jump (Continues at) at w.loop h (h, refl, refl, b)
  stmt-layer (layer.«Stmt::Block» b) = λ w h seen. (h ⊕ blocks 1, b.1 w h, (h, refl, refl, seen))

  block-layer : (y : Block-F AnElse AStmt ABlock AClause AnIfStmt) → LayerBlock y
  block-layer y = λ w h. (h ⊕ blocks 1, (h, refl, refl), (h ⊕ blocks 1, stmts-lead y.stmts.items _ h (h ⊕ blocks 1) nothing refl, (h, refl, refl)))

  clause-layer : (y : Clause-F AnElse AStmt ABlock AClause AnIfStmt) → LayerClause y
  clause-layer y = clause workers base y.patterns.items (read_block y.body.0) y.at y.body.1

  if_stmt-layer : (y : IfStmt-F AnElse AStmt ABlock AClause AnIfStmt) → LayerIfStmt y
  if_stmt-layer y = by y y.otherwise
    where
      by : (z : IfStmt-F AnElse AStmt ABlock AClause AnIfStmt) (second : Option (Box AnElse)) → LayerIfStmt (record z { otherwise = second })
      by z None = choice workers base (read_expr z.condition.value) (read_block z.then.0) (otherwise_needs None) z.at (expr-one workers base z.condition.value) z.then.1 (no-else workers base)
      by z (Some e) = choice workers base (read_expr z.condition.value) (read_block z.then.0) (read_else e.value.0).needs z.at (expr-one workers base z.condition.value) z.then.1 e.value.1

  -- ---- the whole

  else-step : (x : Else-F Else Stmt Block Clause IfStmt) (y : Else-F AnElse AStmt ABlock AClause AnIfStmt) → firsts_of_else y ≡ x → ClaimElse (roll-Else x)
  else-step x y is =
      subst (λ z. ClaimElse (roll-Else z)) is
      (subst (λ (r : StmtReading). OneBlock workers base r.needs) (sym (rolled-else (firsts_of_else y))) (else-layer y))

  stmt-step : (x : Stmt-F Else Stmt Block Clause IfStmt) (y : Stmt-F AnElse AStmt ABlock AClause AnIfStmt) → firsts_of_stmt y ≡ x → ClaimStmt (roll-Stmt x)
  stmt-step x y is =
      subst (λ z. ClaimStmt (roll-Stmt z)) is
      (subst (λ (r : StmtReading). OneStmt workers base r.needs) (sym (rolled-stmt (firsts_of_stmt y))) (stmt-layer y))

  block-step : (x : Block-F Else Stmt Block Clause IfStmt) (y : Block-F AnElse AStmt ABlock AClause AnIfStmt) → firsts_of_block y ≡ x → ClaimBlock (roll-Block x)
  block-step x y is =
      subst (λ z. ClaimBlock (roll-Block z)) is
      (subst (λ (r : StmtReading). OneBlock workers base r.needs) (sym (rolled-block (firsts_of_block y))) (block-layer y))

  clause-step : (x : Clause-F Else Stmt Block Clause IfStmt) (y : Clause-F AnElse AStmt ABlock AClause AnIfStmt) → firsts_of_clause y ≡ x → ClaimClause (roll-Clause x)
  clause-step x y is =
      subst (λ z. ClaimClause (roll-Clause z)) is
      (subst (λ (r : StmtReading). OneClause workers base r.needs) (sym (rolled-clause (firsts_of_clause y))) (clause-layer y))

  if_stmt-step : (x : IfStmt-F Else Stmt Block Clause IfStmt) (y : IfStmt-F AnElse AStmt ABlock AClause AnIfStmt) → firsts_of_if_stmt y ≡ x → ClaimIfStmt (roll-IfStmt x)
  if_stmt-step x y is =
      subst (λ z. ClaimIfStmt (roll-IfStmt z)) is
      (subst (λ (r : StmtReading). OneStmt workers base r.needs) (sym (rolled-if_stmt (firsts_of_if_stmt y))) (if_stmt-layer y))

  pub stmt-one : (e : Stmt) → ClaimStmt e
  stmt-one = ind-Stmt ClaimElse ClaimStmt ClaimBlock ClaimClause ClaimIfStmt else-step stmt-step block-step clause-step if_stmt-step

  pub block-one : (e : Block) → ClaimBlock e
  block-one = ind-Block ClaimElse ClaimStmt ClaimBlock ClaimClause ClaimIfStmt else-step stmt-step block-step clause-step if_stmt-step
