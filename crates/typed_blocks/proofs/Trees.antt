-- Each statement, block and clause is known, by induction on trees.
use Rattle.std.proofs.Common.{List, None, Option, Some, [], map, subst, sym, ◌∷◌, ◌≡◌}
use Rattle.std.specs.Global.{Box}
use Rattle.bal_base.specs.declared.place.Place.{Place}
use Rattle.bal_tree.specs.StmtLayers.{BlockOf, ClauseOf, ElseOf, IfStmtOf, StmtOf}
use Rattle.bal_tree.specs.declared.action.Rhs.{Rhs}
use Rattle.bal_tree.specs.declared.expr.Expr.{Expr}
use Rattle.bal_tree.specs.declared.expr.Postfix.{Postfix}
use Rattle.bal_tree.specs.declared.name.Word.{Word}
use Rattle.bal_tree.specs.declared.stmt.AssignOp.TheVariants as assign
use Rattle.bal_tree.specs.declared.stmt.AssignOp.{AssignOp}
use Rattle.bal_tree.specs.declared.stmt.Block.{Block, Block-F, fold-roll-Block, ind-Block, map-Block, roll-Block}
use Rattle.bal_tree.specs.declared.stmt.Clause.{Clause, Clause-F, fold-roll-Clause, ind-Clause, map-Clause, roll-Clause}
use Rattle.bal_tree.specs.declared.stmt.Else.TheOpen as layer
use Rattle.bal_tree.specs.declared.stmt.Else.{Else, Else-F, fold-roll-Else, map-Else, roll-Else}
use Rattle.bal_tree.specs.declared.stmt.IfStmt.{IfStmt, IfStmt-F, fold-roll-IfStmt, map-IfStmt, roll-IfStmt}
use Rattle.bal_tree.specs.declared.stmt.LocalType.{LocalType}
use Rattle.bal_tree.specs.declared.stmt.Range.{Range}
use Rattle.bal_tree.specs.declared.stmt.Stmt.{Stmt, Stmt-F, fold-roll-Stmt, ind-Stmt, map-Stmt, roll-Stmt}
use Rattle.bal_tree.specs.declared.stmt.Target.TheVariants as target
use Rattle.bal_tree.specs.declared.stmt.Target.{Target}
use Rattle.check_laws.specs.Laws.{KeepsPositions, KeptPositions}
use Rattle.check_laws.specs.StmtLaws.{HasBlock, HasUnit, IsOneBlockMore, IsOneStmtMore, KeptStmtPositions}
use Rattle.check_words.specs.State.{State}
use Rattle.descriptors.specs.declared.names.Names.{Names}
use Rattle.expr_needs.specs.ActionTable.{read_rhs}
use Rattle.expr_needs.specs.ExprTable.{Reading, read_expr, read_postfix}
use Rattle.expr_needs.specs.Needs.{Need}
use Rattle.operations.specs.Rows.{Surroundings}
use Rattle.stmt_needs.specs.StmtTable.{StmtReading, Within, assignment_needs, foreach_needs, otherwise_needs, read_block, read_clause, read_else, read_if_stmt, read_stmt, set_needs, stmt_reading, update_needs}
use Rattle.type_model.specs.Calls.{Asked}
use Rattle.type_model.specs.declared.answers.TypeLimit.{TypeLimit}
use Rattle.type_model.specs.declared.atoms.AtomDef.{AtomDef}
use Rattle.kept_flows.proofs.Alone.{alone, of-none, stmt-within}
use Rattle.kept_flows.specs.Flows.{AllBlocksSeeTheSame, AllValuesKeepFlows}
use Rattle.typed_blocks.proofs.Listed.{first-of, only-one, second-of}
use Rattle.typed_blocks.proofs.Values.{Below, Can, expr-known, postfix-known, rhs-known}
use Rattle.typed_blocks.specs.Actions.{actions_in_block, actions_in_clause, actions_in_else, actions_in_if, actions_in_stmt, listing_actions}
use Rattle.typed_blocks.specs.Trees.{AllTreesAreKnown, AreAmong, TreesAreKnown}
use Rattle.typed_bodies.specs.Claims.{AllClausesKnown, AllKnown, BlockClaim, KnowsBlock, KnowsClauses, KnowsStmt, KnowsValue, StmtClaim}
use Rattle.typed_exprs.specs.Lines.{Run}
use Rattle.typed_needs.specs.Going.{GoesOn}
use Rattle.typed_needs.specs.TypedRuns.{AllRunsAreTyped}
use Rattle.typed_needs.specs.WholeRuns.{RunGoesOn, RunsGoOn}
use Rattle.typed_tree.specs.Listed.{Listed, joined, nothing, one}
use Rattle.typed_trees.proofs.Leaving.{only-met}
use Rattle.typed_trees.proofs.Runs.{booleans, truth}
use Rattle.typed_bodies.specs.Lines.{AllLinesAreTyped}
use Rattle.std.specs.Prelude.{Contains}

module _ (passes : List AtomDef → Asked → TypeLimit → Type 0) (names : Names) (env : List AtomDef) (place : Surroundings) (actions : List Rhs) (l : Below passes names env place actions) where
  abbrev May : State → Type 0
  May = Can passes names env place actions l

  abbrev Among : Listed Rhs → Type 0
  Among = AreAmong passes names env place actions

  abbrev Known : Reading → Type 0
  Known = KnowsValue passes names env place May

  abbrev Line : (Within → Listed Need) → Type 0
  Line = StmtClaim passes names env place May

  abbrev KnownStmt : (Within → Listed Need) → Type 0
  KnownStmt = KnowsStmt passes names env place May

  abbrev KnownBlock : (Within → Listed Need) → Type 0
  KnownBlock = KnowsBlock passes names env place May

  abbrev KnownClauses : (Within → Listed Need) → Type 0
  KnownClauses = KnowsClauses passes names env place May

  abbrev Runs : Listed Need → State → State → Type 0
  Runs = Run passes names env

  -- ---- the claims

  abbrev ClaimElse : Else → Type 0
  ClaimElse e = Among (actions_in_else e) → KnownBlock (read_else e).needs

  abbrev AnElse : Type 0
  AnElse = (e : Else) × ClaimElse e

  abbrev ClaimStmt : Stmt → Type 0
  ClaimStmt e = Among (actions_in_stmt e) → KnownStmt (read_stmt e).needs

  abbrev AStmt : Type 0
  AStmt = (e : Stmt) × ClaimStmt e

  abbrev ClaimBlock : Block → Type 0
  ClaimBlock e = Among (actions_in_block e) → KnownBlock (read_block e).needs

  abbrev ABlock : Type 0
  ABlock = (e : Block) × ClaimBlock e

  abbrev ClaimClause : Clause → Type 0
  ClaimClause e = Among (actions_in_clause e) → KnownClauses (read_clause e).needs

  abbrev AClause : Type 0
  AClause = (e : Clause) × ClaimClause e

  abbrev ClaimIfStmt : IfStmt → Type 0
  ClaimIfStmt e = Among (actions_in_if e) → KnownStmt (read_if_stmt e).needs

  abbrev AnIfStmt : Type 0
  AnIfStmt = (e : IfStmt) × ClaimIfStmt e

  -- ---- one layer of a tree, of whose parts it is known

  abbrev firsts_of_else : Else-F AnElse AStmt ABlock AClause AnIfStmt → Else-F Else Stmt Block Clause IfStmt
  firsts_of_else = map-Else AnElse AStmt ABlock AClause AnIfStmt Else Stmt Block Clause IfStmt (λ e. e.0) (λ e. e.0) (λ e. e.0) (λ e. e.0) (λ e. e.0)

  abbrev parts_of_else : Else-F Else Stmt Block Clause IfStmt → ElseOf StmtReading
  parts_of_else = map-Else Else Stmt Block Clause IfStmt StmtReading StmtReading StmtReading StmtReading StmtReading read_else read_stmt read_block read_clause read_if_stmt

  rolled-else : (x : Else-F Else Stmt Block Clause IfStmt) → read_else (roll-Else x) ≡ stmt_reading.else (parts_of_else x)
  rolled-else x = fold-roll-Else StmtReading StmtReading StmtReading StmtReading StmtReading stmt_reading.else stmt_reading.stmt stmt_reading.block stmt_reading.clause stmt_reading.if_stmt x

  abbrev actions_of_else : Else-F Else Stmt Block Clause IfStmt → ElseOf (Listed Rhs)
  actions_of_else = map-Else Else Stmt Block Clause IfStmt (Listed Rhs) (Listed Rhs) (Listed Rhs) (Listed Rhs) (Listed Rhs) actions_in_else actions_in_stmt actions_in_block actions_in_clause actions_in_if

  listed-else : (x : Else-F Else Stmt Block Clause IfStmt) → actions_in_else (roll-Else x) ≡ listing_actions.else (actions_of_else x)
  listed-else x = fold-roll-Else (Listed Rhs) (Listed Rhs) (Listed Rhs) (Listed Rhs) (Listed Rhs) listing_actions.else listing_actions.stmt listing_actions.block listing_actions.clause listing_actions.if_stmt x

  abbrev firsts_of_stmt : Stmt-F AnElse AStmt ABlock AClause AnIfStmt → Stmt-F Else Stmt Block Clause IfStmt
  firsts_of_stmt = map-Stmt AnElse AStmt ABlock AClause AnIfStmt Else Stmt Block Clause IfStmt (λ e. e.0) (λ e. e.0) (λ e. e.0) (λ e. e.0) (λ e. e.0)

  abbrev parts_of_stmt : Stmt-F Else Stmt Block Clause IfStmt → StmtOf StmtReading
  parts_of_stmt = map-Stmt Else Stmt Block Clause IfStmt StmtReading StmtReading StmtReading StmtReading StmtReading read_else read_stmt read_block read_clause read_if_stmt

  rolled-stmt : (x : Stmt-F Else Stmt Block Clause IfStmt) → read_stmt (roll-Stmt x) ≡ stmt_reading.stmt (parts_of_stmt x)
  rolled-stmt x = fold-roll-Stmt StmtReading StmtReading StmtReading StmtReading StmtReading stmt_reading.else stmt_reading.stmt stmt_reading.block stmt_reading.clause stmt_reading.if_stmt x

  abbrev actions_of_stmt : Stmt-F Else Stmt Block Clause IfStmt → StmtOf (Listed Rhs)
  actions_of_stmt = map-Stmt Else Stmt Block Clause IfStmt (Listed Rhs) (Listed Rhs) (Listed Rhs) (Listed Rhs) (Listed Rhs) actions_in_else actions_in_stmt actions_in_block actions_in_clause actions_in_if

  listed-stmt : (x : Stmt-F Else Stmt Block Clause IfStmt) → actions_in_stmt (roll-Stmt x) ≡ listing_actions.stmt (actions_of_stmt x)
  listed-stmt x = fold-roll-Stmt (Listed Rhs) (Listed Rhs) (Listed Rhs) (Listed Rhs) (Listed Rhs) listing_actions.else listing_actions.stmt listing_actions.block listing_actions.clause listing_actions.if_stmt x

  abbrev firsts_of_block : Block-F AnElse AStmt ABlock AClause AnIfStmt → Block-F Else Stmt Block Clause IfStmt
  firsts_of_block = map-Block AnElse AStmt ABlock AClause AnIfStmt Else Stmt Block Clause IfStmt (λ e. e.0) (λ e. e.0) (λ e. e.0) (λ e. e.0) (λ e. e.0)

  abbrev parts_of_block : Block-F Else Stmt Block Clause IfStmt → BlockOf StmtReading
  parts_of_block = map-Block Else Stmt Block Clause IfStmt StmtReading StmtReading StmtReading StmtReading StmtReading read_else read_stmt read_block read_clause read_if_stmt

  rolled-block : (x : Block-F Else Stmt Block Clause IfStmt) → read_block (roll-Block x) ≡ stmt_reading.block (parts_of_block x)
  rolled-block x = fold-roll-Block StmtReading StmtReading StmtReading StmtReading StmtReading stmt_reading.else stmt_reading.stmt stmt_reading.block stmt_reading.clause stmt_reading.if_stmt x

  abbrev actions_of_block : Block-F Else Stmt Block Clause IfStmt → BlockOf (Listed Rhs)
  actions_of_block = map-Block Else Stmt Block Clause IfStmt (Listed Rhs) (Listed Rhs) (Listed Rhs) (Listed Rhs) (Listed Rhs) actions_in_else actions_in_stmt actions_in_block actions_in_clause actions_in_if

  listed-block : (x : Block-F Else Stmt Block Clause IfStmt) → actions_in_block (roll-Block x) ≡ listing_actions.block (actions_of_block x)
  listed-block x = fold-roll-Block (Listed Rhs) (Listed Rhs) (Listed Rhs) (Listed Rhs) (Listed Rhs) listing_actions.else listing_actions.stmt listing_actions.block listing_actions.clause listing_actions.if_stmt x

  abbrev firsts_of_clause : Clause-F AnElse AStmt ABlock AClause AnIfStmt → Clause-F Else Stmt Block Clause IfStmt
  firsts_of_clause = map-Clause AnElse AStmt ABlock AClause AnIfStmt Else Stmt Block Clause IfStmt (λ e. e.0) (λ e. e.0) (λ e. e.0) (λ e. e.0) (λ e. e.0)

  abbrev parts_of_clause : Clause-F Else Stmt Block Clause IfStmt → ClauseOf StmtReading
  parts_of_clause = map-Clause Else Stmt Block Clause IfStmt StmtReading StmtReading StmtReading StmtReading StmtReading read_else read_stmt read_block read_clause read_if_stmt

  rolled-clause : (x : Clause-F Else Stmt Block Clause IfStmt) → read_clause (roll-Clause x) ≡ stmt_reading.clause (parts_of_clause x)
  rolled-clause x = fold-roll-Clause StmtReading StmtReading StmtReading StmtReading StmtReading stmt_reading.else stmt_reading.stmt stmt_reading.block stmt_reading.clause stmt_reading.if_stmt x

  abbrev actions_of_clause : Clause-F Else Stmt Block Clause IfStmt → ClauseOf (Listed Rhs)
  actions_of_clause = map-Clause Else Stmt Block Clause IfStmt (Listed Rhs) (Listed Rhs) (Listed Rhs) (Listed Rhs) (Listed Rhs) actions_in_else actions_in_stmt actions_in_block actions_in_clause actions_in_if

  listed-clause : (x : Clause-F Else Stmt Block Clause IfStmt) → actions_in_clause (roll-Clause x) ≡ listing_actions.clause (actions_of_clause x)
  listed-clause x = fold-roll-Clause (Listed Rhs) (Listed Rhs) (Listed Rhs) (Listed Rhs) (Listed Rhs) listing_actions.else listing_actions.stmt listing_actions.block listing_actions.clause listing_actions.if_stmt x

  abbrev firsts_of_if_stmt : IfStmt-F AnElse AStmt ABlock AClause AnIfStmt → IfStmt-F Else Stmt Block Clause IfStmt
  firsts_of_if_stmt = map-IfStmt AnElse AStmt ABlock AClause AnIfStmt Else Stmt Block Clause IfStmt (λ e. e.0) (λ e. e.0) (λ e. e.0) (λ e. e.0) (λ e. e.0)

  abbrev parts_of_if_stmt : IfStmt-F Else Stmt Block Clause IfStmt → IfStmtOf StmtReading
  parts_of_if_stmt = map-IfStmt Else Stmt Block Clause IfStmt StmtReading StmtReading StmtReading StmtReading StmtReading read_else read_stmt read_block read_clause read_if_stmt

  rolled-if_stmt : (x : IfStmt-F Else Stmt Block Clause IfStmt) → read_if_stmt (roll-IfStmt x) ≡ stmt_reading.if_stmt (parts_of_if_stmt x)
  rolled-if_stmt x = fold-roll-IfStmt StmtReading StmtReading StmtReading StmtReading StmtReading stmt_reading.else stmt_reading.stmt stmt_reading.block stmt_reading.clause stmt_reading.if_stmt x

  abbrev actions_of_if_stmt : IfStmt-F Else Stmt Block Clause IfStmt → IfStmtOf (Listed Rhs)
  actions_of_if_stmt = map-IfStmt Else Stmt Block Clause IfStmt (Listed Rhs) (Listed Rhs) (Listed Rhs) (Listed Rhs) (Listed Rhs) actions_in_else actions_in_stmt actions_in_block actions_in_clause actions_in_if

  listed-if_stmt : (x : IfStmt-F Else Stmt Block Clause IfStmt) → actions_in_if (roll-IfStmt x) ≡ listing_actions.if_stmt (actions_of_if_stmt x)
  listed-if_stmt x = fold-roll-IfStmt (Listed Rhs) (Listed Rhs) (Listed Rhs) (Listed Rhs) (Listed Rhs) listing_actions.else listing_actions.stmt listing_actions.block listing_actions.clause listing_actions.if_stmt x

  -- ---- lists

  stmts-known : (xs : List AStmt) → Among (joined (map actions_in_stmt (map (λ x. x.0) xs))) → AllKnown passes names env place May (map read_stmt (map (λ x. x.0) xs))
  stmts-known [] among = tt
  stmts-known (x ∷ xs) among =
      let rest : Listed Rhs = joined (map actions_in_stmt (map (λ (y : AStmt). y.0) xs)) in
      (x.1 (first-of (Contains actions) (actions_in_stmt x.0) rest among), stmts-known xs (second-of (Contains actions) (actions_in_stmt x.0) rest among))

  clauses-known : (xs : List AClause) → Among (joined (map actions_in_clause (map (λ x. x.0) xs))) → AllClausesKnown passes names env place May (map read_clause (map (λ x. x.0) xs))
  clauses-known [] among = tt
  clauses-known (x ∷ xs) among =
      let rest : Listed Rhs = joined (map actions_in_clause (map (λ (y : AClause). y.0) xs)) in
      (x.1 (first-of (Contains actions) (actions_in_clause x.0) rest among), clauses-known xs (second-of (Contains actions) (actions_in_clause x.0) rest among))

  -- ---- assignments

  of-expr : (x : Expr) → Known (read_expr x)
  of-expr x = expr-known passes names env place actions l x

  of-postfix : (x : Postfix) → Known (read_postfix x)
  of-postfix x = postfix-known passes names env place actions l x

  of-rhs : (x : Rhs) → Among (one x) → Known (read_rhs x)
  of-rhs x among = rhs-known passes names env place actions l x (only-one (Contains actions) x among)

  set : (t : Target) (r : Reading) (at : Place) → Known r → Line (λ w. set_needs t r at)
  set (target.Name q) r at k = (l.lines.names_assigned l.takes).assigned q r at k
  set (target.Index a i there) r at k = l.lines.plain.item_stored (read_postfix a.value) (read_expr i.value) r there at (of-postfix a.value) (of-expr i.value) k
  set (target.Field a field there) r at k = l.lines.plain.field_stored (read_postfix a.value) r field there at (of-postfix a.value) k

  updated : (t : Target) (o : AssignOp) (r : Reading) (at : Place) → Known r → Line (λ w. update_needs t o r at)
  updated (target.Name q) o r at k = (l.lines.names_assigned l.takes).updated l.named l.truth l.booleans q o r at k
  updated (target.Index a i there) o r at k = (l.lines.updates l.truth l.booleans).items (read_postfix a.value) (read_expr i.value) r o there at (of-postfix a.value) (of-expr i.value) k
  updated (target.Field a field there) o r at k = (l.lines.updates l.truth l.booleans).fields (read_postfix a.value) r field o there at (of-postfix a.value) k

  assigned : (o : AssignOp) (t : Target) (r : Reading) (at : Place) → Known r → Line (λ w. assignment_needs o t r at)
  assigned assign.Set t r at k = set t r at k
  assigned assign.Add t r at k = updated t assign.Add r at k
  assigned assign.Subtract t r at k = updated t assign.Subtract r at k
  assigned assign.Multiply t r at k = updated t assign.Multiply r at k
  assigned assign.Divide t r at k = updated t assign.Divide r at k

  -- ---- layers

  looped : (t : LocalType) (name : Word) (from : Expr) (range : Option Range) (body : StmtReading) (at : Place) → KnownBlock body.needs
      → Line (λ w. foreach_needs t name (read_expr from) range body at)
  looped t name from None body at k = (l.lines.loops l.truth l.booleans).walked t name (read_expr from) body at (of-expr from) k
  looped t name from (Some range) body at k =
      (l.lines.loops l.truth l.booleans).counted t name (read_expr from) range body at (of-expr from) (of-expr range.end.value) k

  stmt-layer : (y : Stmt-F AnElse AStmt ABlock AClause AnIfStmt) → Among (listing_actions.stmt (actions_of_stmt (firsts_of_stmt y)))
      → Line (stmt_reading.stmt (parts_of_stmt (firsts_of_stmt y))).needs
  stmt-layer (layer.Local final t name value at) among = l.lines.plain.declared final t name (read_rhs value) at (of-rhs value among)
  stmt-layer (layer.Assign what o value at) among = assigned o what (read_rhs value) at (of-rhs value among)
  stmt-layer (layer.Ignore value at) among = l.lines.plain.ignored (read_rhs value) at (of-rhs value among)
  stmt-layer (layer.Rhs value at) among = l.lines.plain.evaluated (read_rhs value) at (of-rhs value among)
  stmt-layer (layer.«Stmt::If» s) among = (s.1 among).claim
  stmt-layer (layer.While c body at) among = l.lines.blocks.repeated (read_expr c.value) (read_block body.0) at (of-expr c.value) (body.1 among)
  stmt-layer (layer.Foreach t name from range body at) among = looped t name from.value range (read_block body.0) at (body.1 among)
  stmt-layer (layer.Match value clauses at) among =
      (l.lines.matches l.truth l.booleans).matched (read_expr value.value) (map read_clause (map (λ (x : AClause). x.0) clauses.items)) at (of-expr value.value) (clauses-known clauses.items among)
  stmt-layer (layer.Return None at) among = l.lines.plain.nil_returned at
  stmt-layer (layer.Return (Some value) at) among = l.lines.plain.returned (read_rhs value) at (of-rhs value among)
  stmt-layer (layer.Panic value at) among = l.lines.plain.panicked (read_expr value.value) at (of-expr value.value)
  stmt-layer (layer.Break at) among = l.lines.plain.broken at
  stmt-layer (layer.Continue at) among = l.lines.plain.continued at
  stmt-layer (layer.«Stmt::Block» b) among = l.lines.blocks.blocked (read_block b.0).needs (read_block b.0).at (b.1 among)

  block-layer : (y : Block-F AnElse AStmt ABlock AClause AnIfStmt) → Among (listing_actions.block (actions_of_block (firsts_of_block y)))
      → BlockClaim passes names env place May (stmt_reading.block (parts_of_block (firsts_of_block y))).needs
  block-layer y among = l.lines.blocks.block (map read_stmt (map (λ (x : AStmt). x.0) y.stmts.items)) (stmts-known y.stmts.items among)

  clause-layer : (y : Clause-F AnElse AStmt ABlock AClause AnIfStmt) → Among (listing_actions.clause (actions_of_clause (firsts_of_clause y)))
      → KnownClauses (stmt_reading.clause (parts_of_clause (firsts_of_clause y))).needs
  clause-layer y among = (l.lines.matches l.truth l.booleans).clause y.patterns.items (read_block y.body.0) y.at (y.body.1 among)

  none-known : KnownBlock (otherwise_needs None)
  none-known =
      record {
        claim = l.lines.blocks.no_else;
        more = λ w old new unit run. (of-none passes names env old new unit run).more;
        goes = λ w old new unit run. (of-none passes names env old new unit run).goes;
        sees = λ w old new unit run. l.blocks.none old new unit run;
      }

  if_stmt-layer : (y : IfStmt-F AnElse AStmt ABlock AClause AnIfStmt) → Among (listing_actions.if_stmt (actions_of_if_stmt (firsts_of_if_stmt y)))
      → Line (stmt_reading.if_stmt (parts_of_if_stmt (firsts_of_if_stmt y))).needs
  if_stmt-layer y among = by y y.otherwise among
    where
      by : (z : IfStmt-F AnElse AStmt ABlock AClause AnIfStmt) (second : Option (Box AnElse))
          → Among (listing_actions.if_stmt (actions_of_if_stmt (firsts_of_if_stmt (record z { otherwise = second }))))
          → Line (stmt_reading.if_stmt (parts_of_if_stmt (firsts_of_if_stmt (record z { otherwise = second })))).needs
      by z None among =
          l.lines.blocks.branched (read_expr z.condition.value) (read_block z.then.0) None z.at (of-expr z.condition.value)
          (z.then.1 (first-of (Contains actions) (actions_in_block z.then.0) nothing among)) none-known
      by z (Some e) among =
          l.lines.blocks.branched (read_expr z.condition.value) (read_block z.then.0) (Some (record { ptr = e.ptr; alloc = e.alloc; value = read_else e.value.0 })) z.at (of-expr z.condition.value)
          (z.then.1 (first-of (Contains actions) (actions_in_block z.then.0) (actions_in_else e.value.0) among))
          (e.value.1 (second-of (Contains actions) (actions_in_block z.then.0) (actions_in_else e.value.0) among))

  -- ---- the whole

  -- what is known of a block beside the variables that are seen behind it
  record BlockParts (needs : Within → Listed Need) : Type 0 where
    pub claim : BlockClaim passes names env place May needs
    pub more : (w : Within) (old new : State) → HasUnit old → Runs (needs w) old new → IsOneBlockMore old new
    pub goes : (w : Within) (old new : State) → HasUnit old → Runs (needs w) old new → GoesOn old new

  else-layer : (y : Else-F AnElse AStmt ABlock AClause AnIfStmt) → Among (listing_actions.else (actions_of_else (firsts_of_else y)))
      → BlockParts (stmt_reading.else (parts_of_else (firsts_of_else y))).needs
  else-layer (layer.«Else::If» s) among =
      let k : KnownStmt (read_if_stmt s.0).needs = s.1 among in
      let inner = λ (w : Within) (a b : State) (block : HasBlock a) (run : Runs ((read_if_stmt s.0).needs w) a b). stmt-within a b (k.goes w a b block run) (k.more w a b block run) in
      record {
        claim = l.lines.blocks.else_if (read_if_stmt s.0).needs k;
        more = λ w old new unit run. (alone passes names env ((read_if_stmt s.0).needs w) (inner w) old new unit run).more;
        goes = λ w old new unit run. (alone passes names env ((read_if_stmt s.0).needs w) (inner w) old new unit run).goes;
      }
  else-layer (layer.«Else::Block» b) among = let k : KnownBlock (read_block b.0).needs = b.1 among in record { claim = k.claim; more = k.more; goes = k.goes }

  else-step : (x : Else-F Else Stmt Block Clause IfStmt) (y : Else-F AnElse AStmt ABlock AClause AnIfStmt) → firsts_of_else y ≡ x → ClaimElse (roll-Else x)
  else-step x y is = subst (λ z. ClaimElse (roll-Else z)) is (λ among.
      let whole : Else = roll-Else (firsts_of_else y) in
      let p : BlockParts (read_else whole).needs =
      subst (λ (r : StmtReading). BlockParts r.needs) (sym (rolled-else (firsts_of_else y))) (else-layer y (subst (λ a. Among a) (listed-else (firsts_of_else y)) among)) in
      record {
        claim = p.claim;
        more = p.more;
        goes = p.goes;
        sees = λ w old new unit run. l.blocks.else whole w old new unit run;
      })

  -- where the law of positions and that of runs are of a statement
  stmt-known : (needs : Within → Listed Need) → ((w : Within) → KeepsPositions passes names HasBlock IsOneStmtMore (needs w)) → ((w : Within) → RunGoesOn passes names HasBlock (needs w))
      → Line needs → KnownStmt needs
  stmt-known needs positions goes line =
      record {
        claim = line;
        more = λ w old new block run. (positions w).comes old new block (only-met passes names env (needs w) old new run);
        goes = λ w old new block run. goes w old new block (only-met passes names env (needs w) old new run);
      }

  stmt-step : (x : Stmt-F Else Stmt Block Clause IfStmt) (y : Stmt-F AnElse AStmt ABlock AClause AnIfStmt) → firsts_of_stmt y ≡ x → ClaimStmt (roll-Stmt x)
  stmt-step x y is = subst (λ z. ClaimStmt (roll-Stmt z)) is (λ among.
      let whole : Stmt = roll-Stmt (firsts_of_stmt y) in
      stmt-known (read_stmt whole).needs (λ w. l.stmts.stmt whole w) (λ w. l.goes.stmt whole w)
      (subst (λ (r : StmtReading). Line r.needs) (sym (rolled-stmt (firsts_of_stmt y))) (stmt-layer y (subst (λ a. Among a) (listed-stmt (firsts_of_stmt y)) among))))

  block-step : (x : Block-F Else Stmt Block Clause IfStmt) (y : Block-F AnElse AStmt ABlock AClause AnIfStmt) → firsts_of_block y ≡ x → ClaimBlock (roll-Block x)
  block-step x y is = subst (λ z. ClaimBlock (roll-Block z)) is (λ among.
      let whole : Block = roll-Block (firsts_of_block y) in
      record {
        claim = subst (λ (r : StmtReading). BlockClaim passes names env place May r.needs) (sym (rolled-block (firsts_of_block y)))
            (block-layer y (subst (λ a. Among a) (listed-block (firsts_of_block y)) among));
        more = λ w old new unit run. (l.stmts.block whole w).comes old new unit (only-met passes names env ((read_block whole).needs w) old new run);
        goes = λ w old new unit run. l.goes.block whole w old new unit (only-met passes names env ((read_block whole).needs w) old new run);
        sees = λ w old new unit run. l.blocks.block whole w old new unit run;
      })

  clause-step : (x : Clause-F Else Stmt Block Clause IfStmt) (y : Clause-F AnElse AStmt ABlock AClause AnIfStmt) → firsts_of_clause y ≡ x → ClaimClause (roll-Clause x)
  clause-step x y is = subst (λ z. ClaimClause (roll-Clause z)) is (λ among.
      subst (λ (r : StmtReading). KnownClauses r.needs) (sym (rolled-clause (firsts_of_clause y))) (clause-layer y (subst (λ a. Among a) (listed-clause (firsts_of_clause y)) among)))

  -- an `if` is a statement
  if_stmt-step : (x : IfStmt-F Else Stmt Block Clause IfStmt) (y : IfStmt-F AnElse AStmt ABlock AClause AnIfStmt) → firsts_of_if_stmt y ≡ x → ClaimIfStmt (roll-IfStmt x)
  if_stmt-step x y is = subst (λ z. ClaimIfStmt (roll-IfStmt z)) is (λ among.
      let inner : IfStmt = roll-IfStmt (firsts_of_if_stmt y) in
      let whole : Stmt = roll-Stmt (layer.«Stmt::If» inner) in
      let same : read_stmt whole ≡ read_if_stmt inner = rolled-stmt (layer.«Stmt::If» inner) in
      stmt-known (read_if_stmt inner).needs
      (λ w. subst (λ (r : StmtReading). KeepsPositions passes names HasBlock IsOneStmtMore (r.needs w)) same (l.stmts.stmt whole w))
      (λ w. subst (λ (r : StmtReading). RunGoesOn passes names HasBlock (r.needs w)) same (l.goes.stmt whole w))
      (subst (λ (r : StmtReading). Line r.needs) (sym (rolled-if_stmt (firsts_of_if_stmt y))) (if_stmt-layer y (subst (λ a. Among a) (listed-if_stmt (firsts_of_if_stmt y)) among))))

  pub trees-known : TreesAreKnown passes names env place actions
  trees-known =
      record {
        expr = of-expr;
        stmt = ind-Stmt ClaimElse ClaimStmt ClaimBlock ClaimClause ClaimIfStmt else-step stmt-step block-step clause-step if_stmt-step;
        block = ind-Block ClaimElse ClaimStmt ClaimBlock ClaimClause ClaimIfStmt else-step stmt-step block-step clause-step if_stmt-step;
        clause = ind-Clause ClaimElse ClaimStmt ClaimBlock ClaimClause ClaimIfStmt else-step stmt-step block-step clause-step if_stmt-step;
      }

pub all-trees-are-known : (passes : List AtomDef → Asked → TypeLimit → Type 0) → KeptPositions passes → KeptStmtPositions passes → RunsGoOn passes → AllRunsAreTyped passes
    → AllLinesAreTyped passes → AllValuesKeepFlows passes → AllBlocksSeeTheSame passes → AllTreesAreKnown passes
all-trees-are-known passes positions stmts goes runs lines values blocks names env place actions named takes =
    trees-known passes names env place actions
    (record {
      runs = runs names env;
      positions = positions names;
      stmts = stmts names;
      goes = goes names;
      values = values names;
      blocks = blocks names;
      lines = lines names env place actions;
      named = named;
      takes = takes;
      truth = truth;
      booleans = booleans env;
    })
