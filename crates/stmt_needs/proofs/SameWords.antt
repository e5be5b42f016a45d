-- What readings tell of the variables that statements assign and of breaks is what `tree_places` says of the same trees.
use Rattle.std.proofs.Common.{◌≡◌, ◌||◌, Bool, List, [], ◌∷◌, map, Option, Some, None, false, refl, sym, ap, ◌∙◌, subst}
use Rattle.std.specs.Global.{Box}
use Rattle.std.specs.List.{list_any}
use Rattle.bal_tree.specs.declared.name.Word.{Word}
use Rattle.bal_tree.specs.declared.stmt.Else.TheOpen as layer
use Rattle.bal_tree.specs.declared.stmt.Else.{Else, Else-F, roll-Else, map-Else, fold-roll-Else}
use Rattle.bal_tree.specs.declared.stmt.Stmt.{Stmt, Stmt-F, roll-Stmt, map-Stmt, fold-roll-Stmt, ind-Stmt}
use Rattle.bal_tree.specs.declared.stmt.Block.{Block, Block-F, roll-Block, map-Block, fold-roll-Block, ind-Block}
use Rattle.bal_tree.specs.declared.stmt.Clause.{Clause, Clause-F, roll-Clause, map-Clause, fold-roll-Clause}
use Rattle.bal_tree.specs.declared.stmt.IfStmt.{IfStmt, IfStmt-F, roll-IfStmt, map-IfStmt, fold-roll-IfStmt}
use Rattle.bal_tree.specs.StmtLayers.{ElseOf, StmtOf, BlockOf, ClauseOf, IfStmtOf, StmtSteps, of_else, of_stmt, of_block, of_clause, of_if_stmt}
use Rattle.bal_tree.proofs.ExprLayers.{expr_layers}
use Rattle.bal_tree.proofs.StmtLayers.{stmt_layers}
use Rattle.tree_places.proofs.Gathering.{list_any-map}
use Rattle.tree_places.specs.Assigned.{assigned_in_block, assigned_in_clause, assigned_in_else, assigned_in_if, assigned_in_stmt, assigned_in_stmts, assigning}
use Rattle.tree_places.specs.Breaks.{block_breaks, breaking, clause_breaks, else_breaks, if_breaks, stmt_breaks, this}
use Rattle.typed_tree.specs.Listed.{Listed, nothing, ◌&◌, joined}
use Rattle.stmt_needs.specs.StmtTable.{StmtReading, assigned_in, read_block, read_clause, read_else, read_if_stmt, read_stmt, some_breaks, stmt_reading}

-- ---- a fold over a tree that is put together of its parts

module _ {A : Type 0} (s : StmtSteps A) where
  abbrev parts_of_else : Else-F Else Stmt Block Clause IfStmt → ElseOf A
  parts_of_else = map-Else Else Stmt Block Clause IfStmt A A A A A (of_else s) (of_stmt s) (of_block s) (of_clause s) (of_if_stmt s)

  abbrev parts_of_stmt : Stmt-F Else Stmt Block Clause IfStmt → StmtOf A
  parts_of_stmt = map-Stmt Else Stmt Block Clause IfStmt A A A A A (of_else s) (of_stmt s) (of_block s) (of_clause s) (of_if_stmt s)

  abbrev parts_of_block : Block-F Else Stmt Block Clause IfStmt → BlockOf A
  parts_of_block = map-Block Else Stmt Block Clause IfStmt A A A A A (of_else s) (of_stmt s) (of_block s) (of_clause s) (of_if_stmt s)

  abbrev parts_of_clause : Clause-F Else Stmt Block Clause IfStmt → ClauseOf A
  parts_of_clause = map-Clause Else Stmt Block Clause IfStmt A A A A A (of_else s) (of_stmt s) (of_block s) (of_clause s) (of_if_stmt s)

  abbrev parts_of_if_stmt : IfStmt-F Else Stmt Block Clause IfStmt → IfStmtOf A
  parts_of_if_stmt = map-IfStmt Else Stmt Block Clause IfStmt A A A A A (of_else s) (of_stmt s) (of_block s) (of_clause s) (of_if_stmt s)

-- ---- what is claimed

pub record TellsSame (r : StmtReading) (assigned : Listed Word) (breaks : Bool) : Type 0 where
  pub assigned_is : r.assigned ≡ assigned
  pub breaks_is : r.breaks ≡ breaks

abbrev ClaimElse : Else → Type 0
ClaimElse t = TellsSame (read_else t) (assigned_in_else t) (else_breaks t)

abbrev ClaimStmt : Stmt → Type 0
ClaimStmt t = TellsSame (read_stmt t) (assigned_in_stmt t) (stmt_breaks t)

abbrev ClaimBlock : Block → Type 0
ClaimBlock t = TellsSame (read_block t) (assigned_in_block t) (block_breaks t)

abbrev ClaimClause : Clause → Type 0
ClaimClause t = TellsSame (read_clause t) (assigned_in_clause t) (clause_breaks t)

abbrev ClaimIf : IfStmt → Type 0
ClaimIf t = TellsSame (read_if_stmt t) (assigned_in_if t) (if_breaks t)

-- a tree of which it is known
abbrev AnElse : Type 0
AnElse = (t : Else) × ClaimElse t

abbrev AStmt : Type 0
AStmt = (t : Stmt) × ClaimStmt t

abbrev ABlock : Type 0
ABlock = (t : Block) × ClaimBlock t

abbrev AClause : Type 0
AClause = (t : Clause) × ClaimClause t

abbrev AnIf : Type 0
AnIf = (t : IfStmt) × ClaimIf t

-- ---- lists of trees of which it is known

lists-same : {X : Type 0} (read : X → StmtReading) (assigned : X → Listed Word) (breaks : X → Bool)
    (xs : List ((x : X) × TellsSame (read x) (assigned x) (breaks x)))
    → (assigned_in (map read (map (λ e. e.0) xs)) ≡ joined (map assigned (map (λ e. e.0) xs)))
    × (some_breaks (map read (map (λ e. e.0) xs)) ≡ list_any this (map breaks (map (λ e. e.0) xs)))
lists-same read assigned breaks [] = (refl, refl)
lists-same read assigned breaks (x ∷ xs) =
    let more = lists-same read assigned breaks xs in (
      ap (λ p. p & assigned_in (map read (map (λ e. e.0) xs))) x.1.assigned_is ∙ ap (λ q. assigned x.0 & q) more.0,
      ap (λ b. b || some_breaks (map read (map (λ e. e.0) xs))) x.1.breaks_is ∙ ap (λ b. breaks x.0 || b) more.1,
    )

-- ---- a layer, of whose parts it is known

abbrev firsts_of_else : Else-F AnElse AStmt ABlock AClause AnIf → Else-F Else Stmt Block Clause IfStmt
firsts_of_else = map-Else AnElse AStmt ABlock AClause AnIf Else Stmt Block Clause IfStmt (λ e. e.0) (λ e. e.0) (λ e. e.0) (λ e. e.0) (λ e. e.0)

abbrev firsts_of_stmt : Stmt-F AnElse AStmt ABlock AClause AnIf → Stmt-F Else Stmt Block Clause IfStmt
firsts_of_stmt = map-Stmt AnElse AStmt ABlock AClause AnIf Else Stmt Block Clause IfStmt (λ e. e.0) (λ e. e.0) (λ e. e.0) (λ e. e.0) (λ e. e.0)

abbrev firsts_of_block : Block-F AnElse AStmt ABlock AClause AnIf → Block-F Else Stmt Block Clause IfStmt
firsts_of_block = map-Block AnElse AStmt ABlock AClause AnIf Else Stmt Block Clause IfStmt (λ e. e.0) (λ e. e.0) (λ e. e.0) (λ e. e.0) (λ e. e.0)

abbrev firsts_of_clause : Clause-F AnElse AStmt ABlock AClause AnIf → Clause-F Else Stmt Block Clause IfStmt
firsts_of_clause = map-Clause AnElse AStmt ABlock AClause AnIf Else Stmt Block Clause IfStmt (λ e. e.0) (λ e. e.0) (λ e. e.0) (λ e. e.0) (λ e. e.0)

abbrev firsts_of_if_stmt : IfStmt-F AnElse AStmt ABlock AClause AnIf → IfStmt-F Else Stmt Block Clause IfStmt
firsts_of_if_stmt = map-IfStmt AnElse AStmt ABlock AClause AnIf Else Stmt Block Clause IfStmt (λ e. e.0) (λ e. e.0) (λ e. e.0) (λ e. e.0) (λ e. e.0)

abbrev SameElse : Else-F Else Stmt Block Clause IfStmt → Type 0
SameElse x = TellsSame (stmt_reading.else (parts_of_else stmt_reading x)) (assigning.else (parts_of_else assigning x)) (breaking.else (parts_of_else breaking x))

abbrev SameStmt : Stmt-F Else Stmt Block Clause IfStmt → Type 0
SameStmt x = TellsSame (stmt_reading.stmt (parts_of_stmt stmt_reading x)) (assigning.stmt (parts_of_stmt assigning x)) (breaking.stmt (parts_of_stmt breaking x))

abbrev SameBlock : Block-F Else Stmt Block Clause IfStmt → Type 0
SameBlock x = TellsSame (stmt_reading.block (parts_of_block stmt_reading x)) (assigning.block (parts_of_block assigning x)) (breaking.block (parts_of_block breaking x))

abbrev SameClause : Clause-F Else Stmt Block Clause IfStmt → Type 0
SameClause x =
    TellsSame (stmt_reading.clause (parts_of_clause stmt_reading x)) (assigning.clause (parts_of_clause assigning x)) (breaking.clause (parts_of_clause breaking x))

abbrev SameIf : IfStmt-F Else Stmt Block Clause IfStmt → Type 0
SameIf x =
    TellsSame (stmt_reading.if_stmt (parts_of_if_stmt stmt_reading x)) (assigning.if_stmt (parts_of_if_stmt assigning x)) (breaking.if_stmt (parts_of_if_stmt breaking x))

else-layer : (y : Else-F AnElse AStmt ABlock AClause AnIf) → SameElse (firsts_of_else y)
else-layer (layer.«Else::If» s) = record { assigned_is = s.1.assigned_is; breaks_is = s.1.breaks_is }
else-layer (layer.«Else::Block» b) = record { assigned_is = b.1.assigned_is; breaks_is = b.1.breaks_is }

stmt-layer : (y : Stmt-F AnElse AStmt ABlock AClause AnIf) → SameStmt (firsts_of_stmt y)
stmt-layer (layer.Local final t name value at) = record { assigned_is = refl; breaks_is = refl }
stmt-layer (layer.Assign what o value at) = record { assigned_is = refl; breaks_is = refl }
stmt-layer (layer.Ignore value at) = record { assigned_is = refl; breaks_is = refl }
stmt-layer (layer.Rhs value at) = record { assigned_is = refl; breaks_is = refl }
stmt-layer (layer.«Stmt::If» s) = record { assigned_is = s.1.assigned_is; breaks_is = s.1.breaks_is }
stmt-layer (layer.While c body at) = record { assigned_is = body.1.assigned_is; breaks_is = refl }
stmt-layer (layer.Foreach t name from range body at) = record { assigned_is = body.1.assigned_is; breaks_is = refl }
stmt-layer (layer.Match value clauses at) =
    let all = lists-same read_clause assigned_in_clause clause_breaks clauses.items in record { assigned_is = all.0; breaks_is = all.1 }
stmt-layer (layer.Return value at) = record { assigned_is = refl; breaks_is = refl }
stmt-layer (layer.Panic value at) = record { assigned_is = refl; breaks_is = refl }
stmt-layer (layer.Break at) = record { assigned_is = refl; breaks_is = refl }
stmt-layer (layer.Continue at) = record { assigned_is = refl; breaks_is = refl }
stmt-layer (layer.«Stmt::Block» b) = record { assigned_is = b.1.assigned_is; breaks_is = b.1.breaks_is }

block-layer : (y : Block-F AnElse AStmt ABlock AClause AnIf) → SameBlock (firsts_of_block y)
block-layer y = let all = lists-same read_stmt assigned_in_stmt stmt_breaks y.stmts.items in record { assigned_is = all.0; breaks_is = all.1 }

clause-layer : (y : Clause-F AnElse AStmt ABlock AClause AnIf) → SameClause (firsts_of_clause y)
clause-layer y = record { assigned_is = y.body.1.assigned_is; breaks_is = y.body.1.breaks_is }

if-layer : (y : IfStmt-F AnElse AStmt ABlock AClause AnIf) → SameIf (firsts_of_if_stmt y)
if-layer y = by y.otherwise
  where
    by : (o : Option (Box AnElse)) → SameIf (firsts_of_if_stmt record { condition = y.condition; then = y.then; otherwise = o; at = y.at })
    by None =
        record {
          assigned_is = ap (λ p. p & nothing) y.then.1.assigned_is;
          breaks_is = ap (λ b. b || false) y.then.1.breaks_is;
        }
    by (Some e) =
        record {
          assigned_is = ap (λ p. p & (read_else e.value.0).assigned) y.then.1.assigned_is ∙ ap (λ q. assigned_in_block y.then.0 & q) e.value.1.assigned_is;
          breaks_is = ap (λ b. b || (read_else e.value.0).breaks) y.then.1.breaks_is ∙ ap (λ b. block_breaks y.then.0 || b) e.value.1.breaks_is;
        }

-- ---- the whole

-- what is told of a tree, by other words for the same
told : (r r2 : StmtReading) (p p2 : Listed Word) (b b2 : Bool) → r ≡ r2 → p ≡ p2 → b ≡ b2 → TellsSame r2 p2 b2 → TellsSame r p b
told r r2 p p2 b b2 x y z h = record { assigned_is = ap (λ k. k.assigned) x ∙ h.assigned_is ∙ sym y; breaks_is = ap (λ k. k.breaks) x ∙ h.breaks_is ∙ sym z }

else-step : (x : Else-F Else Stmt Block Clause IfStmt) (y : Else-F AnElse AStmt ABlock AClause AnIf) → firsts_of_else y ≡ x → ClaimElse (roll-Else x)
else-step x y is =
    told _ _ _ _ _ _ (rolled stmt_reading) (rolled assigning) (rolled breaking) (subst SameElse is (else-layer y))
  where
    rolled : {A : Type 0} (s : StmtSteps A) → of_else s (roll-Else x) ≡ s.else (parts_of_else s x)
    rolled s = fold-roll-Else _ _ _ _ _ s.else s.stmt s.block s.clause s.if_stmt x

stmt-step : (x : Stmt-F Else Stmt Block Clause IfStmt) (y : Stmt-F AnElse AStmt ABlock AClause AnIf) → firsts_of_stmt y ≡ x → ClaimStmt (roll-Stmt x)
stmt-step x y is =
    told _ _ _ _ _ _ (rolled stmt_reading) (rolled assigning) (rolled breaking) (subst SameStmt is (stmt-layer y))
  where
    rolled : {A : Type 0} (s : StmtSteps A) → of_stmt s (roll-Stmt x) ≡ s.stmt (parts_of_stmt s x)
    rolled s = fold-roll-Stmt _ _ _ _ _ s.else s.stmt s.block s.clause s.if_stmt x

block-step : (x : Block-F Else Stmt Block Clause IfStmt) (y : Block-F AnElse AStmt ABlock AClause AnIf) → firsts_of_block y ≡ x → ClaimBlock (roll-Block x)
block-step x y is =
    told _ _ _ _ _ _ (rolled stmt_reading) (rolled assigning) (rolled breaking) (subst SameBlock is (block-layer y))
  where
    rolled : {A : Type 0} (s : StmtSteps A) → of_block s (roll-Block x) ≡ s.block (parts_of_block s x)
    rolled s = fold-roll-Block _ _ _ _ _ s.else s.stmt s.block s.clause s.if_stmt x

clause-step : (x : Clause-F Else Stmt Block Clause IfStmt) (y : Clause-F AnElse AStmt ABlock AClause AnIf) → firsts_of_clause y ≡ x → ClaimClause (roll-Clause x)
clause-step x y is =
    told _ _ _ _ _ _ (rolled stmt_reading) (rolled assigning) (rolled breaking) (subst SameClause is (clause-layer y))
  where
    rolled : {A : Type 0} (s : StmtSteps A) → of_clause s (roll-Clause x) ≡ s.clause (parts_of_clause s x)
    rolled s = fold-roll-Clause _ _ _ _ _ s.else s.stmt s.block s.clause s.if_stmt x

if-step : (x : IfStmt-F Else Stmt Block Clause IfStmt) (y : IfStmt-F AnElse AStmt ABlock AClause AnIf) → firsts_of_if_stmt y ≡ x → ClaimIf (roll-IfStmt x)
if-step x y is =
    told _ _ _ _ _ _ (rolled stmt_reading) (rolled assigning) (rolled breaking) (subst SameIf is (if-layer y))
  where
    rolled : {A : Type 0} (s : StmtSteps A) → of_if_stmt s (roll-IfStmt x) ≡ s.if_stmt (parts_of_if_stmt s x)
    rolled s = fold-roll-IfStmt _ _ _ _ _ s.else s.stmt s.block s.clause s.if_stmt x

pub stmt-same : (t : Stmt) → TellsSame (read_stmt t) (assigned_in_stmt t) (stmt_breaks t)
stmt-same = ind-Stmt ClaimElse ClaimStmt ClaimBlock ClaimClause ClaimIf else-step stmt-step block-step clause-step if-step

pub block-same : (t : Block) → TellsSame (read_block t) (assigned_in_block t) (block_breaks t)
block-same = ind-Block ClaimElse ClaimStmt ClaimBlock ClaimClause ClaimIf else-step stmt-step block-step clause-step if-step

-- the same as equations
pub assigned-same : (t : Block) → (read_block t).assigned ≡ assigned_in_block t
assigned-same t = (block-same t).assigned_is

pub breaks-same : (t : Block) → (read_block t).breaks ≡ block_breaks t
breaks-same t = (block-same t).breaks_is

pub stmts-assigned : (ss : List Stmt) → assigned_in (map read_stmt ss) ≡ assigned_in_stmts ss
stmts-assigned [] = refl
stmts-assigned (s ∷ ss) = ap (λ p. p & assigned_in (map read_stmt ss)) (stmt-same s).assigned_is ∙ ap (λ q. assigned_in_stmt s & q) (stmts-assigned ss)

pub ruleset telling = (breaks-same, list_any-map, expr_layers, stmt_layers)
