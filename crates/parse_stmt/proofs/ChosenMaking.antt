-- What is chosen in parts that were read is chosen in the trees that are put together from them.
use Rattle.std.proofs.Common.{◌≡◌, zero, suc, Bool, List, [], ◌∷◌, ◌++◌, map, All, Option, None, Some, refl, sym, ap, ◌∙◌, subst, arith}
use Rattle.std.specs.Global.{Box, Vec}
use Rattle.std.proofs.lemmas.List.Elements.{All-append}
use Rattle.bal_base.specs.declared.place.Place.{Place}
use Rattle.bal_tree.specs.declared.action.Rhs.{Rhs}
use Rattle.bal_tree.specs.declared.expr.Expr.{Expr}
use Rattle.bal_tree.specs.declared.name.Word.{Word}
use Rattle.bal_tree.specs.declared.stmt.AssignOp.{AssignOp}
use Rattle.bal_tree.specs.declared.stmt.Block.{Block, out-Block, roll-out-Block}
use Rattle.bal_tree.specs.declared.stmt.Clause.{Clause, out-Clause, roll-out-Clause}
use Rattle.bal_tree.specs.declared.stmt.Else.TheOpen as layer
use Rattle.bal_tree.specs.declared.stmt.Else.{Else}
use Rattle.bal_tree.specs.declared.stmt.Else.TheVariants.{If as ElseIf, rolls-If as rolls-ElseIf, Block as ElseBlock, rolls-Block as rolls-ElseBlock}
use Rattle.bal_tree.specs.declared.stmt.IfStmt.{IfStmt, IfStmt-F, out-IfStmt, roll-out-IfStmt}
use Rattle.bal_tree.specs.declared.stmt.LocalType.{LocalType}
use Rattle.bal_tree.specs.declared.stmt.Range.{Range}
use Rattle.bal_tree.specs.declared.stmt.Stmt.{Stmt, Stmt-F, roll-Stmt}
use Rattle.bal_tree.specs.declared.stmt.Stmt.TheVariants.{Local, rolls-Local, Assign, rolls-Assign, Ignore, rolls-Ignore, Rhs as RhsStmt, rolls-Rhs, If, rolls-If, While, rolls-While, Foreach, rolls-Foreach, Match, rolls-Match, Return, rolls-Return, Panic, rolls-Panic, Break, rolls-Break, Continue, rolls-Continue, Block as BlockStmt, rolls-Block}
use Rattle.bal_tree.specs.declared.stmt.Target.{Target}
use Rattle.bal_tree.specs.Pieces.{Pieces}
use Rattle.bal_tree.specs.StmtPieces.{writing}
use Rattle.parse_stmt.specs.Chosen.{AreChosen, IsBlockFirst, led_in_block, led_in_clause, led_in_clauses, led_in_else, led_in_else_if, led_in_if, led_in_stmt, led_in_stmts, listing, together}
use Rattle.parse_stmt.specs.Starts.{IsChosenWithin}
use Rattle.parse_stmt.proofs.StmtRolls.{parts_of_stmt, parts_of_if_stmt, rolled-block, rolled-clause, rolled-else, rolled-if_stmt, rolled-stmt}
use Rattle.parse_stmt.proofs.StmtTree.{chosen-back, chosen-front}

-- ---- lists

pub none-chosen : AreChosen []
none-chosen = λ i d lt. absurd (omega arith)

pub both-chosen : (xs ys : List Pieces) → AreChosen xs → AreChosen ys → AreChosen (xs ++ ys)
both-chosen xs ys h k = All-append (λ p. IsBlockFirst p → ⊥) xs ys h k

-- one member more
pub more-chosen : {X : Type 0} (f : X → List Pieces) (xs : List X) (x : X) → AreChosen (together (map f xs)) → AreChosen (f x) → AreChosen (together (map f (xs ++ x ∷ [])))
more-chosen f [] x c h = both-chosen (f x) [] h none-chosen
more-chosen f (y ∷ ys) x c h =
    both-chosen (f y) (together (map f (ys ++ x ∷ []))) (chosen-front (f y) (together (map f ys)) c)
    (more-chosen f ys x (chosen-back (f y) (together (map f ys)) c) h)

-- ---- statements, by their layers

abbrev Within : Pieces → List Pieces → Type 0
Within p listed = All (λ q. IsBlockFirst q → q ≡ p) listed

no-more : (p : Pieces) → Within p []
no-more p = λ i d lt. absurd (omega arith)

itself : (p : Pieces) → Within p (p ∷ [])
itself p zero d lt = λ b. refl
itself p (suc i) d lt = absurd (omega arith)

pub parts-chosen : (p : Pieces) (listed : List Pieces) → AreChosen listed → Within p listed
parts-chosen p listed h = λ i d lt b. absurd (h i d lt b)

-- where the statement itself is chosen, all is
pub whole-chosen : (p : Pieces) (listed : List Pieces) → Within p listed → (IsBlockFirst p → ⊥) → AreChosen listed
whole-chosen p listed h none = λ i d lt b. none (subst IsBlockFirst (h i d lt b) b)

within-rolled : (x : Stmt-F Else Stmt Block Clause IfStmt) → Within (writing.stmt (parts_of_stmt writing x)) (listing.stmt (parts_of_stmt listing x)) → IsChosenWithin (roll-Stmt x)
within-rolled x h =
    subst (λ p. Within p (led_in_stmt (roll-Stmt x))) (sym (rolled-stmt writing x))
    (subst (λ listed. Within (writing.stmt (parts_of_stmt writing x)) listed) (sym (rolled-stmt listing x)) h)

pub local-chosen : (is_final : Bool) (t : LocalType) (name : Word) (value : Rhs) (at : Place) → IsChosenWithin (Local is_final t name value at)
local-chosen is_final t name value at =
    let x = layer.Local is_final t name value at in subst IsChosenWithin (rolls-Local is_final t name value at) (within-rolled x (itself (writing.stmt (parts_of_stmt writing x))))

pub assign-chosen : (target : Target) (op : AssignOp) (value : Rhs) (at : Place) → IsChosenWithin (Assign target op value at)
assign-chosen target op value at =
    let x = layer.Assign target op value at in subst IsChosenWithin (rolls-Assign target op value at) (within-rolled x (itself (writing.stmt (parts_of_stmt writing x))))

pub rhs-chosen : (value : Rhs) (at : Place) → IsChosenWithin (RhsStmt value at)
rhs-chosen value at = let x = layer.Rhs value at in subst IsChosenWithin (rolls-Rhs value at) (within-rolled x (itself (writing.stmt (parts_of_stmt writing x))))

pub ignore-chosen : (value : Rhs) (at : Place) → IsChosenWithin (Ignore value at)
ignore-chosen value at = let x = layer.Ignore value at in subst IsChosenWithin (rolls-Ignore value at) (within-rolled x (no-more (writing.stmt (parts_of_stmt writing x))))

pub return-chosen : (value : Option Rhs) (at : Place) → IsChosenWithin (Return value at)
return-chosen value at = let x = layer.Return value at in subst IsChosenWithin (rolls-Return value at) (within-rolled x (no-more (writing.stmt (parts_of_stmt writing x))))

pub panic-chosen : (value : Box Expr) (at : Place) → IsChosenWithin (Panic value at)
panic-chosen value at = let x = layer.Panic value at in subst IsChosenWithin (rolls-Panic value at) (within-rolled x (no-more (writing.stmt (parts_of_stmt writing x))))

pub break-chosen : (at : Place) → IsChosenWithin (Break at)
break-chosen at = let x = layer.Break at in subst IsChosenWithin (rolls-Break at) (within-rolled x (no-more (writing.stmt (parts_of_stmt writing x))))

pub continue-chosen : (at : Place) → IsChosenWithin (Continue at)
continue-chosen at = let x = layer.Continue at in subst IsChosenWithin (rolls-Continue at) (within-rolled x (no-more (writing.stmt (parts_of_stmt writing x))))

pub if-stmt-chosen : (s : IfStmt) → AreChosen (led_in_if s) → IsChosenWithin (If s)
if-stmt-chosen s h =
    let x = layer.«Stmt::If» s in subst IsChosenWithin (rolls-If s) (within-rolled x (parts-chosen (writing.stmt (parts_of_stmt writing x)) (led_in_if s) h))

pub while-chosen : (condition : Box Expr) (body : Block) (at : Place) → AreChosen (led_in_block body) → IsChosenWithin (While condition body at)
while-chosen condition body at h =
    let x = layer.While condition body at in subst IsChosenWithin (rolls-While condition body at) (within-rolled x (parts-chosen (writing.stmt (parts_of_stmt writing x)) (led_in_block body) h))

pub foreach-chosen : (t : LocalType) (name : Word) (from : Box Expr) (range : Option Range) (body : Block) (at : Place) → AreChosen (led_in_block body) → IsChosenWithin (Foreach t name from range body at)
foreach-chosen t name from range body at h =
    let x = layer.Foreach t name from range body at in subst IsChosenWithin (rolls-Foreach t name from range body at) (within-rolled x (parts-chosen (writing.stmt (parts_of_stmt writing x)) (led_in_block body) h))

pub match-chosen : (value : Box Expr) (clauses : Vec Clause) (at : Place) → AreChosen (led_in_clauses clauses.items) → IsChosenWithin (Match value clauses at)
match-chosen value clauses at h =
    let x = layer.Match value clauses at in subst IsChosenWithin (rolls-Match value clauses at) (within-rolled x (parts-chosen (writing.stmt (parts_of_stmt writing x)) (led_in_clauses clauses.items) h))

pub block-stmt-chosen : (b : Block) → AreChosen (led_in_block b) → IsChosenWithin (BlockStmt b)
block-stmt-chosen b h =
    let x = layer.«Stmt::Block» b in subst IsChosenWithin (rolls-Block b) (within-rolled x (parts-chosen (writing.stmt (parts_of_stmt writing x)) (led_in_block b) h))

-- ---- blocks, clauses, and what stands behind `if`

pub block-chosen : (b : Block) (stmts : Vec Stmt) → (out-Block b).stmts ≡ stmts → AreChosen (led_in_stmts stmts.items) → AreChosen (led_in_block b)
block-chosen b stmts s h =
    subst AreChosen (sym (ap led_in_block (sym (roll-out-Block b)) ∙ rolled-block listing (out-Block b))) (subst (λ (v : Vec Stmt). AreChosen (led_in_stmts v.items)) (sym s) h)

pub clause-chosen : (c : Clause) (body : Block) → (out-Clause c).body ≡ body → AreChosen (led_in_block body) → AreChosen (led_in_clause c)
clause-chosen c body s h =
    subst AreChosen (sym (ap led_in_clause (sym (roll-out-Clause c)) ∙ rolled-clause listing (out-Clause c))) (subst (λ b. AreChosen (led_in_block b)) (sym s) h)

pub else-if-chosen : (s : IfStmt) → AreChosen (led_in_if s) → AreChosen (led_in_else (ElseIf s))
else-if-chosen s h = subst (λ e. AreChosen (led_in_else e)) (rolls-ElseIf s) (subst AreChosen (sym (rolled-else listing (layer.«Else::If» s))) (both-chosen (led_in_if s) [] h none-chosen))

pub else-block-chosen : (b : Block) → AreChosen (led_in_block b) → AreChosen (led_in_else (ElseBlock b))
else-block-chosen b h = subst (λ e. AreChosen (led_in_else e)) (rolls-ElseBlock b) (subst AreChosen (sym (rolled-else listing (layer.«Else::Block» b))) (both-chosen (led_in_block b) [] h none-chosen))

if-parts-chosen : (x : IfStmt-F Else Stmt Block Clause IfStmt) → AreChosen (led_in_block x.then) → AreChosen (led_in_else_if x.otherwise) → AreChosen (listing.if_stmt (parts_of_if_stmt listing x))
if-parts-chosen x h k = by x.otherwise k
  where
    by : (o : Option (Box Else)) → AreChosen (led_in_else_if o) → AreChosen (listing.if_stmt (parts_of_if_stmt listing record { condition = x.condition; then = x.then; otherwise = o; at = x.at }))
    by None c = both-chosen (led_in_block x.then) [] h none-chosen
    by (Some e) c = both-chosen (led_in_block x.then) (led_in_else e.value ++ []) h (both-chosen (led_in_else e.value) [] c none-chosen)

pub if-chosen : (s : IfStmt) (then : Block) (otherwise : Option (Box Else)) → (out-IfStmt s).then ≡ then → (out-IfStmt s).otherwise ≡ otherwise → AreChosen (led_in_block then) → AreChosen (led_in_else_if otherwise) → AreChosen (led_in_if s)
if-chosen s then otherwise t o h k =
    subst AreChosen (sym (ap led_in_if (sym (roll-out-IfStmt s)) ∙ rolled-if_stmt listing (out-IfStmt s)))
    (if-parts-chosen (out-IfStmt s) (subst (λ b. AreChosen (led_in_block b)) (sym t) h) (subst (λ e. AreChosen (led_in_else_if e)) (sym o) k))
