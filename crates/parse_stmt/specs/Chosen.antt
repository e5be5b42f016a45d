-- Which tree of a text is chosen. By the grammar alone some texts have two: behind braces with nothing between them
-- that may be a block, what begins the next statement may go on with an empty mapping as well, as in `{} (f)();`.
-- The block is chosen.
use Rattle.std.specs.Prelude.{◌≡◌, true, List, [], ◌∷◌, ◌++◌, map, Option, None, Some}
use Rattle.std.specs.Global.{Box}
use Rattle.std.specs.List.{All}
use Rattle.bal_base.specs.declared.token.TokenKind.TheVariants.{Sign as SignKind}
use Rattle.bal_base.specs.declared.token.Sign.TheVariants.{OpenBrace, CloseBrace}
use Rattle.bal_tree.specs.declared.def.Body.{Body}
use Rattle.bal_tree.specs.declared.def.Body.TheVariants.{Block as BlockBody, Expr as ExprBody}
use Rattle.bal_tree.specs.declared.def.Def.{Def}
use Rattle.bal_tree.specs.declared.def.Def.TheVariants.{«Type» as TypeOf, Const, Variable, Function}
use Rattle.bal_tree.specs.declared.def.FileTree.{FileTree}
use Rattle.bal_tree.specs.declared.def.Worker.{Worker}
use Rattle.bal_tree.specs.declared.stmt.Block.{Block}
use Rattle.bal_tree.specs.declared.stmt.Clause.{Clause}
use Rattle.bal_tree.specs.declared.stmt.Else.{Else}
use Rattle.bal_tree.specs.declared.stmt.Else.TheOpen as layer
use Rattle.bal_tree.specs.declared.stmt.IfStmt.{IfStmt}
use Rattle.bal_tree.specs.declared.stmt.Stmt.{Stmt}
use Rattle.bal_tree.specs.DefPieces.{file_pieces}
use Rattle.bal_tree.specs.Pieces.{Pieces, kinds}
use Rattle.bal_tree.specs.StmtLayers.{StmtOf, StmtSteps, of_else, of_stmt, of_block, of_clause, of_if_stmt}
use Rattle.bal_tree.specs.StmtPieces.{stmt_step, stmt_pieces}
use Rattle.bal_tree.specs.StmtRules.{else_parts, if_parts, stmt_is_formed}

-- all members of the lists, one list behind the other
abbrev pub together : {X : Type 0} → List (List X) → List X
together [] = []
together (xs ∷ more) = xs ++ together more

-- ---- the statements in a tree that begin with a type, an expression or an action, each written out

abbrev pub led_step : StmtOf (List Pieces) → List Pieces
led_step (layer.Local is_final t name value at) = stmt_step (layer.Local is_final t name value at) ∷ []
led_step (layer.Assign target op value at) = stmt_step (layer.Assign target op value at) ∷ []
led_step (layer.Ignore value at) = []
led_step (layer.Rhs value at) = stmt_step (layer.Rhs value at) ∷ []
led_step (layer.«Stmt::If» s) = s
led_step (layer.While condition body at) = body
led_step (layer.Foreach t name from range body at) = body
led_step (layer.Match value clauses at) = together clauses.items
led_step (layer.Return value at) = []
led_step (layer.Panic value at) = []
led_step (layer.Break at) = []
led_step (layer.Continue at) = []
led_step (layer.«Stmt::Block» b) = b

abbrev pub listing : StmtSteps (List Pieces)
listing = record {
  stmt = led_step;
  else = λ e. together (else_parts e);
  if_stmt = λ s. together (if_parts s);
  block = λ b. together b.stmts.items;
  clause = λ c. c.body;
}

abbrev pub led_in_stmt : Stmt → List Pieces
led_in_stmt = of_stmt listing

abbrev pub led_in_block : Block → List Pieces
led_in_block = of_block listing

abbrev pub led_in_if : IfStmt → List Pieces
led_in_if = of_if_stmt listing

abbrev pub led_in_else : Else → List Pieces
led_in_else = of_else listing

-- behind an if statement, where it is there
abbrev pub led_in_else_if : Option (Box Else) → List Pieces
led_in_else_if None = []
led_in_else_if (Some e) = led_in_else e.value

abbrev pub led_in_clause : Clause → List Pieces
led_in_clause = of_clause listing

abbrev pub led_in_clauses : List Clause → List Pieces
led_in_clauses clauses = together (map led_in_clause clauses)

abbrev pub led_in_stmts : List Stmt → List Pieces
led_in_stmts stmts = together (map led_in_stmt stmts)

abbrev pub led_in_worker : Worker → List Pieces
led_in_worker w = led_in_block w.body

abbrev pub led_in_workers : List Worker → List Pieces
led_in_workers workers = together (map led_in_worker workers)

abbrev pub led_in_body : Body → List Pieces
led_in_body (BlockBody stmts workers rest close at) =
    led_in_stmts stmts.items ++ led_in_workers workers.items ++ led_in_stmts rest.items
led_in_body (ExprBody value at) = []

abbrev pub led_in_def : Def → List Pieces
led_in_def (TypeOf d) = []
led_in_def (Const d) = []
led_in_def (Variable d) = []
led_in_def (Function d) = led_in_body d.body

abbrev pub led_in_defs : List Def → List Pieces
led_in_defs defs = together (map led_in_def defs)

abbrev pub led_in_file : FileTree → List Pieces
led_in_file t = led_in_defs t.defs.items

-- ---- the choice

-- these tokens are braces with nothing between them, and behind those a well-formed statement
abbrev pub IsBlockFirst : Pieces → Type 0
IsBlockFirst p = (s : Stmt) × (stmt_is_formed s ≡ true) × (kinds p ≡ SignKind OpenBrace ∷ SignKind CloseBrace ∷ kinds (stmt_pieces s))

-- none of them has such tokens
abbrev pub AreChosen : List Pieces → Type 0
AreChosen stmts = All (λ p. IsBlockFirst p → ⊥) stmts

-- Where a statement may stand and braces with nothing between them read as a block before a statement, they are one.
abbrev pub IsChosen : FileTree → Type 0
IsChosen t = AreChosen (led_in_file t)

-- Both are written out alike: they are the same but for where their parts lie in memory.
abbrev pub IsSameFile : FileTree → FileTree → Type 0
IsSameFile t u = file_pieces t ≡ file_pieces u
