-- Clauses of the functions that look for the place where the body of a function goes wrong. No public clause cites them.
use Rattle.std.specs.Global.{Box}
use Rattle.std.specs.Prelude.{◌≡◌, ◌⊎◌, ◌≤◌, ◌<◌, ◌&&◌, ℕ, true, false, List, ◌∷◌, length, map, Option, Some, None, IfSome}
use Rattle.std.specs.List.{list_all}
use Rattle.bal_base.specs.declared.token.Keyword.TheVariants.{If as IfKey, Else as ElseKey}
use Rattle.bal_base.specs.declared.token.Sign.TheVariants.{OpenBrace, CloseBrace}
use Rattle.bal_base.specs.declared.token.Token.{Token}
use Rattle.bal_base.specs.declared.token.TokenKind.TheVariants.{Keyword as KeywordKind, Sign as SignKind}
use Rattle.bal_tree.specs.declared.expr.Expr.{Expr}
use Rattle.bal_tree.specs.declared.stmt.Block.{Block}
use Rattle.bal_tree.specs.declared.stmt.Else.{Else}
use Rattle.bal_tree.specs.declared.stmt.IfStmt.{IfStmt}
use Rattle.bal_tree.specs.declared.stmt.Stmt.{Stmt}
use Rattle.bal_tree.specs.ExprPieces.{expr_pieces}
use Rattle.bal_tree.specs.ExprRules.{expr_is_formed}
use Rattle.bal_tree.specs.Pieces.{◌&◌, joined, key}
use Rattle.bal_tree.specs.Spells.{Heads, Spells, kinds_of, onto}
use Rattle.bal_tree.specs.StmtPieces.{block_pieces, else_pieces, if_pieces, stmt_pieces}
use Rattle.bal_tree.specs.StmtRules.{block_is_formed, else_is_formed, if_is_formed, stmt_is_formed}
use Rattle.parse_types.specs.Starts.{Reading}
use Rattle.token_steps.specs.Tokens.{Kinds}
use Rattle.parse_stmt.specs.Reaches.{goes_on, inside, led, stmt, then_part}
use Rattle.parse_stmt.specs.Starts.{StmtReading, ends_stmts}
use denote.Ref.{Bor}

-- a place was found, and it is where these tokens begin or behind that: no more are left there
abbrev pub IsKept : Option (Bor (List Token)) → Kinds → Type 0
IsKept None ks = ⊥
IsKept (Some stop) ks = length stop.now ≤ length ks

-- no well-formed statement begins with these
abbrev pub NoStmt : Kinds → Type 0
NoStmt ks = (s : Stmt) (behind : Kinds) → stmt_is_formed s ≡ true → ks ≡ onto (stmt_pieces s) behind → ⊥

abbrev pub StartsElse : Kinds → Type 0
StartsElse ks = (behind : Kinds) × (ks ≡ KeywordKind ElseKey ∷ behind)

-- ---- one statement

-- the reader takes a statement
pub record IsRead (room file : ℕ) (tokens rest : List Token) : Type 0 where
  pub statement : Stmt
  pub reads : StmtReading statement file tokens rest
  pub end : stmt (inside room) (kinds_of tokens) ≡ Some (kinds_of rest)

-- what stands behind it, or it takes none
abbrev pub IsBehindStmt : ℕ → ℕ → List Token → Option (Bor (List Token)) → Type 0
IsBehindStmt room file tokens None = stmt (inside room) (kinds_of tokens) ≡ None
IsBehindStmt room file tokens (Some rest) = IsRead room file tokens rest.now

-- ---- if statements that end before an `else`

abbrev pub ThenReading : Box Expr → Block → ℕ → List Token → List Token → Type 0
ThenReading condition then =
    Reading (expr_is_formed condition.value false && block_is_formed then) (key IfKey & expr_pieces condition.value & block_pieces then)

-- an if statement without its `else` ends at the first of these tokens, and `else` stands there, before the others and the end
pub record ElseThere (room file : ℕ) (tokens after at behind : List Token) : Type 0 where
  pub condition : Box Expr
  pub then : Block
  pub reads : ThenReading condition then file tokens at
  pub end : then_part (inside room) (kinds_of tokens) ≡ Some (kinds_of at)
  pub heads : Heads (KeywordKind ElseKey) at behind
  pub longer : length after < length at

-- the `else` behind the first block and what stands behind it, or it isn't there
abbrev pub IsNextElse : ℕ → ℕ → List Token → List Token → Option (Bor (List Token) × Bor (List Token)) → Type 0
IsNextElse room file tokens after None =
    (ks : Kinds) → then_part (inside room) (kinds_of tokens) ≡ Some ks → StartsElse ks → length ks ≤ length after
IsNextElse room file tokens after (Some found) = ElseThere room file tokens after found.0.now found.1.now

-- an if statement or a block ends there, and `else` stands behind it
pub record EndsAtElse (file : ℕ) (tokens rest : List Token) : Type 0 where
  pub tree : Else
  pub formed : else_is_formed tree ≡ true
  pub spells : Spells file (else_pieces tree) tokens rest
  pub before : StartsElse (kinds_of rest)

-- each if statement that begins with these tokens ends at the end, or else before an `else`, the last of which was found
pub record IsLastElse (file : ℕ) (tokens after : List Token) (last : Option (Bor (List Token))) : Type 0 where
  pub found : IfSome last (λ rest. EndsAtElse file tokens rest.now)
  pub before : IfSome last (λ rest. length after < length rest.now)
  pub others : (s : IfStmt) (ks : Kinds) → if_is_formed s ≡ true → kinds_of tokens ≡ onto (if_pieces s) ks → (ks ≡ kinds_of after) ⊎ (IsKept last ks × StartsElse ks)

-- ---- empty braces that end before the statement does

pub record BracesThere (tokens after rest : List Token) : Type 0 where
  pub inside_braces : List Token
  pub opens : Heads (SignKind OpenBrace) tokens inside_braces
  pub closes : Heads (SignKind CloseBrace) inside_braces rest
  pub longer : length after < length rest

abbrev pub IsBehindBraces : List Token → List Token → Option (Bor (List Token)) → Type 0
IsBehindBraces tokens after None = (ks : Kinds) → kinds_of tokens ≡ SignKind OpenBrace ∷ SignKind CloseBrace ∷ ks → length ks ≤ length after
IsBehindBraces tokens after (Some rest) = BracesThere tokens after rest.now

-- ---- places at which a statement is wanting

-- a statement ends there, and what stands there neither begins one nor may stand behind the last one
pub record EndsWanting (file : ℕ) (tokens rest : List Token) : Type 0 where
  pub statement : Stmt
  pub formed : stmt_is_formed statement ≡ true
  pub spells : Spells file (stmt_pieces statement) tokens rest
  pub goes_on : ends_stmts (kinds_of rest) ≡ false
  pub no_stmt : NoStmt (kinds_of rest)

-- where a statement may end: where the reader's one does; or that is an empty block, and it goes on as far as the one behind that;
-- or where no statement begins, which is a place that was found or one before it
abbrev pub MayEnd : List Token → Option (Bor (List Token)) → Kinds → Type 0
MayEnd after stop ks =
    (ks ≡ kinds_of after)
    ⊎ (((goes_on (kinds_of after) ≡ true) × (led (kinds_of after) ≡ Some ks)) ⊎ (IsKept stop ks × NoStmt ks))

-- of one statement, which the reader takes up to the end: the last place before the end at which another one is wanting
pub record IsStopWithin (file : ℕ) (tokens after : List Token) (stop : Option (Bor (List Token))) : Type 0 where
  pub found : IfSome stop (λ rest. EndsWanting file tokens rest.now)
  pub before : IfSome stop (λ rest. length after < length rest.now)
  pub others : (s : Stmt) (ks : Kinds) → stmt_is_formed s ≡ true → kinds_of tokens ≡ onto (stmt_pieces s) ks → MayEnd after stop ks

-- of statements one behind the other
pub record ComeWanting (file : ℕ) (tokens rest : List Token) : Type 0 where
  pub statements : List Stmt
  pub formed : list_all stmt_is_formed statements ≡ true
  pub spells : Spells file (joined (map stmt_pieces statements)) tokens rest
  pub goes_on : ends_stmts (kinds_of rest) ≡ false
  pub no_stmt : NoStmt (kinds_of rest)

-- whole statements stand between
pub record Leads (ks behind : Kinds) : Type 0 where
  pub statements : List Stmt
  pub formed : list_all stmt_is_formed statements ≡ true
  pub is : ks ≡ onto (joined (map stmt_pieces statements)) behind

pub record IsLastStop (file : ℕ) (tokens : List Token) (stop : Option (Bor (List Token))) : Type 0 where
  pub found : IfSome stop (λ rest. ComeWanting file tokens rest.now)
  pub others : (ks : Kinds) → Leads (kinds_of tokens) ks → ends_stmts ks ≡ false → NoStmt ks → IsKept stop ks
