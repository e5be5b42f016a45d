-- What is promised of the reader of files.
use Rattle.std.specs.Global.{Box}
use Rattle.std.specs.Prelude.{◌≡◌, ◌⊎◌, ◌≤◌, ◌&&◌, ℕ, Bool, true, false, List, [], ◌∷◌, length, map, drop, Option, Some, None, Result, Ok, Err, MatchResult}
use Rattle.std.specs.List.{All, list_all}
use Rattle.bal_base.specs.declared.fault.Fault.{Fault}
use Rattle.bal_base.specs.declared.fault.FaultCode.TheVariants.{Depth, Syntax}
use Rattle.bal_base.specs.declared.fault.Kept.TheVariants.{Count}
use Rattle.bal_base.specs.declared.token.Token.{Token}
use Rattle.bal_base.specs.Stops.{IfFault}
use Rattle.bal_tree.specs.declared.def.Def.{Def}
use Rattle.bal_tree.specs.declared.def.Import.{Import}
use Rattle.bal_base.specs.declared.token.Keyword.TheVariants.{Public, «Type» as TypeKey, Const as ConstKey, Final as FinalKey, Isolated as IsolatedKey, Function as FunctionKey, Worker as WorkerKey}
use Rattle.bal_base.specs.declared.token.TokenKind.TheVariants.{Keyword as KeywordKind, Sign as SignKind}
use Rattle.bal_base.specs.declared.token.Sign.TheVariants.{Semicolon, Equal, OpenBrace, CloseBrace}
use Rattle.bal_tree.specs.declared.action.Action.{Action}
use Rattle.bal_tree.specs.declared.action.ActionOp.{ActionOp}
use Rattle.bal_tree.specs.declared.action.Rhs.{Rhs}
use Rattle.bal_base.specs.declared.place.Place.{Place}
use Rattle.bal_tree.specs.declared.expr.Expr.{Expr}
use Rattle.bal_tree.specs.declared.name.QualifiedName.{QualifiedName}
use Rattle.bal_tree.specs.declared.stmt.Block.{Block}
use Rattle.bal_tree.specs.declared.stmt.Else.{Else}
use Rattle.bal_tree.specs.declared.stmt.Clause.{Clause}
use Rattle.bal_tree.specs.declared.stmt.IfStmt.{IfStmt}
use Rattle.bal_tree.specs.declared.stmt.Stmt.{Stmt}
use Rattle.bal_tree.specs.declared.def.ConstDef.{ConstDef}
use Rattle.bal_tree.specs.declared.def.FunctionDef.{FunctionDef}
use Rattle.bal_tree.specs.declared.def.TypeDef.{TypeDef}
use Rattle.bal_tree.specs.declared.def.VariableDef.{VariableDef}
use Rattle.bal_tree.specs.declared.def.Worker.{Worker}
use Rattle.bal_tree.specs.ActionPieces.{action_key, action_pieces, rhs_pieces}
use Rattle.bal_tree.specs.ActionRules.{action_is_formed, rhs_is_formed}
use Rattle.bal_tree.specs.declared.expr.PrefixOp.{PrefixOp}
use Rattle.bal_tree.specs.ExprPieces.{expr_pieces, prefix_op}
use Rattle.bal_tree.specs.ExprRules.{expr_is_formed}
use Rattle.bal_tree.specs.NamePieces.{name_pieces, word_pieces, const_pieces}
use Rattle.bal_tree.specs.StmtPieces.{stmt_pieces, if_pieces, block_pieces, clause_pieces}
use Rattle.bal_tree.specs.StmtRules.{else_is_formed, stmt_is_formed, if_is_formed, block_is_formed, clause_is_formed}
use Rattle.bal_tree.specs.TypePieces.{type_pieces, params_pieces, returning}
use Rattle.bal_tree.specs.DefPieces.{def_pieces, import_pieces, worker_pieces, body_pieces}
use Rattle.bal_tree.specs.DefRules.{def_is_formed, type_is_formed_if, worker_is_formed}
use Rattle.bal_tree.specs.TypeRules.{params_are_formed}
use Rattle.bal_tree.specs.Pieces.{Pieces, starts, ◌&◌, joined, key, key_if, sign, if_boxed}
use Rattle.bal_tree.specs.Spells.{Spells, onto, kinds_of, first_place}
use Rattle.parse_types.specs.Nesting.{first_too_deep}
use Rattle.parse_types.specs.Starts.{Reading, refusal}
use Rattle.bal_base.specs.declared.stop.Stop.{Stop}
use Rattle.bal_base.specs.declared.stop.Stop.TheVariants.{Memory, Fault as FaultOf}
use Rattle.bal_tree.specs.declared.def.FileTree.{FileTree}
use Rattle.token_steps.specs.Tokens.{Kinds}
use Rattle.parse_stmt.specs.Chosen.{IsBlockFirst, led_in_stmt}
use Rattle.parse_stmt.specs.declared.stops.Signature.{Signature}
use denote.Ref.{Bor}

-- a well-formed definition stands at the front of the tokens, and this is left behind it
abbrev pub StartsDef : List Token → Kinds → Type 0
StartsDef tokens rest = (d : Def) × (def_is_formed d ≡ true) × (kinds_of tokens ≡ onto (def_pieces d) rest)

-- an import stands at the front of the tokens, and this is left behind it
abbrev pub StartsImport : List Token → Kinds → Type 0
StartsImport tokens rest = (i : Import) × (kinds_of tokens ≡ onto (import_pieces i) rest)

-- imports, and behind them definitions
abbrev pub front_pieces : List Import → List Def → Pieces
front_pieces imports defs = joined (map import_pieces imports) & joined (map def_pieces defs)

-- The file goes wrong at the first token of the rest: whole imports and behind them whole definitions stand before it, and no
-- definition begins with it, nor an import where no definition stands before it.
pub record BreaksAt (file : ℕ) (tokens rest : List Token) : Type 0 where
  pub imports : List Import
  pub defs : List Def
  pub are_formed : list_all def_is_formed defs ≡ true
  pub spells : Spells file (front_pieces imports defs) tokens rest
  pub goes_on : rest ≡ [] → ⊥
  pub no_def : (behind : Kinds) → StartsDef rest behind → ⊥
  pub no_import : defs ≡ [] → (behind : Kinds) → StartsImport rest behind → ⊥

-- the signature of a function: what stands before its body
abbrev pub signature_pieces : Signature → Pieces
signature_pieces s =
    key_if s.public Public & key_if s.isolated IsolatedKey & key FunctionKey & word_pieces s.name & params_pieces s.params
    & if_boxed (λ t. returning (type_pieces t)) s.result

abbrev pub signature_is_formed : Signature → Bool
signature_is_formed s = params_are_formed s.params && type_is_formed_if s.result

-- a function that has begun: its signature, the brace that opens its body, and these statements
abbrev pub begun_pieces : Signature → List Stmt → Pieces
begun_pieces s stmts = signature_pieces s & sign OpenBrace & joined (map stmt_pieces stmts)

-- whole statements, none or more, stand in the body of a function, behind its signature and its brace
pub record WithinBody (file : ℕ) (tokens rest : List Token) : Type 0 where
  pub signature : Signature
  pub stmts : List Stmt
  pub signature_formed : signature_is_formed signature ≡ true
  pub are_formed : list_all stmt_is_formed stmts ≡ true
  pub spells : Spells file (begun_pieces signature stmts) tokens rest

-- the tokens end, or what closes the body or begins a worker stands there
abbrev pub ends_stmts : Kinds → Bool
ends_stmts [] = true
ends_stmts (SignKind CloseBrace ∷ ks) = true
ends_stmts (KeywordKind WorkerKey ∷ ks) = true
ends_stmts (k ∷ ks) = false

-- a well-formed statement stands at the front of the tokens, and this is left behind it
abbrev pub StartsStmt : List Token → Kinds → Type 0
StartsStmt tokens rest = (s : Stmt) × (stmt_is_formed s ≡ true) × (kinds_of tokens ≡ onto (stmt_pieces s) rest)

-- A statement is wanting in the body of a function at the first token of the rest: whole statements stand before it, what stands there
-- neither ends the body nor begins a worker, and no statement begins with it.
pub record WantsAt (file : ℕ) (tokens rest : List Token) : Type 0 where
  pub within : WithinBody file tokens rest
  pub goes_on : ends_stmts (kinds_of rest) ≡ false
  pub no_statement : (behind : Kinds) → StartsStmt rest behind → ⊥

-- The body of a function goes wrong at the last of these places.
pub record StopsAt (file : ℕ) (tokens rest : List Token) : Type 0 where
  pub wants : WantsAt file tokens rest
  pub is_last : (other : List Token) → WantsAt file tokens other → length rest ≤ length other

-- what stands at the place is no statement
abbrev pub no_stmt : Place → Fault
no_stmt at = record { code = Syntax; at = Some at; kept = Count 1 }

-- why a file is refused whose first definition that can't be read begins with these tokens: the body of the function that
-- begins there goes wrong, or else that definition is none
abbrev pub IsWrong : ℕ → List Token → Fault → Type 0
IsWrong file tokens fault =
    ((rest : List Token) × StopsAt file tokens rest × (fault ≡ no_stmt (first_place file rest)))
    ⊎ (((rest : List Token) → StopsAt file tokens rest → ⊥) × (fault ≡ refusal Syntax (first_place file tokens)))

-- no token is too deep, and it is refused where it goes wrong
abbrev pub IsBroken : ℕ → List Token → Fault → Type 0
IsBroken file tokens fault =
    (first_too_deep (kinds_of tokens) ≡ None) × ((rest : List Token) × BreaksAt file tokens rest × IsWrong file rest fault)

-- it is refused for its depth, at the first token of the file whose nesting passes the limit
abbrev pub IsFileTooDeep : ℕ → List Token → Fault → Type 0
IsFileTooDeep file tokens fault =
    (i : ℕ) × (first_too_deep (kinds_of tokens) ≡ Some i) × (fault ≡ refusal Depth (first_place file (drop i tokens)))

-- ---- clauses of the functions that read

abbrev pub NameReading : QualifiedName → ℕ → List Token → List Token → Type 0
NameReading n = Reading true (name_pieces n)

abbrev pub ActionReading : Action → ℕ → List Token → List Token → Type 0
ActionReading a = Reading (action_is_formed a) (action_pieces a)

-- the action is this word at this place and what these tokens are read as
pub record WordedReading (op : ActionOp) (at : Place) (a : Action) (file : ℕ) (tokens rest : List Token) : Type 0 where
  pub behind : Pieces
  pub is : action_pieces a ≡ (starts at & key (action_key op) & behind)
  pub reads : Reading (action_is_formed a) behind file tokens rest

-- the expression is this word at this place and what these tokens are read as
pub record CheckedReading (op : PrefixOp) (at : Place) (e : Expr) (file : ℕ) (tokens rest : List Token) : Type 0 where
  pub behind : Pieces
  pub is : expr_pieces e ≡ (starts at & prefix_op op & behind)
  pub reads : Reading (expr_is_formed e false) behind file tokens rest

abbrev pub RhsReading : Rhs → ℕ → List Token → List Token → Type 0
RhsReading r = Reading (rhs_is_formed r) (rhs_pieces r)

abbrev pub StmtReading : Stmt → ℕ → List Token → List Token → Type 0
StmtReading s = Reading (stmt_is_formed s) (stmt_pieces s)

-- what stands in the statement is chosen, and the statement itself at most isn't
abbrev pub IsChosenWithin : Stmt → Type 0
IsChosenWithin s = All (λ p. IsBlockFirst p → p ≡ stmt_pieces s) (led_in_stmt s)

abbrev pub IfReading : IfStmt → ℕ → List Token → List Token → Type 0
IfReading s = Reading (if_is_formed s) (if_pieces s)

-- what stands behind `else`, which may be absent
abbrev pub else_is_formed_if : Option (Box Else) → Bool
else_is_formed_if None = true
else_is_formed_if (Some e) = else_is_formed e.value

abbrev pub BlockReading : Block → ℕ → List Token → List Token → Type 0
BlockReading b = Reading (block_is_formed b) (block_pieces b)

abbrev pub ClauseReading : Clause → ℕ → List Token → List Token → Type 0
ClauseReading c = Reading (clause_is_formed c) (clause_pieces c)

abbrev pub WorkerReading : Worker → ℕ → List Token → List Token → Type 0
WorkerReading w = Reading (worker_is_formed w) (worker_pieces w)

abbrev pub DefReading : Def → ℕ → List Token → List Token → Type 0
DefReading d = Reading (def_is_formed d) (def_pieces d)

abbrev pub ImportReading : Import → ℕ → List Token → List Token → Type 0
ImportReading i = Reading true (import_pieces i)

-- what stands between the braces of a body: statements, workers, and the statements behind them
abbrev pub within_braces : List Stmt → List Worker → List Stmt → Pieces
within_braces stmts workers rest =
    joined (map stmt_pieces stmts) & joined (map worker_pieces workers) & joined (map stmt_pieces rest)

-- definitions behind `public`

abbrev pub type_def_behind : TypeDef → Pieces
type_def_behind d = key TypeKey & word_pieces d.name & type_pieces d.ty.value & sign Semicolon

abbrev pub const_def_behind : ConstDef → Pieces
const_def_behind d =
    key ConstKey & if_boxed type_pieces d.ty & word_pieces d.name & sign Equal & const_pieces d.value & sign Semicolon

abbrev pub variable_def_behind : VariableDef → Pieces
variable_def_behind d =
    key_if d.is_final FinalKey & type_pieces d.ty.value & word_pieces d.name & sign Equal & expr_pieces d.value.value & sign Semicolon

abbrev pub function_def_behind : FunctionDef → Pieces
function_def_behind d =
    key_if d.isolated IsolatedKey & key FunctionKey & word_pieces d.name & params_pieces d.params
    & if_boxed (λ t. returning (type_pieces t)) d.result & body_pieces d.body

-- the definition is at this place, behind `public` where that is there, what these tokens are read as
pub record BehindReading (public : Bool) (at : Place) (d : Def) (file : ℕ) (tokens rest : List Token) : Type 0 where
  pub behind : Pieces
  pub is : def_pieces d ≡ (starts at & key_if public Public & behind)
  pub reads : Reading (def_is_formed d) behind file tokens rest

-- the answer is no fault: a tree, or want of memory
abbrev pub IsNotRefused : {T : Type 0} → Result T (Stop Fault) → Type 0
IsNotRefused result = IfFault result (λ fault. ⊥)

-- the answer is this fault, or want of memory
abbrev pub IsRefused : {T : Type 0} → Result T (Stop Fault) → Fault → Type 0
IsRefused (Ok t) fault = ⊥
IsRefused (Err Memory) fault = Unit {0}
IsRefused (Err (FaultOf f)) fault = f ≡ fault

-- the place where the body of the function that begins with these tokens goes wrong, or that it doesn't
abbrev pub IsStop : ℕ → List Token → Option (Bor (List Token)) → Type 0
IsStop file tokens None = (rest : List Token) → StopsAt file tokens rest → ⊥
IsStop file tokens (Some rest) = StopsAt file tokens rest.now

-- it is refused so, unless memory ran out
abbrev pub IsWrongOr : ℕ → List Token → Stop Fault → Type 0
IsWrongOr file tokens Memory = Unit {0}
IsWrongOr file tokens (FaultOf f) = IsWrong file tokens f

-- the answer is the tree where nothing is left, else why the file is refused whose rest this is
abbrev pub WholeOr : FileTree → ℕ → List Token → Result FileTree (Stop Fault) → Type 0
WholeOr tree file rest result = MatchResult result (λ t. (t ≡ tree) × (rest ≡ [])) (λ stop. (rest ≡ [] → ⊥) × IsWrongOr file rest stop)

abbrev pub FrontReading : Signature → ℕ → List Token → List Token → Type 0
FrontReading s = Reading (signature_is_formed s) (signature_pieces s & sign OpenBrace)
