-- Statements, written out: one line for each form, in which the parts are already written out.
use Rattle.std.specs.Prelude.{Option, map}
use Rattle.bal_base.specs.declared.token.Keyword.TheVariants.{Final, Var as VarKey, If as IfKey, Else as ElseKey, While as WhileKey, Foreach as ForeachKey, In, Match as MatchKey, Return as ReturnKey, Panic as PanicKey, Break as BreakKey, Continue as ContinueKey}
use Rattle.bal_base.specs.declared.token.Sign.{Sign}
use Rattle.bal_base.specs.declared.token.Sign.TheVariants.{Equal, PlusEqual, MinusEqual, StarEqual, SlashEqual, Underscore, Semicolon, OpenBrace, CloseBrace, OpenBracket, CloseBracket, Dot, Ellipsis, DotDotLess, Bar, FatArrow}
use Rattle.bal_tree.specs.declared.name.Word.{Word}
use Rattle.bal_tree.specs.declared.expr.Expr.{Expr}
use Rattle.bal_tree.specs.declared.action.Rhs.{Rhs}
use Rattle.bal_tree.specs.declared.stmt.Else.{Else}
use Rattle.bal_tree.specs.declared.stmt.Else.TheOpen as layer
use Rattle.bal_tree.specs.declared.stmt.Stmt.{Stmt}
use Rattle.bal_tree.specs.declared.stmt.Block.{Block}
use Rattle.bal_tree.specs.declared.stmt.Clause.{Clause}
use Rattle.bal_tree.specs.declared.stmt.IfStmt.{IfStmt}
use Rattle.bal_tree.specs.declared.stmt.LocalType.{LocalType}
use Rattle.bal_tree.specs.declared.stmt.LocalType.TheVariants.{«Type» as TypeOf, Var}
use Rattle.bal_tree.specs.declared.stmt.Target.{Target}
use Rattle.bal_tree.specs.declared.stmt.Target.TheVariants.{Name as NameTarget, Index as IndexTarget, Field as FieldTarget}
use Rattle.bal_tree.specs.declared.stmt.AssignOp.{AssignOp}
use Rattle.bal_tree.specs.declared.stmt.AssignOp.TheVariants.{Set, Add, Subtract, Multiply, Divide}
use Rattle.bal_tree.specs.declared.stmt.Range.{Range}
use Rattle.bal_tree.specs.declared.stmt.RangeOp.{RangeOp}
use Rattle.bal_tree.specs.declared.stmt.RangeOp.TheVariants.{Through, Below}
use Rattle.bal_tree.specs.declared.stmt.Pattern.{Pattern}
use Rattle.bal_tree.specs.declared.stmt.Pattern.TheVariants.{Any, Value, Name as NamePattern}
use Rattle.bal_tree.specs.Pieces.{Pieces, starts, ◌&◌, key, key_if, sign, if_there, if_boxed, joined, separated}
use Rattle.bal_tree.specs.NamePieces.{word_pieces, name_pieces, const_pieces}
use Rattle.bal_tree.specs.TypePieces.{type_pieces}
use Rattle.bal_tree.specs.ExprPieces.{expr_pieces, postfix_pieces}
use Rattle.bal_tree.specs.ActionPieces.{rhs_pieces}
use Rattle.bal_tree.specs.StmtLayers.{ElseOf, StmtOf, BlockOf, ClauseOf, IfStmtOf, StmtSteps, of_else, of_stmt, of_block, of_clause, of_if_stmt}

abbrev pub local_type_pieces : LocalType → Pieces
local_type_pieces (TypeOf t) = type_pieces t.value
local_type_pieces (Var at) = starts at & key VarKey

abbrev pub target_pieces : Target → Pieces
target_pieces (NameTarget n) = name_pieces n
target_pieces (IndexTarget base index at) =
    starts at & postfix_pieces base.value & sign OpenBracket & expr_pieces index.value & sign CloseBracket
target_pieces (FieldTarget base field at) = starts at & postfix_pieces base.value & sign Dot & word_pieces field

abbrev pub assign_sign : AssignOp → Sign
assign_sign Set = Equal
assign_sign Add = PlusEqual
assign_sign Subtract = MinusEqual
assign_sign Multiply = StarEqual
assign_sign Divide = SlashEqual

abbrev pub range_sign : RangeOp → Sign
range_sign Through = Ellipsis
range_sign Below = DotDotLess

abbrev pub range_pieces : Range → Pieces
range_pieces r = sign (range_sign r.op) & expr_pieces r.end.value

abbrev pub pattern_pieces : Pattern → Pieces
pattern_pieces (Any at) = starts at & sign Underscore
pattern_pieces (Value v) = const_pieces v
pattern_pieces (NamePattern n) = name_pieces n

-- an expression or an action, and the semicolon behind it
abbrev pub ended : Rhs → Pieces
ended value = rhs_pieces value & sign Semicolon

-- a local variable with its value
abbrev pub local_pieces : LocalType → Word → Rhs → Pieces
local_pieces t name value = local_type_pieces t & word_pieces name & sign Equal & ended value

-- what stands before the block of a loop over values
abbrev pub foreach_head : LocalType → Word → Expr → Option Range → Pieces
foreach_head t name from range =
    key ForeachKey & local_type_pieces t & word_pieces name & key In & expr_pieces from & if_there range_pieces range

abbrev pub stmt_step : StmtOf Pieces → Pieces
stmt_step (layer.Local is_final t name value at) = starts at & key_if is_final Final & local_pieces t name value
stmt_step (layer.Assign target op value at) = starts at & target_pieces target & sign (assign_sign op) & ended value
stmt_step (layer.Ignore value at) = starts at & sign Underscore & sign Equal & ended value
stmt_step (layer.Rhs value at) = starts at & ended value
stmt_step (layer.«Stmt::If» s) = s
stmt_step (layer.While condition body at) = starts at & key WhileKey & expr_pieces condition.value & body
stmt_step (layer.Foreach t name from range body at) = starts at & foreach_head t name from.value range & body
stmt_step (layer.Match value clauses at) =
    starts at & key MatchKey & expr_pieces value.value & sign OpenBrace & joined clauses.items & sign CloseBrace
stmt_step (layer.Return value at) = starts at & key ReturnKey & if_there rhs_pieces value & sign Semicolon
stmt_step (layer.Panic value at) = starts at & key PanicKey & expr_pieces value.value & sign Semicolon
stmt_step (layer.Break at) = starts at & key BreakKey & sign Semicolon
stmt_step (layer.Continue at) = starts at & key ContinueKey & sign Semicolon
stmt_step (layer.«Stmt::Block» b) = b

abbrev pub else_step : ElseOf Pieces → Pieces
else_step (layer.«Else::If» s) = s
else_step (layer.«Else::Block» b) = b

-- what stands behind `else`, and that word
abbrev pub as_else : Pieces → Pieces
as_else e = key ElseKey & e

abbrev pub if_step : IfStmtOf Pieces → Pieces
if_step s = starts s.at & key IfKey & expr_pieces s.condition.value & s.then & if_boxed as_else s.otherwise

abbrev pub block_step : BlockOf Pieces → Pieces
block_step b = starts b.at & sign OpenBrace & joined b.stmts.items & starts b.close & sign CloseBrace

abbrev pub clause_step : ClauseOf Pieces → Pieces
clause_step c = starts c.at & separated Bar (map pattern_pieces c.patterns.items) & sign FatArrow & c.body

abbrev pub writing : StmtSteps Pieces
writing = record { stmt = stmt_step; else = else_step; if_stmt = if_step; block = block_step; clause = clause_step }

abbrev pub stmt_pieces : Stmt → Pieces
stmt_pieces = of_stmt writing

abbrev pub else_pieces : Else → Pieces
else_pieces = of_else writing

abbrev pub if_pieces : IfStmt → Pieces
if_pieces = of_if_stmt writing

abbrev pub block_pieces : Block → Pieces
block_pieces = of_block writing

abbrev pub clause_pieces : Clause → Pieces
clause_pieces = of_clause writing
