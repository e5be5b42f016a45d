-- Files, imports and definitions, written out.
use Rattle.std.specs.Prelude.{List, map}
use Rattle.bal_base.specs.declared.token.TokenKind.{TokenKind}
use Rattle.bal_base.specs.declared.token.Keyword.{Keyword}
use Rattle.bal_base.specs.declared.token.Keyword.TheVariants.{Import as ImportKey, As, Public, «Type» as TypeKey, Const as ConstKey, Final, Function as FunctionKey, Isolated, Worker as WorkerKey}
use Rattle.bal_base.specs.declared.token.Sign.{Sign}
use Rattle.bal_base.specs.declared.token.Sign.TheVariants.{Slash, Dot, Semicolon, Equal, OpenBrace, CloseBrace, FatArrow}
use Rattle.bal_tree.specs.declared.name.Word.{Word}
use Rattle.bal_tree.specs.declared.def.FileTree.{FileTree}
use Rattle.bal_tree.specs.declared.def.Import.{Import}
use Rattle.bal_tree.specs.declared.def.Def.{Def}
use Rattle.bal_tree.specs.declared.def.Def.TheVariants.{«Type» as TypeOf, Const, Variable, Function}
use Rattle.bal_tree.specs.declared.def.TypeDef.{TypeDef}
use Rattle.bal_tree.specs.declared.def.ConstDef.{ConstDef}
use Rattle.bal_tree.specs.declared.def.VariableDef.{VariableDef}
use Rattle.bal_tree.specs.declared.def.FunctionDef.{FunctionDef}
use Rattle.bal_tree.specs.declared.def.Body.{Body}
use Rattle.bal_tree.specs.declared.def.Body.TheVariants.{Block as BlockBody, Expr as ExprBody}
use Rattle.bal_tree.specs.declared.def.Worker.{Worker}
use Rattle.bal_tree.specs.Pieces.{Pieces, starts, ◌&◌, key, key_if, sign, if_there, if_boxed, kinds, joined, behind}
use Rattle.bal_tree.specs.NamePieces.{word_pieces, const_pieces}
use Rattle.bal_tree.specs.TypePieces.{type_pieces, returning, params_pieces}
use Rattle.bal_tree.specs.ExprPieces.{expr_pieces}
use Rattle.bal_tree.specs.StmtPieces.{stmt_pieces, block_pieces}

-- a word behind a sign
abbrev pub word_behind : Sign → Word → Pieces
word_behind s w = sign s & word_pieces w

-- a word behind a keyword
abbrev pub word_after : Keyword → Word → Pieces
word_after k w = key k & word_pieces w

abbrev pub import_pieces : Import → Pieces
import_pieces i =
    starts i.at & key ImportKey & word_pieces i.first & if_there (word_behind Slash) i.second
    & behind Dot (map word_pieces i.more.items) & if_there (word_after As) i.prefix & sign Semicolon

abbrev pub worker_pieces : Worker → Pieces
worker_pieces w =
    starts w.at & key WorkerKey & word_pieces w.name & if_boxed (λ t. returning (type_pieces t)) w.result & block_pieces w.body

abbrev pub body_pieces : Body → Pieces
body_pieces (BlockBody stmts workers rest close at) =
    starts at & sign OpenBrace & joined (map stmt_pieces stmts.items) & joined (map worker_pieces workers.items)
    & joined (map stmt_pieces rest.items) & starts close & sign CloseBrace
body_pieces (ExprBody value at) = starts at & sign FatArrow & expr_pieces value.value & sign Semicolon

abbrev pub type_def_pieces : TypeDef → Pieces
type_def_pieces d =
    starts d.at & key_if d.public Public & key TypeKey & word_pieces d.name & type_pieces d.ty.value & sign Semicolon

abbrev pub const_def_pieces : ConstDef → Pieces
const_def_pieces d =
    starts d.at & key_if d.public Public & key ConstKey & if_boxed type_pieces d.ty & word_pieces d.name & sign Equal
    & const_pieces d.value & sign Semicolon

abbrev pub variable_def_pieces : VariableDef → Pieces
variable_def_pieces d =
    starts d.at & key_if d.public Public & key_if d.is_final Final & type_pieces d.ty.value & word_pieces d.name & sign Equal
    & expr_pieces d.value.value & sign Semicolon

abbrev pub function_def_pieces : FunctionDef → Pieces
function_def_pieces d =
    starts d.at & key_if d.public Public & key_if d.isolated Isolated & key FunctionKey & word_pieces d.name
    & params_pieces d.params & if_boxed (λ t. returning (type_pieces t)) d.result & body_pieces d.body

abbrev pub def_pieces : Def → Pieces
def_pieces (TypeOf d) = type_def_pieces d
def_pieces (Const d) = const_def_pieces d
def_pieces (Variable d) = variable_def_pieces d
def_pieces (Function d) = function_def_pieces d

abbrev pub file_pieces : FileTree → Pieces
file_pieces f = starts f.at & joined (map import_pieces f.imports.items) & joined (map def_pieces f.defs.items)

-- the tokens of a file from left to right
abbrev pub yield : FileTree → List TokenKind
yield f = kinds (file_pieces f)
