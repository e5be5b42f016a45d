-- Type descriptors and parameters, written out: one line for each form, in which the parts are already written out.
use Rattle.std.specs.Prelude.{List, [], ◌∷◌, ◌++◌, Bool, Option, None, Some, map}
use Rattle.std.specs.Global.{Box}
use Rattle.bal_base.specs.declared.token.TokenKind.TheVariants.{Int as IntKind}
use Rattle.bal_base.specs.declared.token.Keyword.{Keyword}
use Rattle.bal_base.specs.declared.token.Keyword.TheVariants.{Int as IntKey, String as StringKey, Boolean as BooleanKey, Byte as ByteKey, Any as AnyKey, AnyData as AnyDataKey, Never as NeverKey, ReadOnly as ReadOnlyKey, Map as MapKey, Future as FutureKey, Error as ErrorKey, Record as RecordKey, Function as FunctionKey, Isolated as IsolatedKey, Returns as ReturnsKey}
use Rattle.bal_base.specs.declared.token.Sign.TheVariants.{Bar, Ampersand, Question, OpenBracket, CloseBracket, Minus, OpenParen, CloseParen, Less, Greater, OpenBrace, CloseBrace, OpenBraceBar, CloseBraceBar, Ellipsis, Semicolon, Comma}
use Rattle.bal_tree.specs.declared.types.BuiltinType.{BuiltinType}
use Rattle.bal_tree.specs.declared.types.BuiltinType.TheVariants.{Int, String, Boolean, Byte, Any, AnyData, Never, ReadOnly}
use Rattle.bal_tree.specs.declared.types.IntersectionType.{IntersectionType}
use Rattle.bal_tree.specs.declared.types.IntersectionType.TheOpen as layer
use Rattle.bal_tree.specs.declared.types.PostfixType.{PostfixType}
use Rattle.bal_tree.specs.declared.types.PrimaryType.{PrimaryType}
use Rattle.bal_tree.specs.declared.types.TypeTree.{TypeTree}
use Rattle.bal_tree.specs.declared.types.FieldTree.{FieldTree}
use Rattle.bal_tree.specs.declared.types.ParamType.{ParamType}
use Rattle.bal_tree.specs.declared.types.ParamTypes.{ParamTypes}
use Rattle.bal_tree.specs.declared.params.Param.{Param}
use Rattle.bal_tree.specs.declared.params.Params.{Params}
use Rattle.bal_tree.specs.Pieces.{Pieces, token, starts, ◌&◌, key, key_if, sign, sign_if, if_there, if_boxed, joined, separated}
use Rattle.bal_tree.specs.NamePieces.{word_pieces, name_pieces, literal_pieces}
use Rattle.bal_tree.specs.TypeLayers.{IntersectionTypeOf, PostfixTypeOf, PrimaryTypeOf, TypeTreeOf, FieldTreeOf, ParamTypeOf, ParamTypesOf, TypeSteps, of_intersection_type, of_postfix_type, of_primary_type, of_type_tree, of_field_tree, of_param_type, of_param_types}

abbrev pub builtin_key : BuiltinType → Keyword
builtin_key Int = IntKey
builtin_key String = StringKey
builtin_key Boolean = BooleanKey
builtin_key Byte = ByteKey
builtin_key Any = AnyKey
builtin_key AnyData = AnyDataKey
builtin_key Never = NeverKey
builtin_key ReadOnly = ReadOnlyKey

-- `<T>`
abbrev pub in_angles : Pieces → Pieces
in_angles t = sign Less & t & sign Greater

-- `returns T`
abbrev pub returning : Pieces → Pieces
returning t = key ReturnsKey & t

-- `T...`
abbrev pub as_rest : Pieces → Pieces
as_rest t = t & sign Ellipsis

-- `function`, behind `isolated` where it is there
abbrev pub function_word : Bool → Pieces
function_word isolated = key_if isolated IsolatedKey & key FunctionKey

-- the members of a list, and what takes the rest as the last of them
module _ {X : Type 0} (f : X → Pieces) where
  abbrev pub with_last : List Pieces → Option X → List Pieces
  with_last parts None = parts
  with_last parts (Some x) = parts ++ f x ∷ []

  abbrev pub with_last_boxed : List Pieces → Option (Box X) → List Pieces
  with_last_boxed parts None = parts
  with_last_boxed parts (Some x) = parts ++ f x.value ∷ []

abbrev pub type_step : TypeTreeOf Pieces → Pieces
type_step (layer.Intersection t) = t
type_step (layer.Union left right at) = starts at & left.value & sign Bar & right.value

abbrev pub intersection_step : IntersectionTypeOf Pieces → Pieces
intersection_step (layer.Postfix t) = t
intersection_step (layer.Both left right at) = starts at & left.value & sign Ampersand & right.value

abbrev pub postfix_step : PostfixTypeOf Pieces → Pieces
postfix_step (layer.Primary t) = t
postfix_step (layer.Optional of at) = starts at & of.value & sign Question
postfix_step (layer.Array member at) = starts at & member.value & sign OpenBracket & sign CloseBracket
postfix_step (layer.FixedArray member n at) = starts at & member.value & sign OpenBracket & token (IntKind n) & sign CloseBracket

abbrev pub primary_step : PrimaryTypeOf Pieces → Pieces
primary_step (layer.Builtin b at) = starts at & key (builtin_key b)
primary_step (layer.Literal l) = literal_pieces l
primary_step (layer.Negative n at) = starts at & sign Minus & token (IntKind n)
primary_step (layer.Parens inner at) = starts at & sign OpenParen & inner.value & sign CloseParen
primary_step (layer.Name n) = name_pieces n
primary_step (layer.Map member at) = starts at & key MapKey & in_angles member.value
primary_step (layer.Future result at) = starts at & key FutureKey & in_angles result.value
primary_step (layer.Error detail at) = starts at & key ErrorKey & if_boxed in_angles detail
primary_step (layer.Tuple members rest at) =
    starts at & sign OpenBracket & separated Comma (with_last_boxed as_rest members.items rest) & sign CloseBracket
primary_step (layer.ClosedRecord fields rest at) =
    starts at & key RecordKey & sign OpenBraceBar & joined fields.items & if_boxed (λ t. as_rest t & sign Semicolon) rest
    & sign CloseBraceBar
primary_step (layer.OpenRecord fields at) = starts at & key RecordKey & sign OpenBrace & joined fields.items & sign CloseBrace
primary_step (layer.AnyFunction isolated at) = starts at & function_word isolated
primary_step (layer.Function isolated params result at) =
    starts at & function_word isolated & params & if_boxed returning result

abbrev pub field_step : FieldTreeOf Pieces → Pieces
field_step f = starts f.at & f.ty.value & word_pieces f.name & sign_if f.optional Question & sign Semicolon

abbrev pub param_type_step : ParamTypeOf Pieces → Pieces
param_type_step p = starts p.at & p.ty.value & if_there word_pieces p.name

abbrev pub param_types_step : ParamTypesOf Pieces → Pieces
param_types_step p = sign OpenParen & separated Comma (with_last_boxed as_rest p.params.items p.rest) & sign CloseParen

abbrev pub writing : TypeSteps Pieces
writing = record {
  type_tree = type_step;
  intersection_type = intersection_step;
  postfix_type = postfix_step;
  primary_type = primary_step;
  field_tree = field_step;
  param_type = param_type_step;
  param_types = param_types_step;
}

abbrev pub type_pieces : TypeTree → Pieces
type_pieces = of_type_tree writing

abbrev pub intersection_pieces : IntersectionType → Pieces
intersection_pieces = of_intersection_type writing

abbrev pub postfix_type_pieces : PostfixType → Pieces
postfix_type_pieces = of_postfix_type writing

abbrev pub primary_type_pieces : PrimaryType → Pieces
primary_type_pieces = of_primary_type writing

abbrev pub field_pieces : FieldTree → Pieces
field_pieces = of_field_tree writing

abbrev pub param_type_pieces : ParamType → Pieces
param_type_pieces = of_param_type writing

abbrev pub param_types_pieces : ParamTypes → Pieces
param_types_pieces = of_param_types writing

-- ---- the parameters of a function

abbrev pub param_pieces : Param → Pieces
param_pieces p = starts p.at & type_pieces p.ty.value & word_pieces p.name

abbrev pub rest_param_pieces : Param → Pieces
rest_param_pieces p = starts p.at & as_rest (type_pieces p.ty.value) & word_pieces p.name

abbrev pub params_pieces : Params → Pieces
params_pieces p =
    sign OpenParen & separated Comma (with_last rest_param_pieces (map param_pieces p.params.items) p.rest) & sign CloseParen
