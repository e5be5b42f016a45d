-- Looking ahead passes over types, and a statement that begins with one begins with no word of its own.
use Rattle.std.proofs.Common.{◌≡◌, ℕ, Bool, true, false, List, [], ◌∷◌, ◌++◌, map, Option, None, Some, refl, sym, ap, ◌∙◌, subst}
use Rattle.std.specs.Global.{Box}
use Rattle.bal_base.specs.declared.place.Place.{Place}
use Rattle.bal_base.specs.declared.token.TokenKind.TheVariants.{Int as IntKind, Str as StrKind}
use Rattle.bal_base.specs.declared.token.Keyword.TheVariants.{Map as MapKey, Future as FutureKey, Error as ErrorKey, Record as RecordKey, Returns as ReturnsKey, Isolated as IsolatedKey, Function as FunctionKey, True as TrueKey, False as FalseKey, Int as IntKey}
use Rattle.bal_base.specs.declared.token.Sign.TheVariants.{Semicolon, Comma, Ellipsis, Question, Bar, Ampersand, Minus, Less, Greater, Colon, OpenParen, CloseParen, OpenBracket, CloseBracket, OpenBrace, CloseBrace, OpenBraceBar, CloseBraceBar}
use Rattle.bal_tree.specs.declared.name.Literal.{Literal}
use Rattle.bal_tree.specs.declared.name.Literal.TheVariants.{Int, Str, True, False, Nil}
use Rattle.bal_tree.specs.declared.name.Prefix.{Prefix}
use Rattle.bal_tree.specs.declared.name.Prefix.TheVariants.{Word as WordPrefix, Int as IntPrefix}
use Rattle.bal_tree.specs.declared.name.QualifiedName.{QualifiedName}
use Rattle.bal_tree.specs.declared.name.Word.{Word}
use Rattle.bal_tree.specs.declared.types.BuiltinType.{BuiltinType}
use Rattle.bal_tree.specs.declared.types.BuiltinType.TheVariants as builtin
use Rattle.bal_tree.specs.declared.types.IntersectionType.TheOpen as layer
use Rattle.bal_tree.specs.declared.types.IntersectionType.{IntersectionType, IntersectionType-F, roll-IntersectionType, map-IntersectionType}
use Rattle.bal_tree.specs.declared.types.PostfixType.{PostfixType, PostfixType-F, roll-PostfixType, map-PostfixType}
use Rattle.bal_tree.specs.declared.types.PrimaryType.{PrimaryType, PrimaryType-F, roll-PrimaryType, map-PrimaryType}
use Rattle.bal_tree.specs.declared.types.TypeTree.{TypeTree, TypeTree-F, roll-TypeTree, map-TypeTree, ind-TypeTree}
use Rattle.bal_tree.specs.declared.types.FieldTree.{FieldTree, FieldTree-F, roll-FieldTree, map-FieldTree}
use Rattle.bal_tree.specs.declared.types.ParamType.{ParamType, ParamType-F, roll-ParamType, map-ParamType}
use Rattle.bal_tree.specs.declared.types.ParamTypes.{ParamTypes, ParamTypes-F, roll-ParamTypes, map-ParamTypes}
use Rattle.bal_tree.specs.NamePieces.{literal_pieces, name_pieces, prefix_pieces, word_pieces}
use Rattle.bal_tree.specs.Pieces.{Pieces, nothing, token, starts, ◌&◌, key, key_if, sign, sign_if, if_there, if_boxed, joined, separated}
use Rattle.bal_tree.specs.Spells.{onto}
use Rattle.bal_tree.specs.TypeLayers.{of_intersection_type, of_postfix_type, of_primary_type, of_type_tree, of_field_tree, of_param_type, of_param_types}
use Rattle.bal_tree.specs.TypePieces.{writing, as_rest, builtin_key, function_word, in_angles, returning, with_last_boxed, type_pieces, intersection_pieces, postfix_type_pieces, primary_type_pieces, field_pieces, param_type_pieces, param_types_pieces}
use Rattle.token_steps.specs.Tokens.{Kinds}
use Rattle.parse_types.proofs.TypeRolls.{parts_of_intersection_type, parts_of_postfix_type, parts_of_primary_type, parts_of_type_tree, parts_of_field_tree, parts_of_param_type, parts_of_param_types, rolled-intersection_type, rolled-postfix_type, rolled-primary_type, rolled-type_tree, rolled-field_tree, rolled-param_type, rolled-param_types}
use Rattle.parse_stmt.proofs.Calm.{AllDeep, Calm, Deep, brackets, bar_braces, braces, parens, calm-at, calm-both, calm-colon, calm-int, calm-key, calm-nothing, calm-pair, calm-sign, calm-str, calm-word, deep-both, deep-joined, deep-key, deep-nothing, deep-pair, deep-separated, deep-sign, deep-starts, deep-word}
use Rattle.parse_stmt.proofs.Known.{leads}

-- ---- names and literals

-- empty brackets
pub empty-parens : Calm (sign OpenParen & sign CloseParen)
empty-parens = let a = calm-pair OpenParen CloseParen parens nothing deep-nothing in record { passes = record { semicolon = a.passes.semicolon; mark = a.passes.mark }; not_equal = a.not_equal; deep = record { semicolon = a.deep.semicolon; mark = a.deep.mark; shape = a.deep.shape } }

empty-brackets : Calm (sign OpenBracket & sign CloseBracket)
empty-brackets = let a = calm-pair OpenBracket CloseBracket brackets nothing deep-nothing in record { passes = record { semicolon = a.passes.semicolon; mark = a.passes.mark }; not_equal = a.not_equal; deep = record { semicolon = a.deep.semicolon; mark = a.deep.mark; shape = a.deep.shape } }

pub calm-literal : (l : Literal) → Calm (literal_pieces l)
calm-literal (Int value at) = calm-at at (token (IntKind value)) (calm-int value)
calm-literal (Str text at) = calm-at at (token (StrKind text)) (calm-str text)
calm-literal (True at) = calm-at at (key TrueKey) (calm-key TrueKey)
calm-literal (False at) = calm-at at (key FalseKey) (calm-key FalseKey)
calm-literal (Nil at) = calm-at at (sign OpenParen & sign CloseParen) empty-parens

name-at : (prefix : Option Prefix) (w : Word) → Calm (if_there prefix_pieces prefix & word_pieces w)
name-at None w = let a = calm-word w in record { passes = record { semicolon = a.passes.semicolon; mark = a.passes.mark }; not_equal = a.not_equal; deep = record { semicolon = a.deep.semicolon; mark = a.deep.mark; shape = a.deep.shape } }
name-at (Some (WordPrefix p)) w = let a = calm-both (word_pieces p) (sign Colon & word_pieces w) (calm-word p) (calm-colon (word_pieces w) (calm-word w)) in record { passes = record { semicolon = a.passes.semicolon; mark = a.passes.mark }; not_equal = a.not_equal; deep = record { semicolon = a.deep.semicolon; mark = a.deep.mark; shape = a.deep.shape } }
name-at (Some (IntPrefix at)) w = let a = calm-both (key IntKey) (sign Colon & word_pieces w) (calm-key IntKey) (calm-colon (word_pieces w) (calm-word w)) in record { passes = record { semicolon = a.passes.semicolon; mark = a.passes.mark }; not_equal = a.not_equal; deep = record { semicolon = a.deep.semicolon; mark = a.deep.mark; shape = a.deep.shape } }

pub calm-name : (n : QualifiedName) → Calm (name_pieces n)
calm-name n = calm-at n.at (if_there prefix_pieces n.prefix & word_pieces n.word) (name-at n.prefix n.word)

name-leads : (prefix : Option Prefix) (w : Word) (ks : Kinds) → leads (onto (if_there prefix_pieces prefix & word_pieces w) ks) ≡ true
name-leads None w ks = refl
name-leads (Some (WordPrefix p)) w ks = refl
name-leads (Some (IntPrefix at)) w ks = refl

literal-leads : (l : Literal) (ks : Kinds) → leads (onto (literal_pieces l) ks) ≡ true
literal-leads (Int value at) ks = refl
literal-leads (Str text at) ks = refl
literal-leads (True at) ks = refl
literal-leads (False at) ks = refl
literal-leads (Nil at) ks = refl

builtin-leads : (b : BuiltinType) (ks : Kinds) → leads (onto (key (builtin_key b)) ks) ≡ true
builtin-leads builtin.Int ks = refl
builtin-leads builtin.String ks = refl
builtin-leads builtin.Boolean ks = refl
builtin-leads builtin.Byte ks = refl
builtin-leads builtin.Any ks = refl
builtin-leads builtin.AnyData ks = refl
builtin-leads builtin.Never ks = refl
builtin-leads builtin.ReadOnly ks = refl

-- ---- what is claimed

pub record TypeCalm (p : Pieces) : Type 0 where
  pub calm : Calm p
  pub leads : (ks : Kinds) → leads (onto p ks) ≡ true

pub record ParamsCalm (p : Pieces) : Type 0 where
  pub calm : Calm p

abbrev Claim_intersection_type : IntersectionType → Type 0
Claim_intersection_type t = TypeCalm (intersection_pieces t)

abbrev Claim_postfix_type : PostfixType → Type 0
Claim_postfix_type t = TypeCalm (postfix_type_pieces t)

abbrev Claim_primary_type : PrimaryType → Type 0
Claim_primary_type t = TypeCalm (primary_type_pieces t)

abbrev Claim_type_tree : TypeTree → Type 0
Claim_type_tree t = TypeCalm (type_pieces t)

abbrev Claim_field_tree : FieldTree → Type 0
Claim_field_tree t = Deep (field_pieces t)

abbrev Claim_param_type : ParamType → Type 0
Claim_param_type t = Deep (param_type_pieces t)

abbrev Claim_param_types : ParamTypes → Type 0
Claim_param_types t = ParamsCalm (param_types_pieces t)

abbrev AnIntersection : Type 0
AnIntersection = (t : IntersectionType) × Claim_intersection_type t

abbrev APostfix : Type 0
APostfix = (t : PostfixType) × Claim_postfix_type t

abbrev APrimary : Type 0
APrimary = (t : PrimaryType) × Claim_primary_type t

abbrev AType : Type 0
AType = (t : TypeTree) × Claim_type_tree t

abbrev AField : Type 0
AField = (t : FieldTree) × Claim_field_tree t

abbrev AParam : Type 0
AParam = (t : ParamType) × Claim_param_type t

abbrev Params : Type 0
Params = (t : ParamTypes) × Claim_param_types t

-- ---- lists of parts

all-deep : {X : Type 0} (f : X → Pieces) (xs : List ((t : X) × Deep (f t))) → AllDeep (λ p. p) (map f (map (λ e. e.0) xs))
all-deep f [] = tt
all-deep f (x ∷ xs) = (x.1, all-deep f xs)

types-deep : (xs : List AType) → AllDeep (λ p. p) (map type_pieces (map (λ e. e.0) xs))
types-deep [] = tt
types-deep (x ∷ xs) = (x.1.calm.deep, types-deep xs)

one-more : (ps : List Pieces) (p : Pieces) → AllDeep (λ p. p) ps → Deep p → AllDeep (λ p. p) (ps ++ p ∷ [])
one-more [] p all d = (d, tt)
one-more (q ∷ ps) p all d = (all.0, one-more ps p all.1 d)

rest-deep : (t : AType) → Deep (as_rest (type_pieces t.0))
rest-deep t = deep-both (type_pieces t.0) (sign Ellipsis) t.1.calm.deep (deep-sign Ellipsis refl)

angles : (t : AType) → Calm (in_angles (type_pieces t.0))
angles t = calm-both (sign Less) (type_pieces t.0 & sign Greater) (calm-sign Less refl) (calm-both (type_pieces t.0) (sign Greater) t.1.calm (calm-sign Greater refl))

word-calm : (isolated : Bool) → Calm (function_word isolated)
word-calm true = calm-both (key IsolatedKey) (key FunctionKey) (calm-key IsolatedKey) (calm-key FunctionKey)
word-calm false = let a = calm-key FunctionKey in record { passes = record { semicolon = a.passes.semicolon; mark = a.passes.mark }; not_equal = a.not_equal; deep = record { semicolon = a.deep.semicolon; mark = a.deep.mark; shape = a.deep.shape } }

word-leads : (isolated : Bool) (ks : Kinds) → leads (onto (function_word isolated) ks) ≡ true
word-leads true ks = refl
word-leads false ks = refl

-- ---- one layer of a tree, of whose parts it is known

abbrev firsts_of_intersection_type : IntersectionType-F AnIntersection APostfix APrimary AType AField AParam Params → IntersectionType-F IntersectionType PostfixType PrimaryType TypeTree FieldTree ParamType ParamTypes
firsts_of_intersection_type = map-IntersectionType AnIntersection APostfix APrimary AType AField AParam Params IntersectionType PostfixType PrimaryType TypeTree FieldTree ParamType ParamTypes (λ e. e.0) (λ e. e.0) (λ e. e.0) (λ e. e.0) (λ e. e.0) (λ e. e.0) (λ e. e.0)

abbrev Layer_intersection_type : IntersectionType-F AnIntersection APostfix APrimary AType AField AParam Params → Type 0
Layer_intersection_type y = TypeCalm (writing.intersection_type (parts_of_intersection_type writing (firsts_of_intersection_type y)))

abbrev firsts_of_postfix_type : PostfixType-F AnIntersection APostfix APrimary AType AField AParam Params → PostfixType-F IntersectionType PostfixType PrimaryType TypeTree FieldTree ParamType ParamTypes
firsts_of_postfix_type = map-PostfixType AnIntersection APostfix APrimary AType AField AParam Params IntersectionType PostfixType PrimaryType TypeTree FieldTree ParamType ParamTypes (λ e. e.0) (λ e. e.0) (λ e. e.0) (λ e. e.0) (λ e. e.0) (λ e. e.0) (λ e. e.0)

abbrev Layer_postfix_type : PostfixType-F AnIntersection APostfix APrimary AType AField AParam Params → Type 0
Layer_postfix_type y = TypeCalm (writing.postfix_type (parts_of_postfix_type writing (firsts_of_postfix_type y)))

abbrev firsts_of_primary_type : PrimaryType-F AnIntersection APostfix APrimary AType AField AParam Params → PrimaryType-F IntersectionType PostfixType PrimaryType TypeTree FieldTree ParamType ParamTypes
firsts_of_primary_type = map-PrimaryType AnIntersection APostfix APrimary AType AField AParam Params IntersectionType PostfixType PrimaryType TypeTree FieldTree ParamType ParamTypes (λ e. e.0) (λ e. e.0) (λ e. e.0) (λ e. e.0) (λ e. e.0) (λ e. e.0) (λ e. e.0)

abbrev Layer_primary_type : PrimaryType-F AnIntersection APostfix APrimary AType AField AParam Params → Type 0
Layer_primary_type y = TypeCalm (writing.primary_type (parts_of_primary_type writing (firsts_of_primary_type y)))

abbrev firsts_of_type_tree : TypeTree-F AnIntersection APostfix APrimary AType AField AParam Params → TypeTree-F IntersectionType PostfixType PrimaryType TypeTree FieldTree ParamType ParamTypes
firsts_of_type_tree = map-TypeTree AnIntersection APostfix APrimary AType AField AParam Params IntersectionType PostfixType PrimaryType TypeTree FieldTree ParamType ParamTypes (λ e. e.0) (λ e. e.0) (λ e. e.0) (λ e. e.0) (λ e. e.0) (λ e. e.0) (λ e. e.0)

abbrev Layer_type_tree : TypeTree-F AnIntersection APostfix APrimary AType AField AParam Params → Type 0
Layer_type_tree y = TypeCalm (writing.type_tree (parts_of_type_tree writing (firsts_of_type_tree y)))

abbrev firsts_of_field_tree : FieldTree-F AnIntersection APostfix APrimary AType AField AParam Params → FieldTree-F IntersectionType PostfixType PrimaryType TypeTree FieldTree ParamType ParamTypes
firsts_of_field_tree = map-FieldTree AnIntersection APostfix APrimary AType AField AParam Params IntersectionType PostfixType PrimaryType TypeTree FieldTree ParamType ParamTypes (λ e. e.0) (λ e. e.0) (λ e. e.0) (λ e. e.0) (λ e. e.0) (λ e. e.0) (λ e. e.0)

abbrev Layer_field_tree : FieldTree-F AnIntersection APostfix APrimary AType AField AParam Params → Type 0
Layer_field_tree y = Deep (writing.field_tree (parts_of_field_tree writing (firsts_of_field_tree y)))

abbrev firsts_of_param_type : ParamType-F AnIntersection APostfix APrimary AType AField AParam Params → ParamType-F IntersectionType PostfixType PrimaryType TypeTree FieldTree ParamType ParamTypes
firsts_of_param_type = map-ParamType AnIntersection APostfix APrimary AType AField AParam Params IntersectionType PostfixType PrimaryType TypeTree FieldTree ParamType ParamTypes (λ e. e.0) (λ e. e.0) (λ e. e.0) (λ e. e.0) (λ e. e.0) (λ e. e.0) (λ e. e.0)

abbrev Layer_param_type : ParamType-F AnIntersection APostfix APrimary AType AField AParam Params → Type 0
Layer_param_type y = Deep (writing.param_type (parts_of_param_type writing (firsts_of_param_type y)))

abbrev firsts_of_param_types : ParamTypes-F AnIntersection APostfix APrimary AType AField AParam Params → ParamTypes-F IntersectionType PostfixType PrimaryType TypeTree FieldTree ParamType ParamTypes
firsts_of_param_types = map-ParamTypes AnIntersection APostfix APrimary AType AField AParam Params IntersectionType PostfixType PrimaryType TypeTree FieldTree ParamType ParamTypes (λ e. e.0) (λ e. e.0) (λ e. e.0) (λ e. e.0) (λ e. e.0) (λ e. e.0) (λ e. e.0)

abbrev Layer_param_types : ParamTypes-F AnIntersection APostfix APrimary AType AField AParam Params → Type 0
Layer_param_types y = ParamsCalm (writing.param_types (parts_of_param_types writing (firsts_of_param_types y)))

type_tree-layer : (y : TypeTree-F AnIntersection APostfix APrimary AType AField AParam Params) → Layer_type_tree y
type_tree-layer (layer.Intersection t) = record { calm = t.1.calm; leads = t.1.leads }
type_tree-layer (layer.Union left right at) =
    let q = sign Bar & intersection_pieces right.value.0 in
    record {
      calm = calm-at at (type_pieces left.value.0 & q) (calm-both (type_pieces left.value.0) q left.value.1.calm (calm-both (sign Bar) (intersection_pieces right.value.0) (calm-sign Bar refl) right.value.1.calm));
      leads = λ ks. left.value.1.leads (onto q ks);
    }

intersection_type-layer : (y : IntersectionType-F AnIntersection APostfix APrimary AType AField AParam Params) → Layer_intersection_type y
intersection_type-layer (layer.Postfix t) = record { calm = t.1.calm; leads = t.1.leads }
intersection_type-layer (layer.Both left right at) =
    let q = sign Ampersand & postfix_type_pieces right.value.0 in
    record {
      calm = calm-at at (intersection_pieces left.value.0 & q) (calm-both (intersection_pieces left.value.0) q left.value.1.calm (calm-both (sign Ampersand) (postfix_type_pieces right.value.0) (calm-sign Ampersand refl) right.value.1.calm));
      leads = λ ks. left.value.1.leads (onto q ks);
    }

suffixed : (at : Place) (t : APostfix) (q : Pieces) → Calm q → TypeCalm (starts at & postfix_type_pieces t.0 & q)
suffixed at t q c = record { calm = calm-at at (postfix_type_pieces t.0 & q) (calm-both (postfix_type_pieces t.0) q t.1.calm c); leads = λ ks. t.1.leads (onto q ks) }

postfix_type-layer : (y : PostfixType-F AnIntersection APostfix APrimary AType AField AParam Params) → Layer_postfix_type y
postfix_type-layer (layer.Primary t) = record { calm = t.1.calm; leads = t.1.leads }
postfix_type-layer (layer.Optional of at) = let s = suffixed at of.value (sign Question) (calm-sign Question refl) in record { calm = s.calm; leads = s.leads }
postfix_type-layer (layer.Array member at) = let s = suffixed at member.value (sign OpenBracket & sign CloseBracket) empty-brackets in record { calm = s.calm; leads = s.leads }
postfix_type-layer (layer.FixedArray member i at) = let s = suffixed at member.value (sign OpenBracket & token (IntKind i) & sign CloseBracket) (calm-pair OpenBracket CloseBracket brackets (token (IntKind i)) (calm-int i).deep) in record { calm = s.calm; leads = s.leads }

primary_type-layer : (y : PrimaryType-F AnIntersection APostfix APrimary AType AField AParam Params) → Layer_primary_type y
primary_type-layer (layer.Builtin b at) = record { calm = calm-at at (key (builtin_key b)) (calm-key (builtin_key b)); leads = builtin-leads b }
primary_type-layer (layer.Literal l) = record { calm = calm-literal l; leads = literal-leads l }
primary_type-layer (layer.Negative i at) = record { calm = calm-at at (sign Minus & token (IntKind i)) (calm-both (sign Minus) (token (IntKind i)) (calm-sign Minus refl) (calm-int i)); leads = λ ks. refl }
primary_type-layer (layer.Parens inner at) = record { calm = calm-at at (sign OpenParen & type_pieces inner.value.0 & sign CloseParen) (calm-pair OpenParen CloseParen parens (type_pieces inner.value.0) inner.value.1.calm.deep); leads = λ ks. refl }
primary_type-layer (layer.Name n) = record { calm = calm-name n; leads = name-leads n.prefix n.word }
primary_type-layer (layer.Map member at) = record { calm = calm-at at (key MapKey & in_angles (type_pieces member.value.0)) (calm-both (key MapKey) (in_angles (type_pieces member.value.0)) (calm-key MapKey) (angles member.value)); leads = λ ks. refl }
primary_type-layer (layer.Future result at) = record { calm = calm-at at (key FutureKey & in_angles (type_pieces result.value.0)) (calm-both (key FutureKey) (in_angles (type_pieces result.value.0)) (calm-key FutureKey) (angles result.value)); leads = λ ks. refl }
primary_type-layer (layer.Error None at) = record { calm = calm-at at (key ErrorKey & nothing) (calm-nothing (key ErrorKey) (calm-key ErrorKey)); leads = λ ks. refl }
primary_type-layer (layer.Error (Some detail) at) = record { calm = calm-at at (key ErrorKey & in_angles (type_pieces detail.value.0)) (calm-both (key ErrorKey) (in_angles (type_pieces detail.value.0)) (calm-key ErrorKey) (angles detail.value)); leads = λ ks. refl }
primary_type-layer (layer.Tuple members None at) =
    let q = separated Comma (map type_pieces (map (λ e. e.0) members.items)) in
    record { calm = calm-at at (sign OpenBracket & q & sign CloseBracket) (calm-pair OpenBracket CloseBracket brackets q (deep-separated Comma refl (map type_pieces (map (λ e. e.0) members.items)) (types-deep members.items))); leads = λ ks. refl }
primary_type-layer (layer.Tuple members (Some rest) at) =
    let ps = map type_pieces (map (λ e. e.0) members.items) ++ as_rest (type_pieces rest.value.0) ∷ [] in
    record { calm = calm-at at (sign OpenBracket & separated Comma ps & sign CloseBracket) (calm-pair OpenBracket CloseBracket brackets (separated Comma ps) (deep-separated Comma refl ps (one-more (map type_pieces (map (λ e. e.0) members.items)) (as_rest (type_pieces rest.value.0)) (types-deep members.items) (rest-deep rest.value)))); leads = λ ks. refl }
primary_type-layer (layer.ClosedRecord fields None at) =
    let q = joined (map field_pieces (map (λ e. e.0) fields.items)) & nothing in
    let d = deep-both (joined (map field_pieces (map (λ e. e.0) fields.items))) nothing (deep-joined (map field_pieces (map (λ e. e.0) fields.items)) (all-deep field_pieces fields.items)) deep-nothing in
    let a = calm-both (key RecordKey) (sign OpenBraceBar & q & sign CloseBraceBar) (calm-key RecordKey) (calm-pair OpenBraceBar CloseBraceBar bar_braces q d) in
    record { calm = record { passes = record { semicolon = a.passes.semicolon; mark = a.passes.mark }; not_equal = a.not_equal; deep = record { semicolon = a.deep.semicolon; mark = λ j e ks. a.deep.mark j e ks; shape = a.deep.shape } }; leads = λ ks. refl }
primary_type-layer (layer.ClosedRecord fields (Some rest) at) =
    let r = as_rest (type_pieces rest.value.0) & sign Semicolon in
    let q = joined (map field_pieces (map (λ e. e.0) fields.items)) & r in
    let d = deep-both (joined (map field_pieces (map (λ e. e.0) fields.items))) r (deep-joined (map field_pieces (map (λ e. e.0) fields.items)) (all-deep field_pieces fields.items)) (deep-both (as_rest (type_pieces rest.value.0)) (sign Semicolon) (rest-deep rest.value) (deep-sign Semicolon refl)) in
    let a = calm-both (key RecordKey) (sign OpenBraceBar & q & sign CloseBraceBar) (calm-key RecordKey) (calm-pair OpenBraceBar CloseBraceBar bar_braces q d) in
    record { calm = record { passes = record { semicolon = a.passes.semicolon; mark = a.passes.mark }; not_equal = a.not_equal; deep = record { semicolon = a.deep.semicolon; mark = λ j e ks. a.deep.mark j e ks; shape = a.deep.shape } }; leads = λ ks. refl }
primary_type-layer (layer.OpenRecord fields at) =
    let q = joined (map field_pieces (map (λ e. e.0) fields.items)) in
    let d = deep-joined (map field_pieces (map (λ e. e.0) fields.items)) (all-deep field_pieces fields.items) in
    record { calm = calm-at at (key RecordKey & sign OpenBrace & q & sign CloseBrace) (calm-both (key RecordKey) (sign OpenBrace & q & sign CloseBrace) (calm-key RecordKey) (calm-pair OpenBrace CloseBrace braces q d)); leads = λ ks. refl }
primary_type-layer (layer.AnyFunction isolated at) = record { calm = calm-at at (function_word isolated) (word-calm isolated); leads = word-leads isolated }
primary_type-layer (layer.Function isolated params None at) =
    let p = param_types_pieces params.0 in
    record { calm = calm-at at (function_word isolated & p & nothing) (calm-both (function_word isolated) (p & nothing) (word-calm isolated) (calm-nothing p params.1.calm)); leads = λ ks. word-leads isolated (onto p ks) }
primary_type-layer (layer.Function isolated params (Some result) at) =
    let p = param_types_pieces params.0 in
    let q = returning (type_pieces result.value.0) in
    record {
      calm = calm-at at (function_word isolated & p & q) (calm-both (function_word isolated) (p & q) (word-calm isolated) (calm-both p q params.1.calm (calm-both (key ReturnsKey) (type_pieces result.value.0) (calm-key ReturnsKey) result.value.1.calm)));
      leads = λ ks. word-leads isolated (onto (p & q) ks);
    }

optional : (b : Bool) → Deep (sign_if b Question)
optional true = deep-sign Question refl
optional false = deep-nothing

named : (name : Option Word) → Deep (if_there word_pieces name)
named None = deep-nothing
named (Some w) = deep-word w

field_tree-layer : (y : FieldTree-F AnIntersection APostfix APrimary AType AField AParam Params) → Layer_field_tree y
field_tree-layer y =
    let p = type_pieces y.ty.value.0 in
    let q = word_pieces y.name & sign_if y.optional Question & sign Semicolon in
    let d = deep-both (starts y.at) (p & q) (deep-starts y.at) (deep-both p q y.ty.value.1.calm.deep (deep-both (word_pieces y.name) (sign_if y.optional Question & sign Semicolon) (deep-word y.name) (deep-both (sign_if y.optional Question) (sign Semicolon) (optional y.optional) (deep-sign Semicolon refl)))) in
    record { semicolon = d.semicolon; mark = d.mark; shape = d.shape }

param_type-layer : (y : ParamType-F AnIntersection APostfix APrimary AType AField AParam Params) → Layer_param_type y
param_type-layer y =
    let p = type_pieces y.ty.value.0 in
    let d = deep-both (starts y.at) (p & if_there word_pieces y.name) (deep-starts y.at) (deep-both p (if_there word_pieces y.name) y.ty.value.1.calm.deep (named y.name)) in
    record { semicolon = d.semicolon; mark = d.mark; shape = d.shape }

param_types-layer : (y : ParamTypes-F AnIntersection APostfix APrimary AType AField AParam Params) → Layer_param_types y
param_types-layer y = of_rest y.rest
  where
    of_rest : (rest : Option (Box AType)) → ParamsCalm (writing.param_types (parts_of_param_types writing (firsts_of_param_types record { params = y.params; rest = rest })))
    of_rest None = let ps = map param_type_pieces (map (λ e. e.0) y.params.items) in record { calm = calm-pair OpenParen CloseParen parens (separated Comma ps) (deep-separated Comma refl ps (all-deep param_type_pieces y.params.items)) }
    of_rest (Some rest) =
        let ps = map param_type_pieces (map (λ e. e.0) y.params.items) ++ as_rest (type_pieces rest.value.0) ∷ [] in
        record { calm = calm-pair OpenParen CloseParen parens (separated Comma ps) (deep-separated Comma refl ps (one-more (map param_type_pieces (map (λ e. e.0) y.params.items)) (as_rest (type_pieces rest.value.0)) (all-deep param_type_pieces y.params.items) (rest-deep rest.value))) }

-- ---- the whole

intersection_type-step : (x : IntersectionType-F IntersectionType PostfixType PrimaryType TypeTree FieldTree ParamType ParamTypes) (y : IntersectionType-F AnIntersection APostfix APrimary AType AField AParam Params) → firsts_of_intersection_type y ≡ x → Claim_intersection_type (roll-IntersectionType x)
intersection_type-step x y is = subst (λ z. Claim_intersection_type (roll-IntersectionType z)) is (subst TypeCalm (sym (rolled-intersection_type writing (firsts_of_intersection_type y))) (intersection_type-layer y))

postfix_type-step : (x : PostfixType-F IntersectionType PostfixType PrimaryType TypeTree FieldTree ParamType ParamTypes) (y : PostfixType-F AnIntersection APostfix APrimary AType AField AParam Params) → firsts_of_postfix_type y ≡ x → Claim_postfix_type (roll-PostfixType x)
postfix_type-step x y is = subst (λ z. Claim_postfix_type (roll-PostfixType z)) is (subst TypeCalm (sym (rolled-postfix_type writing (firsts_of_postfix_type y))) (postfix_type-layer y))

primary_type-step : (x : PrimaryType-F IntersectionType PostfixType PrimaryType TypeTree FieldTree ParamType ParamTypes) (y : PrimaryType-F AnIntersection APostfix APrimary AType AField AParam Params) → firsts_of_primary_type y ≡ x → Claim_primary_type (roll-PrimaryType x)
primary_type-step x y is = subst (λ z. Claim_primary_type (roll-PrimaryType z)) is (subst TypeCalm (sym (rolled-primary_type writing (firsts_of_primary_type y))) (primary_type-layer y))

type_tree-step : (x : TypeTree-F IntersectionType PostfixType PrimaryType TypeTree FieldTree ParamType ParamTypes) (y : TypeTree-F AnIntersection APostfix APrimary AType AField AParam Params) → firsts_of_type_tree y ≡ x → Claim_type_tree (roll-TypeTree x)
type_tree-step x y is = subst (λ z. Claim_type_tree (roll-TypeTree z)) is (subst TypeCalm (sym (rolled-type_tree writing (firsts_of_type_tree y))) (type_tree-layer y))

field_tree-step : (x : FieldTree-F IntersectionType PostfixType PrimaryType TypeTree FieldTree ParamType ParamTypes) (y : FieldTree-F AnIntersection APostfix APrimary AType AField AParam Params) → firsts_of_field_tree y ≡ x → Claim_field_tree (roll-FieldTree x)
field_tree-step x y is = subst (λ z. Claim_field_tree (roll-FieldTree z)) is (subst Deep (sym (rolled-field_tree writing (firsts_of_field_tree y))) (field_tree-layer y))

param_type-step : (x : ParamType-F IntersectionType PostfixType PrimaryType TypeTree FieldTree ParamType ParamTypes) (y : ParamType-F AnIntersection APostfix APrimary AType AField AParam Params) → firsts_of_param_type y ≡ x → Claim_param_type (roll-ParamType x)
param_type-step x y is = subst (λ z. Claim_param_type (roll-ParamType z)) is (subst Deep (sym (rolled-param_type writing (firsts_of_param_type y))) (param_type-layer y))

param_types-step : (x : ParamTypes-F IntersectionType PostfixType PrimaryType TypeTree FieldTree ParamType ParamTypes) (y : ParamTypes-F AnIntersection APostfix APrimary AType AField AParam Params) → firsts_of_param_types y ≡ x → Claim_param_types (roll-ParamTypes x)
param_types-step x y is = subst (λ z. Claim_param_types (roll-ParamTypes z)) is (subst ParamsCalm (sym (rolled-param_types writing (firsts_of_param_types y))) (param_types-layer y))

pub type-calm : (t : TypeTree) → TypeCalm (type_pieces t)
type-calm = ind-TypeTree Claim_intersection_type Claim_postfix_type Claim_primary_type Claim_type_tree Claim_field_tree Claim_param_type Claim_param_types intersection_type-step postfix_type-step primary_type-step type_tree-step field_tree-step param_type-step param_types-step
