-- Two types of the same tokens are alike: each form of a primary type, and all by induction on the first.
use Rattle.std.proofs.Common.{◌≡◌, ℕ, Bool, true, false, ◌&&◌, List, [], ◌∷◌, ◌++◌, map, Option, None, Some, refl, sym, ap, ◌∙◌, subst, eq-eqb}
use Rattle.std.specs.Global.{Box}
use Rattle.std.specs.List.{list_all}
use Rattle.std.specs.Prelude.{◌==◌}
use Rattle.std.proofs.lemmas.Bool.{false≢true}
use Rattle.std.proofs.lemmas.List.{append-nil}
use Rattle.bal_base.specs.declared.token.TokenKind.TheVariants.{Word as WordKind, Keyword as KeywordKind, Int as IntKind, Str as StrKind, Sign as SignKind}
use Rattle.bal_base.specs.declared.token.Keyword.TheVariants.{Int as IntKey, String as StringKey, Boolean as BooleanKey, Byte as ByteKey, Any as AnyKey, AnyData as AnyDataKey, Never as NeverKey, ReadOnly as ReadOnlyKey, True as TrueKey, False as FalseKey, Map as MapKey, Future as FutureKey, Error as ErrorKey, Record as RecordKey, Function as FunctionKey, Isolated as IsolatedKey, Returns}
use Rattle.bal_base.specs.declared.token.Sign.{Sign}
use Rattle.bal_base.specs.declared.token.Sign.TheVariants.{Colon, Minus, OpenParen, CloseParen, OpenBracket, CloseBracket, CloseBrace, OpenBraceBar, CloseBraceBar, Comma, Ellipsis, Less, Greater, Semicolon}
use Rattle.bal_tree.specs.declared.name.ConstValue.TheVariants.{Literal as LiteralValue}
use Rattle.bal_tree.specs.declared.name.Literal.TheVariants.{Int as IntLiteral, Str as StrLiteral, True as TrueLiteral, False as FalseLiteral, Nil as NilLiteral}
use Rattle.bal_tree.specs.declared.name.Prefix.{Prefix}
use Rattle.bal_tree.specs.declared.name.Prefix.TheVariants.{Word as WordPrefix, Int as IntPrefix}
use Rattle.bal_tree.specs.declared.name.QualifiedName.{QualifiedName}
use Rattle.bal_tree.specs.declared.name.Word.{Word}
use Rattle.bal_tree.specs.declared.types.BuiltinType.TheVariants.{Int, String, Boolean, Byte, Any, AnyData, Never, ReadOnly}
use Rattle.bal_tree.specs.declared.types.FieldTree.{FieldTree}
use Rattle.bal_tree.specs.declared.types.IntersectionType.{IntersectionType}
use Rattle.bal_tree.specs.declared.types.IntersectionType.TheOpen as layer
use Rattle.bal_tree.specs.declared.types.ParamType.{ParamType}
use Rattle.bal_tree.specs.declared.types.ParamTypes.{ParamTypes, ParamTypes-F, roll-ParamTypes, map-ParamTypes, out-ParamTypes, roll-out-ParamTypes}
use Rattle.bal_tree.specs.declared.types.PostfixType.{PostfixType}
use Rattle.bal_tree.specs.declared.types.PrimaryType.{PrimaryType, PrimaryType-F, roll-PrimaryType, map-PrimaryType, out-PrimaryType, roll-out-PrimaryType}
use Rattle.bal_tree.specs.declared.types.TypeTree.{TypeTree, ind-TypeTree}
use Rattle.bal_tree.specs.NamePieces.{name_pieces}
use Rattle.bal_tree.specs.Parts.{Part, inside as inside_part, each_inside}
use Rattle.bal_tree.specs.Pieces.{joined, kinds, separated}
use Rattle.bal_tree.specs.Spells.{onto}
use Rattle.bal_tree.specs.TypeLayers.{of_field_tree}
use Rattle.bal_tree.specs.TypePieces.{builtin_key, field_pieces, function_word, type_pieces, writing}
use Rattle.bal_tree.specs.TypeRules.{TypeEnd, TypeFacts, facts, name_fits, part_is_formed, type_is_formed}
use Rattle.parse_types.specs.Reaches.{colon_word, sign_type}
use Rattle.token_steps.specs.Tokens.{Kinds, take_key, take_sign}
use Rattle.parse_types.proofs.Follows.{Ends, Stays}
use Rattle.bal_tree.proofs.Spelling.{onto-kinds}
use Rattle.parse_types.proofs.Law.{both_pass}
use Rattle.parse_types.proofs.ListLaw.{ellipsis-closes}
use Rattle.parse_types.proofs.PrimaryLaw.{greater-closes, paren-closes}
use Rattle.parse_types.proofs.TypeRolls.{parts_of_param_types, parts_of_primary_type, rolled-param_types, rolled-primary_type}
use Rattle.parse_stmt.proofs.Alike.{Alike, Same, behind_first, first-token}
use Rattle.parse_stmt.proofs.PartTree.{const-same, name-same, name_at}
use Rattle.parse_stmt.proofs.TypeSpines.{After, AfterType, OneIntersection, OnePostfix, OnePrimary, OneType, Pair, Told, intersection-step, one-intersection, one-postfix, one-type, postfix-step, told_primary, told_type, type-step}
use Rattle.parse_stmt.proofs.TypeTrees.{AField, AParam, AType, Anything, ItemEnds, QA, QF, QI, QP, QS, QT, bracket-ends, field-no-first, field-step, firsts, last_pieces, listed, no-first, rest_parts, param-no-first, param-step, paren-ends, rest-no-field, rest-no-param, semicolon-closes, told_field, told_param, told_params, type-then}

-- ---- the parameters of a function type

abbrev LayerOfParams : Type 0
LayerOfParams = ParamTypes-F IntersectionType PostfixType PrimaryType TypeTree FieldTree ParamType ParamTypes

abbrev APrimary : Type 0
APrimary = (t : PrimaryType) × OnePrimary t

abbrev SomeParams : Type 0
SomeParams = (t : ParamTypes) × QS t

abbrev KnownParams : Type 0
KnownParams = ParamTypes-F ((t : IntersectionType) × QI t) ((t : PostfixType) × QP t) APrimary AType AField AParam SomeParams

abbrev layer_params : LayerOfParams → Told
layer_params x = record { facts = facts.param_types (parts_of_param_types facts x); pieces = writing.param_types (parts_of_param_types writing x) }

told-params : (x : LayerOfParams) → told_params (roll-ParamTypes x) ≡ layer_params x
told-params x = λ i. record { facts = rolled-param_types facts x i; pieces = rolled-param_types writing x i }

abbrev firsts_of_params : KnownParams → LayerOfParams
firsts_of_params = map-ParamTypes ((t : IntersectionType) × QI t) ((t : PostfixType) × QP t) APrimary AType AField AParam SomeParams IntersectionType PostfixType PrimaryType TypeTree FieldTree ParamType ParamTypes (λ e. e.0) (λ e. e.0) (λ e. e.0) (λ e. e.0) (λ e. e.0) (λ e. e.0) (λ e. e.0)

params-listed : (middle : Bool) (xs : List ((t : ParamType) × QA t)) (m : Option (Box AType)) (us : List ParamType) (n : Option (Box TypeTree)) (ks ls : Kinds) → list_all (part_is_formed middle) (each_inside (map (λ t. (told_param t).facts) (map (λ e. e.0) xs)) ++ rest_parts (firsts told_param QA m)) ≡ true → list_all (part_is_formed middle) (each_inside (map (λ t. (told_param t).facts) us) ++ rest_parts n) ≡ true → onto (separated Comma (last_pieces (map (λ t. (told_param t).pieces) (map (λ e. e.0) xs)) (firsts told_param QA m))) (SignKind CloseParen ∷ ks) ≡ onto (separated Comma (last_pieces (map (λ t. (told_param t).pieces) us) n)) (SignKind CloseParen ∷ ls) → Same (separated Comma (last_pieces (map (λ t. (told_param t).pieces) (map (λ e. e.0) xs)) (firsts told_param QA m))) (separated Comma (last_pieces (map (λ t. (told_param t).pieces) us) n)) (SignKind CloseParen ∷ ks) (SignKind CloseParen ∷ ls)
params-listed =
    listed told_param QA CloseParen (λ ks ls e. cc e) paren-ends (λ i m zs. refl) (λ x q y ks ls f g h k e. q.0 y false ks ls f g h k e) (λ x q u ks zs f g w e. q.1 false u ks zs f g w e)
    (λ t q y ks zs f g w e. rest-no-param t q y false ks zs f g w e) (λ y ks zs f w e. param-no-first CloseParen y false ks zs (λ i m. refl) f w e)

params-pair : (y : KnownParams) (x : LayerOfParams) → Pair Anything (layer_params (firsts_of_params y)) (layer_params x)
params-pair y x = by y.rest x.rest
  where
    by : (m : Option (Box AType)) (n : Option (Box TypeTree)) → Pair Anything (layer_params (firsts_of_params record { params = y.params; rest = m })) (layer_params record { params = x.params; rest = n })
    by None None middle ks ls f g h k e = let s = params-listed middle y.params.items None x.params.items None ks ls f g (ap behind_first e) in ((refl, (s.0, refl)), ap behind_first s.1)
    by None (Some n) middle ks ls f g h k e = let s = params-listed middle y.params.items None x.params.items (Some n) ks ls f g (ap behind_first e) in ((refl, (s.0, refl)), ap behind_first s.1)
    by (Some m) None middle ks ls f g h k e = let s = params-listed middle y.params.items (Some m) x.params.items None ks ls f g (ap behind_first e) in ((refl, (s.0, refl)), ap behind_first s.1)
    by (Some m) (Some n) middle ks ls f g h k e = let s = params-listed middle y.params.items (Some m) x.params.items (Some n) ks ls f g (ap behind_first e) in ((refl, (s.0, refl)), ap behind_first s.1)

params-step : (x : LayerOfParams) (y : KnownParams) → firsts_of_params y ≡ x → QS (roll-ParamTypes x)
params-step x y is =
    λ u. subst (λ v. Pair Anything (told_params (roll-ParamTypes x)) (told_params v)) (roll-out-ParamTypes u)
    (subst (λ a. Pair Anything a (told_params (roll-ParamTypes (out-ParamTypes u)))) (sym (told-params x)) (subst (λ b. Pair Anything (layer_params x) b) (sym (told-params (out-ParamTypes u))) (subst (λ z. Pair Anything (layer_params z) (layer_params (out-ParamTypes u))) is (params-pair y (out-ParamTypes u)))))

-- ---- tuples

tuple-listed : (middle : Bool) (xs : List ((t : TypeTree) × QT t)) (m : Option (Box AType)) (us : List TypeTree) (n : Option (Box TypeTree)) (ks ls : Kinds) → list_all (part_is_formed middle) (each_inside (map (λ t. (told_type t).facts) (map (λ e. e.0) xs)) ++ rest_parts (firsts told_type QT m)) ≡ true → list_all (part_is_formed middle) (each_inside (map (λ t. (told_type t).facts) us) ++ rest_parts n) ≡ true → onto (separated Comma (last_pieces (map (λ t. (told_type t).pieces) (map (λ e. e.0) xs)) (firsts told_type QT m))) (SignKind CloseBracket ∷ ks) ≡ onto (separated Comma (last_pieces (map (λ t. (told_type t).pieces) us) n)) (SignKind CloseBracket ∷ ls) → Same (separated Comma (last_pieces (map (λ t. (told_type t).pieces) (map (λ e. e.0) xs)) (firsts told_type QT m))) (separated Comma (last_pieces (map (λ t. (told_type t).pieces) us) n)) (SignKind CloseBracket ∷ ks) (SignKind CloseBracket ∷ ls)
tuple-listed =
    listed told_type QT CloseBracket (λ ks ls e. cc e) bracket-ends (λ i m zs. refl) (λ x q y ks ls f g h k e. type-then x y false ks ls q f g h.closes k.closes e)
    (λ x q u ks zs f g w e. no-ellipsis ks zs w (type-then x u false ks (SignKind Ellipsis ∷ zs) q f g w.closes (ellipsis-closes zs) e).1)
    (λ t q y ks zs f g w e. no-ellipsis ks zs w (sym (type-then t y false (SignKind Ellipsis ∷ zs) ks q f g (ellipsis-closes zs) w.closes e).1))
    (λ y ks zs f w e. no-first CloseBracket y false ks zs (λ i m. refl) f w.closes e)
  where
    no-ellipsis : (ks zs : Kinds) → ItemEnds ks → ks ≡ SignKind Ellipsis ∷ zs → ⊥
    no-ellipsis ks zs w e = let bad : None ≡ Some zs = sym w.no_ellipsis ∙ ap (take_sign Ellipsis) e in cc bad

-- ---- records

-- fields, and behind them what begins no field
fields-same : (middle : Bool) (xs : List AField) (us : List FieldTree) (p q : List (Part TypeFacts)) (ks ls : Kinds)
    → ((u : FieldTree) (zs : Kinds) → (told_field u).facts.is_formed false ≡ true → list_all (part_is_formed middle) p ≡ true → ks ≡ onto (told_field u).pieces zs → ⊥)
    → ((x : AField) (zs : Kinds) → (told_field x.0).facts.is_formed false ≡ true → list_all (part_is_formed middle) q ≡ true → onto (told_field x.0).pieces zs ≡ ls → ⊥)
    → list_all (part_is_formed middle) (each_inside (map (of_field_tree facts) (map (λ e. e.0) xs)) ++ p) ≡ true → list_all (part_is_formed middle) (each_inside (map (of_field_tree facts) us) ++ q) ≡ true
    → onto (joined (map field_pieces (map (λ e. e.0) xs))) ks ≡ onto (joined (map field_pieces us)) ls
    → Same (joined (map field_pieces (map (λ e. e.0) xs))) (joined (map field_pieces us)) ks ls × ((list_all (part_is_formed middle) p ≡ true) × (list_all (part_is_formed middle) q ≡ true))
fields-same middle [] [] p q ks ls no-u no-x f g e = ((tt, e), (f, g))
fields-same middle [] (u ∷ us) p q ks ls no-u no-x f g e =
    let b = both_pass ((told_field u).facts.is_formed false) (list_all (part_is_formed middle) (each_inside (map (of_field_tree facts) us) ++ q)) g in
    absurd (no-u u (onto (joined (map field_pieces us)) ls) b.0 f e)
fields-same middle (x ∷ xs) [] p q ks ls no-u no-x f g e =
    let a = both_pass ((told_field x.0).facts.is_formed false) (list_all (part_is_formed middle) (each_inside (map (of_field_tree facts) (map (λ e. e.0) xs)) ++ p)) f in
    absurd (no-x x (onto (joined (map field_pieces (map (λ e. e.0) xs))) ks) a.0 g e)
fields-same middle (x ∷ xs) (u ∷ us) p q ks ls no-u no-x f g e =
    let a = both_pass ((told_field x.0).facts.is_formed false) (list_all (part_is_formed middle) (each_inside (map (of_field_tree facts) (map (λ e. e.0) xs)) ++ p)) f in
    let b = both_pass ((told_field u).facts.is_formed false) (list_all (part_is_formed middle) (each_inside (map (of_field_tree facts) us) ++ q)) g in
    let s = x.1.0 u false (onto (joined (map field_pieces (map (λ e. e.0) xs))) ks) (onto (joined (map field_pieces us)) ls) a.0 b.0 tt tt e in
    let more = fields-same middle xs us p q ks ls no-u no-x a.1 b.1 s.1 in
    (((s.0, more.0.0), more.0.1), more.1)

-- ---- primary types, told by their first tokens

abbrev LayerOfPrimary : Type 0
LayerOfPrimary = PrimaryType-F IntersectionType PostfixType PrimaryType TypeTree FieldTree ParamType ParamTypes

abbrev KnownPrimary : Type 0
KnownPrimary = PrimaryType-F ((t : IntersectionType) × QI t) ((t : PostfixType) × QP t) APrimary AType AField AParam SomeParams

abbrev layer_primary : LayerOfPrimary → Told
layer_primary x = record { facts = facts.primary_type (parts_of_primary_type facts x); pieces = writing.primary_type (parts_of_primary_type writing x) }

told-primary : (x : LayerOfPrimary) → told_primary (roll-PrimaryType x) ≡ layer_primary x
told-primary x = λ i. record { facts = rolled-primary_type facts x i; pieces = rolled-primary_type writing x i }

abbrev firsts_of_primary : KnownPrimary → LayerOfPrimary
firsts_of_primary = map-PrimaryType ((t : IntersectionType) × QI t) ((t : PostfixType) × QP t) APrimary AType AField AParam SomeParams IntersectionType PostfixType PrimaryType TypeTree FieldTree ParamType ParamTypes (λ e. e.0) (λ e. e.0) (λ e. e.0) (λ e. e.0) (λ e. e.0) (λ e. e.0) (λ e. e.0)

abbrev tag_of : Kinds → ℕ
tag_of [] = 0
tag_of (WordKind w ∷ ks) = 1
tag_of (IntKind i ∷ ks) = 3
tag_of (StrKind t ∷ ks) = 3
tag_of (SignKind Minus ∷ ks) = 4
tag_of (SignKind OpenParen ∷ SignKind CloseParen ∷ ks) = 3
tag_of (SignKind OpenParen ∷ ks) = 5
tag_of (SignKind OpenBracket ∷ ks) = 6
tag_of (SignKind s ∷ ks) = 0
tag_of (KeywordKind IntKey ∷ SignKind Colon ∷ WordKind w ∷ ks) = 1
tag_of (KeywordKind IntKey ∷ ks) = 2
tag_of (KeywordKind StringKey ∷ ks) = 2
tag_of (KeywordKind BooleanKey ∷ ks) = 2
tag_of (KeywordKind ByteKey ∷ ks) = 2
tag_of (KeywordKind AnyKey ∷ ks) = 2
tag_of (KeywordKind AnyDataKey ∷ ks) = 2
tag_of (KeywordKind NeverKey ∷ ks) = 2
tag_of (KeywordKind ReadOnlyKey ∷ ks) = 2
tag_of (KeywordKind TrueKey ∷ ks) = 3
tag_of (KeywordKind FalseKey ∷ ks) = 3
tag_of (KeywordKind MapKey ∷ ks) = 7
tag_of (KeywordKind FutureKey ∷ ks) = 8
tag_of (KeywordKind ErrorKey ∷ ks) = 9
tag_of (KeywordKind RecordKey ∷ SignKind OpenBraceBar ∷ ks) = 10
tag_of (KeywordKind RecordKey ∷ ks) = 11
tag_of (KeywordKind FunctionKey ∷ ks) = 12
tag_of (KeywordKind IsolatedKey ∷ ks) = 12
tag_of (KeywordKind k ∷ ks) = 0

abbrev tag : LayerOfPrimary → ℕ
tag (layer.Builtin b at) = 2
tag (layer.Literal l) = 3
tag (layer.Negative i at) = 4
tag (layer.Parens inner at) = 5
tag (layer.Name n) = 1
tag (layer.Map member at) = 7
tag (layer.Future result at) = 8
tag (layer.Error detail at) = 9
tag (layer.Tuple members rest at) = 6
tag (layer.ClosedRecord fields rest at) = 10
tag (layer.OpenRecord fields at) = 11
tag (layer.AnyFunction isolated at) = 12
tag (layer.Function isolated params result at) = 12

int-tag : (ks : Kinds) → colon_word ks ≡ None → tag_of (KeywordKind IntKey ∷ ks) ≡ 2
int-tag [] h = refl
int-tag (SignKind Colon ∷ WordKind w ∷ ks) h = cc h
int-tag (SignKind Colon ∷ []) h = refl
int-tag (SignKind Colon ∷ k ∷ ks) h = refl
int-tag (SignKind s ∷ ks) h = refl
int-tag (k ∷ ks) h = refl

paren-tag : (xs : Kinds) → ((zs : Kinds) → SignKind CloseParen ∷ zs ≡ xs → ⊥) → tag_of (SignKind OpenParen ∷ xs) ≡ 5
paren-tag [] h = refl
paren-tag (SignKind CloseParen ∷ xs) h = absurd (h xs refl)
paren-tag (SignKind s ∷ xs) h = refl
paren-tag (k ∷ xs) h = refl

name-tag : (p : Option Prefix) (w : Word) (ks : Kinds) → tag_of (onto (name_at p w) ks) ≡ 1
name-tag None w ks = refl
name-tag (Some (WordPrefix v)) w ks = refl
name-tag (Some (IntPrefix at)) w ks = refl

function-tag : (isolated : Bool) (ks : Kinds) → tag_of (onto (function_word isolated) ks) ≡ 12
function-tag true ks = refl
function-tag false ks = refl

primary-tag : (x : LayerOfPrimary) (middle : Bool) (ks : Kinds) → (layer_primary x).facts.is_formed middle ≡ true → After middle (layer_primary x).facts.end ks → tag_of (onto (layer_primary x).pieces ks) ≡ tag x
primary-tag (layer.Builtin Int at) middle ks f h = int-tag ks (h.stays.int_colon refl)
primary-tag (layer.Builtin String at) middle ks f h = refl
primary-tag (layer.Builtin Boolean at) middle ks f h = refl
primary-tag (layer.Builtin Byte at) middle ks f h = refl
primary-tag (layer.Builtin Any at) middle ks f h = refl
primary-tag (layer.Builtin AnyData at) middle ks f h = refl
primary-tag (layer.Builtin Never at) middle ks f h = refl
primary-tag (layer.Builtin ReadOnly at) middle ks f h = refl
primary-tag (layer.Literal (IntLiteral i at)) middle ks f h = refl
primary-tag (layer.Literal (StrLiteral t at)) middle ks f h = refl
primary-tag (layer.Literal (TrueLiteral at)) middle ks f h = refl
primary-tag (layer.Literal (FalseLiteral at)) middle ks f h = refl
primary-tag (layer.Literal (NilLiteral at)) middle ks f h = refl
primary-tag (layer.Negative i at) middle ks f h = refl
primary-tag (layer.Parens inner at) middle ks f h =
    paren-tag (onto (type_pieces inner.value) (SignKind CloseParen ∷ ks)) (λ zs e. no-first CloseParen inner.value false (SignKind CloseParen ∷ ks) zs (λ i m. refl) (both_pass (type_is_formed inner.value false) true f).0 (paren-closes ks) e)
primary-tag (layer.Name n) middle ks f h = name-tag n.prefix n.word ks
primary-tag (layer.Map member at) middle ks f h = refl
primary-tag (layer.Future result at) middle ks f h = refl
primary-tag (layer.Error detail at) middle ks f h = refl
primary-tag (layer.Tuple members rest at) middle ks f h = refl
primary-tag (layer.ClosedRecord fields rest at) middle ks f h = refl
primary-tag (layer.OpenRecord fields at) middle ks f h = refl
primary-tag (layer.AnyFunction isolated at) middle ks f h = function-tag isolated ks
primary-tag (layer.Function isolated params result at) middle ks f h = function-tag isolated _

-- ---- names

pub type-name-same : (middle : Bool) (n m : QualifiedName) (ks ls : Kinds) → name_fits middle n.prefix ≡ true → name_fits middle m.prefix ≡ true → Stays middle false ks → Stays middle false ls → onto (name_pieces n) ks ≡ onto (name_pieces m) ls → Same (name_pieces n) (name_pieces m) ks ls
type-name-same false n m ks ls f g h k e = name-same n m ks ls (h.colon refl) (k.colon refl) e
type-name-same true n m ks ls f g h k e = by n.prefix m.prefix f g e
  where
    by : (p q : Option Prefix) → name_fits true p ≡ true → name_fits true q ≡ true → onto (name_at p n.word) ks ≡ onto (name_at q m.word) ls → Same (name_pieces record n { prefix = p }) (name_pieces record m { prefix = q }) ks ls
    by None None f g e = ((tt, (tt, (tt, cc e))), cc e)
    by None (Some (IntPrefix at)) f g e = cc e
    by (Some (IntPrefix at)) None f g e = cc e
    by (Some (IntPrefix at)) (Some (IntPrefix other)) f g e = ((tt, ((tt, (refl, refl)), (tt, cc e))), cc e)
    by (Some (WordPrefix w)) q f g e = cc f
    by p (Some (WordPrefix w)) f g e = cc g

-- ---- functions

-- `function`, where `isolated` may stand before it
word-same : (p q : Bool) (ks ls : Kinds) → onto (function_word p) ks ≡ onto (function_word q) ls → Same (function_word p) (function_word q) ks ls
word-same true true ks ls e = ((refl, refl), cc e)
word-same false false ks ls e = ((tt, refl), cc e)
word-same true false ks ls e = cc e
word-same false true ks ls e = cc e

-- parameters begin with a parenthesis, which nothing stands behind alone
paren-first : (t : ParamTypes) (ks : Kinds) → (zs : Kinds) × (onto (told_params t).pieces ks ≡ SignKind OpenParen ∷ zs)
paren-first t ks = subst (λ v. (zs : Kinds) × (onto (told_params v).pieces ks ≡ SignKind OpenParen ∷ zs)) (roll-out-ParamTypes t) (at (out-ParamTypes t))
  where
    at : (x : LayerOfParams) → (zs : Kinds) × (onto (told_params (roll-ParamTypes x)).pieces ks ≡ SignKind OpenParen ∷ zs)
    at x = (_, ap (λ (a : Told). onto a.pieces ks) (told-params x))

no-paren-here : (t : ParamTypes) (ks zs : Kinds) → take_sign OpenParen ks ≡ None → ks ≡ onto (told_params t).pieces zs → ⊥
no-paren-here t ks zs h e = let o = paren-first t zs in let bad : None ≡ Some o.0 = sym h ∙ ap (take_sign OpenParen) (e ∙ o.1) in cc bad

no-returns-here : (ks zs : Kinds) → take_key Returns ks ≡ None → ks ≡ KeywordKind Returns ∷ zs → ⊥
no-returns-here ks zs h e = let bad : None ≡ Some zs = sym h ∙ ap (take_key Returns) e in cc bad

no-less-here : (ks zs : Kinds) → take_sign Less ks ≡ None → ks ≡ SignKind Less ∷ zs → ⊥
no-less-here ks zs h e = let bad : None ≡ Some zs = sym h ∙ ap (take_sign Less) e in cc bad

-- ---- one layer

pub after-result : (middle : Bool) (end : TypeEnd) (ks : Kinds) → Stays middle end.in_int ks → Ends ks → AfterType middle end ks
after-result middle end ks s e = record {
  after = record { after = record { after = record { stays = s; ends = λ h. e }; no_suffix = e.no_suffix }; no_ampersand = e.no_ampersand };
  no_bar = e.no_bar;
}

one-code : (a b : ℕ) → a ≡ b → (a == b) ≡ true
one-code a b e = subst (λ c. (a == c) ≡ true) e (eq-eqb a a refl)

close-no-field : (s : Sign) (ks : Kinds) → ((inner : Bool → Kinds → Option Kinds) (m : Bool) → sign_type inner m s (SignKind s ∷ ks) ≡ None) → (u : FieldTree) (zs : Kinds) → (told_field u).facts.is_formed false ≡ true → SignKind s ∷ ks ≡ onto (told_field u).pieces zs → ⊥
close-no-field s ks none u zs f e = field-no-first s u false zs ks none f e

same-tag : (y : KnownPrimary) (x : LayerOfPrimary) → tag (firsts_of_primary y) ≡ tag x → Pair After (layer_primary (firsts_of_primary y)) (layer_primary x)
same-tag (layer.Builtin b at) (layer.Builtin c other) same middle ks ls f g h k e = ((tt, first-token (KeywordKind (builtin_key b)) (KeywordKind (builtin_key c)) _ _ e), ap behind_first e)
same-tag (layer.Literal l) (layer.Literal m) same middle ks ls f g h k e = const-same (LiteralValue l) (LiteralValue m) ks ls e
same-tag (layer.Negative i at) (layer.Negative j other) same middle ks ls f g h k e = ((tt, (refl, first-token (IntKind i) (IntKind j) _ _ (ap behind_first e))), ap behind_first (ap behind_first e))
same-tag (layer.Parens t at) (layer.Parens u other) same middle ks ls f g h k e =
    let s = type-then t.value.0 u.value false (SignKind CloseParen ∷ ks) (SignKind CloseParen ∷ ls) t.value.1 (both_pass (type_is_formed t.value.0 false) true f).0 (both_pass (type_is_formed u.value false) true g).0 (paren-closes ks) (paren-closes ls) (ap behind_first e) in
    ((tt, (refl, (s.0, refl))), ap behind_first s.1)
same-tag (layer.Name n) (layer.Name m) same middle ks ls f g h k e = type-name-same middle n m ks ls (both_pass (name_fits middle n.prefix) true f).0 (both_pass (name_fits middle m.prefix) true g).0 h.stays k.stays e
same-tag (layer.Map t at) (layer.Map u other) same middle ks ls f g h k e =
    let s = type-then t.value.0 u.value middle (SignKind Greater ∷ ks) (SignKind Greater ∷ ls) t.value.1 (both_pass (type_is_formed t.value.0 middle) true f).0 (both_pass (type_is_formed u.value middle) true g).0 (greater-closes ks) (greater-closes ls) (ap behind_first (ap behind_first e)) in
    ((tt, (refl, (refl, (s.0, refl)))), ap behind_first s.1)
same-tag (layer.Future t at) (layer.Future u other) same middle ks ls f g h k e =
    let s = type-then t.value.0 u.value middle (SignKind Greater ∷ ks) (SignKind Greater ∷ ls) t.value.1 (both_pass (type_is_formed t.value.0 middle) true f).0 (both_pass (type_is_formed u.value middle) true g).0 (greater-closes ks) (greater-closes ls) (ap behind_first (ap behind_first e)) in
    ((tt, (refl, (refl, (s.0, refl)))), ap behind_first s.1)
same-tag (layer.Error None at) (layer.Error None other) same middle ks ls f g h k e = ((tt, (refl, tt)), ap behind_first e)
same-tag (layer.Error None at) (layer.Error (Some u) other) same middle ks ls f g h k e = absurd (no-less-here ks _ h.stays.less (ap behind_first e))
same-tag (layer.Error (Some t) at) (layer.Error None other) same middle ks ls f g h k e = absurd (no-less-here ls _ k.stays.less (sym (ap behind_first e)))
same-tag (layer.Error (Some t) at) (layer.Error (Some u) other) same middle ks ls f g h k e =
    let s = type-then t.value.0 u.value middle (SignKind Greater ∷ ks) (SignKind Greater ∷ ls) t.value.1 (both_pass (type_is_formed t.value.0 middle) true f).0 (both_pass (type_is_formed u.value middle) true g).0 (greater-closes ks) (greater-closes ls) (ap behind_first (ap behind_first e)) in
    ((tt, (refl, (refl, (s.0, refl)))), ap behind_first s.1)
same-tag (layer.Tuple xs None at) (layer.Tuple us None other) same middle ks ls f g h k e =
    let s = tuple-listed middle xs.items None us.items None ks ls f g (ap behind_first e) in ((tt, (refl, (s.0, refl))), ap behind_first s.1)
same-tag (layer.Tuple xs None at) (layer.Tuple us (Some n) other) same middle ks ls f g h k e =
    let s = tuple-listed middle xs.items None us.items (Some n) ks ls f g (ap behind_first e) in ((tt, (refl, (s.0, refl))), ap behind_first s.1)
same-tag (layer.Tuple xs (Some m) at) (layer.Tuple us None other) same middle ks ls f g h k e =
    let s = tuple-listed middle xs.items (Some m) us.items None ks ls f g (ap behind_first e) in ((tt, (refl, (s.0, refl))), ap behind_first s.1)
same-tag (layer.Tuple xs (Some m) at) (layer.Tuple us (Some n) other) same middle ks ls f g h k e =
    let s = tuple-listed middle xs.items (Some m) us.items (Some n) ks ls f g (ap behind_first e) in ((tt, (refl, (s.0, refl))), ap behind_first s.1)
same-tag (layer.ClosedRecord xs None at) (layer.ClosedRecord us None other) same middle ks ls f g h k e =
    let s = fields-same middle xs.items us.items [] [] (SignKind CloseBraceBar ∷ ks) (SignKind CloseBraceBar ∷ ls)
    (λ u zs a b q. close-no-field CloseBraceBar ks (λ i m. refl) u zs a q) (λ x zs a b q. close-no-field CloseBraceBar ls (λ i m. refl) x.0 zs a (sym q)) f g (ap behind_first (ap behind_first e)) in
    ((tt, (refl, (refl, (s.0.0, (tt, refl))))), ap behind_first s.0.1)
same-tag (layer.ClosedRecord xs None at) (layer.ClosedRecord us (Some n) other) same middle ks ls f g h k e =
    let c = (told_type n.value).facts in
    let ws = SignKind Ellipsis ∷ SignKind Semicolon ∷ SignKind CloseBraceBar ∷ ls in
    let s = fields-same middle xs.items us.items [] (inside_part c ∷ []) (SignKind CloseBraceBar ∷ ks) (onto (type_pieces n.value) ws)
    (λ u zs a b q. close-no-field CloseBraceBar ks (λ i m. refl) u zs a q) (λ x zs a b q. x.1.1 false n.value zs (SignKind Semicolon ∷ SignKind CloseBraceBar ∷ ls) a (both_pass (c.is_formed false) true b).0 tt q) f g (ap behind_first (ap behind_first e)) in
    absurd (no-first CloseBraceBar n.value false ws ks (λ i m. refl) (both_pass (c.is_formed false) true s.1.1).0 (ellipsis-closes (SignKind Semicolon ∷ SignKind CloseBraceBar ∷ ls)) s.0.1)
same-tag (layer.ClosedRecord xs (Some m) at) (layer.ClosedRecord us None other) same middle ks ls f g h k e =
    let c = (told_type m.value.0).facts in
    let ws = SignKind Ellipsis ∷ SignKind Semicolon ∷ SignKind CloseBraceBar ∷ ks in
    let s = fields-same middle xs.items us.items (inside_part c ∷ []) [] (onto (type_pieces m.value.0) ws) (SignKind CloseBraceBar ∷ ls)
    (λ u zs a b q. rest-no-field m.value.0 m.value.1 u false zs (SignKind Semicolon ∷ SignKind CloseBraceBar ∷ ks) (both_pass (c.is_formed false) true b).0 a q) (λ x zs a b q. close-no-field CloseBraceBar ls (λ i m. refl) x.0 zs a (sym q)) f g (ap behind_first (ap behind_first e)) in
    absurd (no-first CloseBraceBar m.value.0 false ws ls (λ i m. refl) (both_pass (c.is_formed false) true s.1.0).0 (ellipsis-closes (SignKind Semicolon ∷ SignKind CloseBraceBar ∷ ks)) (sym s.0.1))
same-tag (layer.ClosedRecord xs (Some m) at) (layer.ClosedRecord us (Some n) other) same middle ks ls f g h k e =
    let c = (told_type m.value.0).facts in
    let d = (told_type n.value).facts in
    let zs = SignKind Ellipsis ∷ SignKind Semicolon ∷ SignKind CloseBraceBar ∷ ks in
    let ws = SignKind Ellipsis ∷ SignKind Semicolon ∷ SignKind CloseBraceBar ∷ ls in
    let s = fields-same middle xs.items us.items (inside_part c ∷ []) (inside_part d ∷ []) (onto (type_pieces m.value.0) zs) (onto (type_pieces n.value) ws)
    (λ u vs a b q. rest-no-field m.value.0 m.value.1 u false vs (SignKind Semicolon ∷ SignKind CloseBraceBar ∷ ks) (both_pass (c.is_formed false) true b).0 a q) (λ x vs a b q. x.1.1 false n.value vs (SignKind Semicolon ∷ SignKind CloseBraceBar ∷ ls) a (both_pass (d.is_formed false) true b).0 tt q) f g (ap behind_first (ap behind_first e)) in
    let t = type-then m.value.0 n.value false zs ws m.value.1 (both_pass (c.is_formed false) true s.1.0).0 (both_pass (d.is_formed false) true s.1.1).0 (ellipsis-closes (SignKind Semicolon ∷ SignKind CloseBraceBar ∷ ks)) (ellipsis-closes (SignKind Semicolon ∷ SignKind CloseBraceBar ∷ ls)) s.0.1 in
    ((tt, (refl, (refl, (s.0.0, (((t.0, refl), refl), refl))))), ap behind_first (ap behind_first (ap behind_first t.1)))
same-tag (layer.OpenRecord xs at) (layer.OpenRecord us other) same middle ks ls f g h k e =
    let s = fields-same middle xs.items us.items [] [] (SignKind CloseBrace ∷ ks) (SignKind CloseBrace ∷ ls)
    (λ u zs a b q. close-no-field CloseBrace ks (λ i m. refl) u zs a q) (λ x zs a b q. close-no-field CloseBrace ls (λ i m. refl) x.0 zs a (sym q))
    ((ap (list_all (part_is_formed middle)) (append-nil (each_inside (map (of_field_tree facts) (map (λ e. e.0) xs.items))))) ∙ f) ((ap (list_all (part_is_formed middle)) (append-nil (each_inside (map (of_field_tree facts) us.items)))) ∙ g) (ap behind_first (ap behind_first e)) in
    ((tt, (refl, (refl, (s.0.0, refl)))), ap behind_first s.0.1)
same-tag (layer.AnyFunction p at) (layer.AnyFunction q other) same middle ks ls f g h k e = let s = word-same p q ks ls e in ((tt, s.0), s.1)
same-tag (layer.AnyFunction p at) (layer.Function q us n other) same middle ks ls f g h k e =
    absurd (no-paren-here us ks _ h.stays.paren (word-same p q ks _ e).1)
same-tag (layer.Function p ts m at) (layer.AnyFunction q other) same middle ks ls f g h k e =
    absurd (no-paren-here ts.0 ls _ k.stays.paren (sym (word-same p q _ ls e).1))
same-tag (layer.Function p ts None at) (layer.Function q us None other) same middle ks ls f g h k e =
    let w = word-same p q (onto (told_params ts.0).pieces ks) (onto (told_params us).pieces ls) e in
    let s = ts.1 us false ks ls (both_pass ((told_params ts.0).facts.is_formed false) true f).0 (both_pass ((told_params us).facts.is_formed false) true g).0 tt tt w.1 in
    ((tt, (w.0, (s.0, tt))), s.1)
same-tag (layer.Function p ts None at) (layer.Function q us (Some n) other) same middle ks ls f g h k e =
    let ws = KeywordKind Returns ∷ onto (type_pieces n.value) ls in
    let w = word-same p q (onto (told_params ts.0).pieces ks) (onto (told_params us).pieces ws) e in
    let s = ts.1 us false ks ws (both_pass ((told_params ts.0).facts.is_formed false) true f).0 (both_pass ((told_params us).facts.is_formed false) ((told_type n.value).facts.is_formed middle && true) g).0 tt tt w.1 in
    absurd (no-returns-here ks _ h.stays.returns s.1)
same-tag (layer.Function p ts (Some m) at) (layer.Function q us None other) same middle ks ls f g h k e =
    let zs = KeywordKind Returns ∷ onto (type_pieces m.value.0) ks in
    let w = word-same p q (onto (told_params ts.0).pieces zs) (onto (told_params us).pieces ls) e in
    let s = ts.1 us false zs ls (both_pass ((told_params ts.0).facts.is_formed false) ((told_type m.value.0).facts.is_formed middle && true) f).0 (both_pass ((told_params us).facts.is_formed false) true g).0 tt tt w.1 in
    absurd (no-returns-here ls _ k.stays.returns (sym s.1))
same-tag (layer.Function p ts (Some m) at) (layer.Function q us (Some n) other) same middle ks ls f g h k e =
    let zs = KeywordKind Returns ∷ onto (type_pieces m.value.0) ks in
    let ws = KeywordKind Returns ∷ onto (type_pieces n.value) ls in
    let a = both_pass ((told_params ts.0).facts.is_formed false) ((told_type m.value.0).facts.is_formed middle && true) f in
    let b = both_pass ((told_params us).facts.is_formed false) ((told_type n.value).facts.is_formed middle && true) g in
    let w = word-same p q (onto (told_params ts.0).pieces zs) (onto (told_params us).pieces ws) e in
    let s = ts.1 us false zs ws a.0 b.0 tt tt w.1 in
    let t = one-type m.value.0 m.value.1 n.value middle ks ls (both_pass ((told_type m.value.0).facts.is_formed middle) true a.1).0 (both_pass ((told_type n.value).facts.is_formed middle) true b.1).0
    (after-result middle (told_type m.value.0).facts.end ks h.stays (h.ends refl)) (after-result middle (told_type n.value).facts.end ls k.stays (k.ends refl)) (ap behind_first s.1) in
    ((tt, (w.0, (s.0, (refl, t.0)))), t.1)
same-tag y x same middle ks ls f g h k e = absurd (false≢true (one-code (tag (firsts_of_primary y)) (tag x) same))

primary-pair : (y : KnownPrimary) (x : LayerOfPrimary) → Pair After (layer_primary (firsts_of_primary y)) (layer_primary x)
primary-pair y x middle ks ls f g h k e =
    same-tag y x (sym (primary-tag (firsts_of_primary y) middle ks f h) ∙ ap tag_of e ∙ primary-tag x middle ls g k) middle ks ls f g h k e

primary-step : (x : LayerOfPrimary) (y : KnownPrimary) → firsts_of_primary y ≡ x → OnePrimary (roll-PrimaryType x)
primary-step x y is =
    λ u. subst (λ v. Pair After (told_primary (roll-PrimaryType x)) (told_primary v)) (roll-out-PrimaryType u)
    (subst (λ a. Pair After a (told_primary (roll-PrimaryType (out-PrimaryType u)))) (sym (told-primary x)) (subst (λ b. Pair After (layer_primary x) b) (sym (told-primary (out-PrimaryType u))) (subst (λ z. Pair After (layer_primary z) (layer_primary (out-PrimaryType u))) is (primary-pair y (out-PrimaryType u)))))

-- ---- the whole

pub type-spine : (t : TypeTree) → QT t
type-spine =
    ind-TypeTree QI QP OnePrimary QT QF QA QS (intersection-step QI QP OnePrimary QT QF QA QS OnePostfix (λ t q. q) (λ t q. one-postfix t q))
    (postfix-step QI QP OnePrimary QT QF QA QS OnePrimary (λ t q. q) (λ t q. q)) primary-step (type-step QI QP OnePrimary QT QF QA QS OneIntersection (λ t q. q) (λ t q. one-intersection t q)) field-step param-step params-step

-- a type before what is behind it, in a middle or not
pub type-one : (t : TypeTree) → OneType t
type-one t = one-type t (type-spine t)

-- their tokens tell types
pub types-one : (t u : TypeTree) → type_is_formed t false ≡ true → type_is_formed u false ≡ true → kinds (type_pieces t) ≡ kinds (type_pieces u) → Alike (type_pieces t) (type_pieces u)
types-one t u f g e =
    (type-then t u false (SignKind Semicolon ∷ []) (SignKind Semicolon ∷ []) (type-spine t) f g (semicolon-closes []) (semicolon-closes [])
    (onto-kinds (type_pieces t) (SignKind Semicolon ∷ []) ∙ ap (λ xs. xs ++ SignKind Semicolon ∷ []) e ∙ sym (onto-kinds (type_pieces u) (SignKind Semicolon ∷ [])))).0
