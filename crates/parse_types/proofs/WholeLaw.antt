-- The law at every type, by induction.
use Rattle.std.proofs.Common.{◌≡◌, ℕ, ◌<◌, ◌≤◌, Bool, true, false, ◌&&◌, List, [], ◌∷◌, ◌++◌, map, length, Option, None, Some, refl, sym, ap, ◌∙◌, subst, arith}
use Rattle.std.specs.List.{list_all}
use Rattle.std.specs.Global.{Box}
use Rattle.std.specs.Prelude.{option_map, not, if◌then◌else◌}
use Rattle.std.proofs.lemmas.List.{append-nil}
use Rattle.bal_base.specs.declared.token.TokenKind.TheVariants.{Int as IntKind, Keyword as KeywordKind, Sign as SignKind}
use Rattle.bal_base.specs.declared.token.Keyword.TheVariants.{Returns}
use Rattle.bal_base.specs.declared.token.Sign.{Sign}
use Rattle.bal_base.specs.declared.token.Sign.TheVariants.{Question, OpenBracket, CloseBracket, OpenParen, Less, Colon}
use Rattle.bal_tree.specs.declared.types.IntersectionType.{IntersectionType, IntersectionType-F, roll-IntersectionType, map-IntersectionType}
use Rattle.bal_tree.specs.declared.types.IntersectionType.TheOpen as layer
use Rattle.bal_tree.specs.declared.types.PostfixType.{PostfixType, PostfixType-F, roll-PostfixType, map-PostfixType}
use Rattle.bal_tree.specs.declared.types.PrimaryType.{PrimaryType, PrimaryType-F, roll-PrimaryType, map-PrimaryType}
use Rattle.bal_tree.specs.declared.types.TypeTree.{TypeTree, TypeTree-F, roll-TypeTree, map-TypeTree, ind-TypeTree}
use Rattle.bal_tree.specs.declared.types.FieldTree.{FieldTree, FieldTree-F, roll-FieldTree, map-FieldTree}
use Rattle.bal_tree.specs.declared.types.ParamType.{ParamType, ParamType-F, roll-ParamType, map-ParamType}
use Rattle.bal_tree.specs.declared.types.ParamTypes.{ParamTypes, ParamTypes-F, roll-ParamTypes, map-ParamTypes}
use Rattle.bal_tree.specs.Parts.{Part, inside as inside_part, each_inside}
use Rattle.bal_tree.specs.Pieces.{Pieces, ◌&◌, sign, token}
use Rattle.bal_tree.specs.Spells.{onto}
use Rattle.bal_tree.specs.TypeLayers.{of_intersection_type, of_postfix_type, of_primary_type, of_type_tree, of_field_tree, of_param_type, of_param_types}
use Rattle.bal_tree.specs.TypePieces.{writing, as_rest, in_angles as angle_pieces, function_word, type_pieces, intersection_pieces, postfix_type_pieces, primary_type_pieces, field_pieces, param_type_pieces, param_types_pieces}
use Rattle.bal_tree.specs.TypeRules.{TypeFacts, facts, part_is_formed, is_length, name_fits}
use Rattle.token_steps.specs.Tokens.{Kinds, take_sign, take_word}
use Rattle.parse_types.specs.Loops.{◌>>=◌, else_stays}
use Rattle.parse_types.specs.Reaches.{params, inside, open_at}
use Rattle.parse_types.proofs.Follows.{Stays}
use Rattle.parse_types.proofs.Law.{both_pass, not_true, suffixes, ampersands, PrimaryLaw, PostfixLaw, IntersectionLaw, TypeLaw}
use Rattle.parse_types.proofs.LevelLaw.{suffixed, both, either}
use Rattle.parse_types.proofs.Levels.{postfix-from, intersection-from, union-from}
use Rattle.parse_types.proofs.PrimaryLaw.{found, builtin-law, literal-law, name-law, parens-law, angles, error-law}
use Rattle.parse_types.proofs.ListLaw.{Item, params_step, params_last, TypesListed, ParamsListed, tuple-law, params-law, type-item, type-rest, param-item, param-rest}
use Rattle.parse_types.proofs.RecordLaw.{FieldAt, FieldsAt, closed-alone, closed-rest, open-law, field-at}
use Rattle.parse_types.proofs.FunctionLaw.{any-law, plain-law, result-law}
use Rattle.parse_types.proofs.TypeRolls.{parts_of_intersection_type, parts_of_postfix_type, parts_of_primary_type, parts_of_type_tree, parts_of_field_tree, parts_of_param_type, parts_of_param_types, rolled-intersection_type, rolled-postfix_type, rolled-primary_type, rolled-type_tree, rolled-field_tree, rolled-param_type, rolled-param_types}

-- ---- what is claimed of each kind of tree

abbrev pub type_facts : TypeTree → TypeFacts
type_facts = of_type_tree facts

abbrev ClaimType : TypeTree → Type 0
ClaimType t = TypeLaw (type_pieces t) (type_facts t)

abbrev ClaimIntersection : IntersectionType → Type 0
ClaimIntersection t = IntersectionLaw (intersection_pieces t) (of_intersection_type facts t)

abbrev ClaimPostfix : PostfixType → Type 0
ClaimPostfix t = PostfixLaw (postfix_type_pieces t) (of_postfix_type facts t)

abbrev ClaimPrimary : PrimaryType → Type 0
ClaimPrimary t = PrimaryLaw (primary_type_pieces t) (of_primary_type facts t)

abbrev FieldClaim : Pieces → TypeFacts → Type 0
FieldClaim p f = (n : ℕ) → f.is_formed false ≡ true → FieldAt n p

abbrev ParamClaim : Pieces → TypeFacts → Type 0
ParamClaim p f = (n : ℕ) → f.is_formed false ≡ true → Item (params_step n) (params_last n) n p

abbrev ParamsClaim : Pieces → TypeFacts → Type 0
ParamsClaim p f = (n : ℕ) (ks : Kinds) → f.is_formed false ≡ true → length (onto p ks) ≤ n → params (inside n false) (onto p ks) ≡ Some ks

abbrev ClaimField : FieldTree → Type 0
ClaimField t = FieldClaim (field_pieces t) (of_field_tree facts t)

abbrev ClaimParam : ParamType → Type 0
ClaimParam t = ParamClaim (param_type_pieces t) (of_param_type facts t)

abbrev ClaimParams : ParamTypes → Type 0
ClaimParams t = ParamsClaim (param_types_pieces t) (of_param_types facts t)

-- a tree of which it is known
abbrev AType : Type 0
AType = (t : TypeTree) × ClaimType t

abbrev AnIntersection : Type 0
AnIntersection = (t : IntersectionType) × ClaimIntersection t

abbrev APostfix : Type 0
APostfix = (t : PostfixType) × ClaimPostfix t

abbrev APrimary : Type 0
APrimary = (t : PrimaryType) × ClaimPrimary t

abbrev AField : Type 0
AField = (t : FieldTree) × ClaimField t

abbrev AParam : Type 0
AParam = (t : ParamType) × ClaimParam t

abbrev Params : Type 0
Params = (t : ParamTypes) × ClaimParams t

-- ---- lists of parts that are well formed

rest_passes : (middle : Bool) (f : TypeFacts) → (part_is_formed middle (inside_part f) && true) ≡ true → f.is_formed false ≡ true
rest_passes middle f h = (both_pass (f.is_formed false) true h).0

types-listed : (n : ℕ) (middle : Bool) (xs : List AType) → list_all (part_is_formed middle) (each_inside (map type_facts (map (λ e. e.0) xs)) ++ []) ≡ true → TypesListed n (map type_pieces (map (λ e. e.0) xs))
types-listed n middle [] h = tt
types-listed n middle (x ∷ []) h = (type-item n (type_pieces x.0) (type_facts x.0) x.1 (both_pass ((type_facts x.0).is_formed false) true h).0).as_last
types-listed n middle (x ∷ y ∷ xs) h =
    let b = both_pass ((type_facts x.0).is_formed false) (list_all (part_is_formed middle) (each_inside (map type_facts (map (λ e. e.0) (y ∷ xs))) ++ [])) h in
    (type-item n (type_pieces x.0) (type_facts x.0) x.1 b.0, types-listed n middle (y ∷ xs) b.1)

types-listed-rest : (n : ℕ) (middle : Bool) (xs : List AType) (r : AType) → list_all (part_is_formed middle) (each_inside (map type_facts (map (λ e. e.0) xs)) ++ inside_part (type_facts r.0) ∷ []) ≡ true → TypesListed n (map type_pieces (map (λ e. e.0) xs) ++ as_rest (type_pieces r.0) ∷ [])
types-listed-rest n middle [] r h = type-rest n (type_pieces r.0) (type_facts r.0) r.1 (rest_passes middle (type_facts r.0) h)
types-listed-rest n middle (x ∷ []) r h =
    let b = both_pass ((type_facts x.0).is_formed false) (part_is_formed middle (inside_part (type_facts r.0)) && true) h in
    (type-item n (type_pieces x.0) (type_facts x.0) x.1 b.0, types-listed-rest n middle [] r b.1)
types-listed-rest n middle (x ∷ y ∷ xs) r h =
    let b = both_pass ((type_facts x.0).is_formed false) (list_all (part_is_formed middle) (each_inside (map type_facts (map (λ e. e.0) (y ∷ xs))) ++ inside_part (type_facts r.0) ∷ [])) h in
    (type-item n (type_pieces x.0) (type_facts x.0) x.1 b.0, types-listed-rest n middle (y ∷ xs) r b.1)

params-listed : (n : ℕ) (middle : Bool) (xs : List AParam) → list_all (part_is_formed middle) (each_inside (map (of_param_type facts) (map (λ e. e.0) xs)) ++ []) ≡ true → ParamsListed n (map param_type_pieces (map (λ e. e.0) xs))
params-listed n middle [] h = tt
params-listed n middle (x ∷ []) h = (x.1 n (both_pass ((of_param_type facts x.0).is_formed false) true h).0).as_last
params-listed n middle (x ∷ y ∷ xs) h =
    let b = both_pass ((of_param_type facts x.0).is_formed false) (list_all (part_is_formed middle) (each_inside (map (of_param_type facts) (map (λ e. e.0) (y ∷ xs))) ++ [])) h in
    (x.1 n b.0, params-listed n middle (y ∷ xs) b.1)

params-listed-rest : (n : ℕ) (middle : Bool) (xs : List AParam) (r : AType) → list_all (part_is_formed middle) (each_inside (map (of_param_type facts) (map (λ e. e.0) xs)) ++ inside_part (type_facts r.0) ∷ []) ≡ true → ParamsListed n (map param_type_pieces (map (λ e. e.0) xs) ++ as_rest (type_pieces r.0) ∷ [])
params-listed-rest n middle [] r h = param-rest n (type_pieces r.0) (type_facts r.0) r.1 (rest_passes middle (type_facts r.0) h)
params-listed-rest n middle (x ∷ []) r h =
    let b = both_pass ((of_param_type facts x.0).is_formed false) (part_is_formed middle (inside_part (type_facts r.0)) && true) h in
    (x.1 n b.0, params-listed-rest n middle [] r b.1)
params-listed-rest n middle (x ∷ y ∷ xs) r h =
    let b = both_pass ((of_param_type facts x.0).is_formed false) (list_all (part_is_formed middle) (each_inside (map (of_param_type facts) (map (λ e. e.0) (y ∷ xs))) ++ inside_part (type_facts r.0) ∷ [])) h in
    (x.1 n b.0, params-listed-rest n middle (y ∷ xs) r b.1)

-- fields, and what stands behind them
fields-pass : (n : ℕ) (middle : Bool) (xs : List AField) (rest : List (Part TypeFacts)) → list_all (part_is_formed middle) (each_inside (map (of_field_tree facts) (map (λ e. e.0) xs)) ++ rest) ≡ true → FieldsAt n (map field_pieces (map (λ e. e.0) xs)) × (list_all (part_is_formed middle) rest ≡ true)
fields-pass n middle [] rest h = (tt, h)
fields-pass n middle (x ∷ xs) rest h =
    let b = both_pass ((of_field_tree facts x.0).is_formed false) (list_all (part_is_formed middle) (each_inside (map (of_field_tree facts) (map (λ e. e.0) xs)) ++ rest)) h in
    let more = fields-pass n middle xs rest b.1 in
    ((x.1 n b.0, more.0), more.1)

-- ---- one layer of a tree, of whose parts it is known

abbrev firsts_of_intersection_type : IntersectionType-F AnIntersection APostfix APrimary AType AField AParam Params → IntersectionType-F IntersectionType PostfixType PrimaryType TypeTree FieldTree ParamType ParamTypes
firsts_of_intersection_type = map-IntersectionType AnIntersection APostfix APrimary AType AField AParam Params IntersectionType PostfixType PrimaryType TypeTree FieldTree ParamType ParamTypes (λ e. e.0) (λ e. e.0) (λ e. e.0) (λ e. e.0) (λ e. e.0) (λ e. e.0) (λ e. e.0)

abbrev Layer_intersection_type : IntersectionType-F AnIntersection APostfix APrimary AType AField AParam Params → Type 0
Layer_intersection_type y = IntersectionLaw (writing.intersection_type (parts_of_intersection_type writing (firsts_of_intersection_type y))) (facts.intersection_type (parts_of_intersection_type facts (firsts_of_intersection_type y)))

abbrev firsts_of_postfix_type : PostfixType-F AnIntersection APostfix APrimary AType AField AParam Params → PostfixType-F IntersectionType PostfixType PrimaryType TypeTree FieldTree ParamType ParamTypes
firsts_of_postfix_type = map-PostfixType AnIntersection APostfix APrimary AType AField AParam Params IntersectionType PostfixType PrimaryType TypeTree FieldTree ParamType ParamTypes (λ e. e.0) (λ e. e.0) (λ e. e.0) (λ e. e.0) (λ e. e.0) (λ e. e.0) (λ e. e.0)

abbrev Layer_postfix_type : PostfixType-F AnIntersection APostfix APrimary AType AField AParam Params → Type 0
Layer_postfix_type y = PostfixLaw (writing.postfix_type (parts_of_postfix_type writing (firsts_of_postfix_type y))) (facts.postfix_type (parts_of_postfix_type facts (firsts_of_postfix_type y)))

abbrev firsts_of_primary_type : PrimaryType-F AnIntersection APostfix APrimary AType AField AParam Params → PrimaryType-F IntersectionType PostfixType PrimaryType TypeTree FieldTree ParamType ParamTypes
firsts_of_primary_type = map-PrimaryType AnIntersection APostfix APrimary AType AField AParam Params IntersectionType PostfixType PrimaryType TypeTree FieldTree ParamType ParamTypes (λ e. e.0) (λ e. e.0) (λ e. e.0) (λ e. e.0) (λ e. e.0) (λ e. e.0) (λ e. e.0)

abbrev Layer_primary_type : PrimaryType-F AnIntersection APostfix APrimary AType AField AParam Params → Type 0
Layer_primary_type y = PrimaryLaw (writing.primary_type (parts_of_primary_type writing (firsts_of_primary_type y))) (facts.primary_type (parts_of_primary_type facts (firsts_of_primary_type y)))

abbrev firsts_of_type_tree : TypeTree-F AnIntersection APostfix APrimary AType AField AParam Params → TypeTree-F IntersectionType PostfixType PrimaryType TypeTree FieldTree ParamType ParamTypes
firsts_of_type_tree = map-TypeTree AnIntersection APostfix APrimary AType AField AParam Params IntersectionType PostfixType PrimaryType TypeTree FieldTree ParamType ParamTypes (λ e. e.0) (λ e. e.0) (λ e. e.0) (λ e. e.0) (λ e. e.0) (λ e. e.0) (λ e. e.0)

abbrev Layer_type_tree : TypeTree-F AnIntersection APostfix APrimary AType AField AParam Params → Type 0
Layer_type_tree y = TypeLaw (writing.type_tree (parts_of_type_tree writing (firsts_of_type_tree y))) (facts.type_tree (parts_of_type_tree facts (firsts_of_type_tree y)))

abbrev firsts_of_field_tree : FieldTree-F AnIntersection APostfix APrimary AType AField AParam Params → FieldTree-F IntersectionType PostfixType PrimaryType TypeTree FieldTree ParamType ParamTypes
firsts_of_field_tree = map-FieldTree AnIntersection APostfix APrimary AType AField AParam Params IntersectionType PostfixType PrimaryType TypeTree FieldTree ParamType ParamTypes (λ e. e.0) (λ e. e.0) (λ e. e.0) (λ e. e.0) (λ e. e.0) (λ e. e.0) (λ e. e.0)

abbrev Layer_field_tree : FieldTree-F AnIntersection APostfix APrimary AType AField AParam Params → Type 0
Layer_field_tree y = FieldClaim (writing.field_tree (parts_of_field_tree writing (firsts_of_field_tree y))) (facts.field_tree (parts_of_field_tree facts (firsts_of_field_tree y)))

abbrev firsts_of_param_type : ParamType-F AnIntersection APostfix APrimary AType AField AParam Params → ParamType-F IntersectionType PostfixType PrimaryType TypeTree FieldTree ParamType ParamTypes
firsts_of_param_type = map-ParamType AnIntersection APostfix APrimary AType AField AParam Params IntersectionType PostfixType PrimaryType TypeTree FieldTree ParamType ParamTypes (λ e. e.0) (λ e. e.0) (λ e. e.0) (λ e. e.0) (λ e. e.0) (λ e. e.0) (λ e. e.0)

abbrev Layer_param_type : ParamType-F AnIntersection APostfix APrimary AType AField AParam Params → Type 0
Layer_param_type y = ParamClaim (writing.param_type (parts_of_param_type writing (firsts_of_param_type y))) (facts.param_type (parts_of_param_type facts (firsts_of_param_type y)))

abbrev firsts_of_param_types : ParamTypes-F AnIntersection APostfix APrimary AType AField AParam Params → ParamTypes-F IntersectionType PostfixType PrimaryType TypeTree FieldTree ParamType ParamTypes
firsts_of_param_types = map-ParamTypes AnIntersection APostfix APrimary AType AField AParam Params IntersectionType PostfixType PrimaryType TypeTree FieldTree ParamType ParamTypes (λ e. e.0) (λ e. e.0) (λ e. e.0) (λ e. e.0) (λ e. e.0) (λ e. e.0) (λ e. e.0)

abbrev Layer_param_types : ParamTypes-F AnIntersection APostfix APrimary AType AField AParam Params → Type 0
Layer_param_types y = ParamsClaim (writing.param_types (parts_of_param_types writing (firsts_of_param_types y))) (facts.param_types (parts_of_param_types facts (firsts_of_param_types y)))

intersection-layer : (y : IntersectionType-F AnIntersection APostfix APrimary AType AField AParam Params) → Layer_intersection_type y
intersection-layer (layer.Postfix t) n middle ks h fits =
    let p = postfix_type_pieces t.0 in
    let f = of_postfix_type facts t.0 in
    let at = t.1 n middle ks (both_pass (f.is_formed middle) true h).0 fits in
    record { left = at.left; is = intersection-from n middle (onto p ks) (suffixes at.left) at.is; went = at.went }
intersection-layer (layer.Both left right at) n middle ks h fits =
    let f = of_intersection_type facts left.value.0 in
    let g = of_postfix_type facts right.value.0 in
    let a = both_pass (not f.end.in_result) (f.is_formed middle && (g.is_formed middle && true)) h in
    let b = both_pass (f.is_formed middle) (g.is_formed middle && true) a.1 in
    both (intersection_pieces left.value.0) (postfix_type_pieces right.value.0) f g left.value.1 right.value.1 n middle ks (not_true f.end.in_result a.0) b.0 (both_pass (g.is_formed middle) true b.1).0 fits

type-layer : (y : TypeTree-F AnIntersection APostfix APrimary AType AField AParam Params) → Layer_type_tree y
type-layer (layer.Intersection t) n middle ks h fits =
    let p = intersection_pieces t.0 in
    let f = of_intersection_type facts t.0 in
    let at = t.1 n middle ks (both_pass (f.is_formed middle) true h).0 fits in
    record { left = at.left; is = union-from n middle (onto p ks) (ampersands n middle (suffixes at.left)) at.is; went = at.went }
type-layer (layer.Union left right at) n middle ks h fits =
    let f = type_facts left.value.0 in
    let g = of_intersection_type facts right.value.0 in
    let a = both_pass (not f.end.in_result) (f.is_formed middle && (g.is_formed middle && true)) h in
    let b = both_pass (f.is_formed middle) (g.is_formed middle && true) a.1 in
    either (type_pieces left.value.0) (intersection_pieces right.value.0) f g left.value.1 right.value.1 n middle ks (not_true f.end.in_result a.0) b.0 (both_pass (g.is_formed middle) true b.1).0 fits

sign-stays : (s : Sign) (middle in_int : Bool) (ks : Kinds) → (take_sign Less (SignKind s ∷ ks) ≡ None) × (take_sign OpenParen (SignKind s ∷ ks) ≡ None) × (take_sign Colon (SignKind s ∷ ks) ≡ None) → Stays middle in_int (SignKind s ∷ ks)
sign-stays s middle in_int ks h = record { less = h.0; paren = h.1; returns = refl; colon = λ _. h.2; int_colon = λ _. ap (λ o. o >>= take_word) h.2 }

postfix-layer : (y : PostfixType-F AnIntersection APostfix APrimary AType AField AParam Params) → Layer_postfix_type y
postfix-layer (layer.Primary t) n middle ks h fits =
    let p = primary_type_pieces t.0 in
    let f = of_primary_type facts t.0 in
    let at = t.1 n middle ks (both_pass (f.is_formed middle) true h).0 fits in
    record { left = at.left; is = postfix-from n middle (onto p ks) at.left at.is; went = at.went }
postfix-layer (layer.Optional of at) n middle ks h fits =
    let f = of_postfix_type facts of.value.0 in
    let a = both_pass (not f.end.in_result) (f.is_formed middle && true) h in
    suffixed (postfix_type_pieces of.value.0) f of.value.1 (sign Question) n middle ks (not_true f.end.in_result a.0) (both_pass (f.is_formed middle) true a.1).0 fits (sign-stays Question middle f.end.in_int ks (refl, refl, refl)) refl (omega arith)
postfix-layer (layer.Array member at) n middle ks h fits =
    let f = of_postfix_type facts member.value.0 in
    let a = both_pass (not f.end.in_result) (f.is_formed middle && true) h in
    suffixed (postfix_type_pieces member.value.0) f member.value.1 (sign OpenBracket & sign CloseBracket) n middle ks (not_true f.end.in_result a.0) (both_pass (f.is_formed middle) true a.1).0 fits (sign-stays OpenBracket middle f.end.in_int (SignKind CloseBracket ∷ ks) (refl, refl, refl)) refl (omega arith)
postfix-layer (layer.FixedArray member i at) n middle ks h fits =
    let f = of_postfix_type facts member.value.0 in
    let a = both_pass (not f.end.in_result && is_length i) (f.is_formed middle && true) h in
    let b = both_pass (not f.end.in_result) (is_length i) a.0 in
    suffixed (postfix_type_pieces member.value.0) f member.value.1 (sign OpenBracket & token (IntKind i) & sign CloseBracket) n middle ks (not_true f.end.in_result b.0) (both_pass (f.is_formed middle) true a.1).0 fits (sign-stays OpenBracket middle f.end.in_int (IntKind i ∷ SignKind CloseBracket ∷ ks) (refl, refl, refl)) (ap (λ c. if c then Some ks else None) b.1) (omega arith)

function-longer : (isolated : Bool) (p : Pieces) (ks : Kinds) → length (onto p ks) < length (onto (function_word isolated & p) ks)
function-longer true p ks = omega arith
function-longer false p ks = omega arith

primary-layer : (y : PrimaryType-F AnIntersection APostfix APrimary AType AField AParam Params) → Layer_primary_type y
primary-layer (layer.Builtin b at) n middle ks h fits = builtin-law b n middle ks
primary-layer (layer.Literal l) n middle ks h fits = literal-law l n middle ks
primary-layer (layer.Negative i at) n middle ks h fits = found n middle ks refl
primary-layer (layer.Parens inner at) n middle ks h fits =
    let f = type_facts inner.value.0 in
    parens-law (type_pieces inner.value.0) f inner.value.1 n middle ks (both_pass (f.is_formed false) true h).0 fits
primary-layer (layer.Name name) n middle ks h fits = name-law name n middle ks (both_pass (name_fits middle name.prefix) true h).0
primary-layer (layer.Map member at) n middle ks h fits =
    let f = type_facts member.value.0 in
    found n middle ks (ap (option_map open_at) (angles (type_pieces member.value.0) f member.value.1 n middle ks (both_pass (f.is_formed middle) true h).0 (omega arith)))
primary-layer (layer.Future result at) n middle ks h fits =
    let f = type_facts result.value.0 in
    found n middle ks (ap (option_map open_at) (angles (type_pieces result.value.0) f result.value.1 n middle ks (both_pass (f.is_formed middle) true h).0 (omega arith)))
primary-layer (layer.Error None at) n middle ks h fits = error-law n middle ks refl
primary-layer (layer.Error (Some detail) at) n middle ks h fits =
    let p = type_pieces detail.value.0 in
    let f = type_facts detail.value.0 in
    found n middle ks (ap (λ o. Some (open_at (else_stays o (onto (angle_pieces p) ks)))) (angles p f detail.value.1 n middle ks (both_pass (f.is_formed middle) true h).0 (omega arith)))
primary-layer (layer.Tuple members None at) n middle ks h fits =
    found n middle ks (ap (option_map open_at) (tuple-law n (map type_pieces (map (λ e. e.0) members.items)) ks (types-listed n middle members.items h) (omega arith)))
primary-layer (layer.Tuple members (Some rest) at) n middle ks h fits =
    found n middle ks (ap (option_map open_at) (tuple-law n (map type_pieces (map (λ e. e.0) members.items) ++ as_rest (type_pieces rest.value.0) ∷ []) ks (types-listed-rest n middle members.items rest.value h) (omega arith)))
primary-layer (layer.ClosedRecord fields None at) n middle ks h fits =
    let b = fields-pass n middle fields.items [] h in
    found n middle ks (ap (option_map open_at) (closed-alone n (map field_pieces (map (λ e. e.0) fields.items)) ks b.0 (omega arith)))
primary-layer (layer.ClosedRecord fields (Some rest) at) n middle ks h fits =
    let f = type_facts rest.value.0 in
    let b = fields-pass n middle fields.items (inside_part f ∷ []) h in
    found n middle ks (ap (option_map open_at) (closed-rest n (type_pieces rest.value.0) f rest.value.1 (rest_passes middle f b.1) (map field_pieces (map (λ e. e.0) fields.items)) ks b.0 (omega arith)))
primary-layer (layer.OpenRecord fields at) n middle ks h fits =
    let parts = each_inside (map (of_field_tree facts) (map (λ e. e.0) fields.items)) in
    let b = fields-pass n middle fields.items [] (ap (list_all (part_is_formed middle)) (append-nil parts) ∙ h) in
    found n middle ks (ap (option_map open_at) (open-law n (map field_pieces (map (λ e. e.0) fields.items)) ks b.0 (omega arith)))
primary-layer (layer.AnyFunction isolated at) n middle ks h fits = any-law n middle isolated ks
primary-layer (layer.Function isolated params None at) n middle ks h fits =
    let p = param_types_pieces params.0 in
    let f = of_param_types facts params.0 in
    let longer = function-longer isolated p ks in
    plain-law n p middle isolated ks (params.1 n ks (both_pass (f.is_formed false) true h).0 (omega arith))
primary-layer (layer.Function isolated params (Some result) at) n middle ks h fits =
    let p = param_types_pieces params.0 in
    let q = type_pieces result.value.0 in
    let f = of_param_types facts params.0 in
    let g = type_facts result.value.0 in
    let b = both_pass (f.is_formed false) (g.is_formed middle && true) h in
    let xs = KeywordKind Returns ∷ onto q ks in
    let longer = function-longer isolated p xs in
    result-law n p middle q g result.value.1 isolated ks (both_pass (g.is_formed middle) true b.1).0 fits (params.1 n xs b.0 (omega arith))

field-layer : (y : FieldTree-F AnIntersection APostfix APrimary AType AField AParam Params) → Layer_field_tree y
field-layer y n h =
    let f = type_facts y.ty.value.0 in
    let at = field-at n (type_pieces y.ty.value.0) f y.ty.value.1 (both_pass (f.is_formed false) true h).0 y.name y.optional in
    record { goes = at.goes; longer = at.longer }

param-layer : (y : ParamType-F AnIntersection APostfix APrimary AType AField AParam Params) → Layer_param_type y
param-layer y n h =
    let f = type_facts y.ty.value.0 in
    let item = param-item n (type_pieces y.ty.value.0) f y.ty.value.1 (both_pass (f.is_formed false) true h).0 y.name in
    record { goes = item.goes; as_last = record { stops = item.as_last.stops; ends = item.as_last.ends } }

params-layer : (y : ParamTypes-F AnIntersection APostfix APrimary AType AField AParam Params) → Layer_param_types y
params-layer y n ks h fits = listed y.rest h fits
  where
    ps : List Pieces
    ps = map param_type_pieces (map (λ e. e.0) y.params.items)

    listed : (rest : Option (Box AType)) → (facts.param_types (parts_of_param_types facts (firsts_of_param_types record { params = y.params; rest = rest }))).is_formed false ≡ true → length (onto (writing.param_types (parts_of_param_types writing (firsts_of_param_types record { params = y.params; rest = rest }))) ks) ≤ n → params (inside n false) (onto (writing.param_types (parts_of_param_types writing (firsts_of_param_types record { params = y.params; rest = rest }))) ks) ≡ Some ks
    listed None h fits = params-law n (map param_type_pieces (map (λ e. e.0) y.params.items)) ks (params-listed n false y.params.items h) (omega arith)
    listed (Some rest) h fits = params-law n (map param_type_pieces (map (λ e. e.0) y.params.items) ++ as_rest (type_pieces rest.value.0) ∷ []) ks (params-listed-rest n false y.params.items rest.value h) (omega arith)

-- ---- the whole

intersection-rolled : (x : IntersectionType-F IntersectionType PostfixType PrimaryType TypeTree FieldTree ParamType ParamTypes) → IntersectionLaw (writing.intersection_type (parts_of_intersection_type writing x)) (facts.intersection_type (parts_of_intersection_type facts x)) → ClaimIntersection (roll-IntersectionType x)
intersection-rolled x h = subst (λ f. IntersectionLaw (of_intersection_type writing (roll-IntersectionType x)) f) (sym (rolled-intersection_type facts x)) (subst (λ p. IntersectionLaw p (facts.intersection_type (parts_of_intersection_type facts x))) (sym (rolled-intersection_type writing x)) h)

intersection-step : (x : IntersectionType-F IntersectionType PostfixType PrimaryType TypeTree FieldTree ParamType ParamTypes) (y : IntersectionType-F AnIntersection APostfix APrimary AType AField AParam Params) → firsts_of_intersection_type y ≡ x → ClaimIntersection (roll-IntersectionType x)
intersection-step x y is = subst (λ z. ClaimIntersection (roll-IntersectionType z)) is (intersection-rolled (firsts_of_intersection_type y) (intersection-layer y))

postfix-rolled : (x : PostfixType-F IntersectionType PostfixType PrimaryType TypeTree FieldTree ParamType ParamTypes) → PostfixLaw (writing.postfix_type (parts_of_postfix_type writing x)) (facts.postfix_type (parts_of_postfix_type facts x)) → ClaimPostfix (roll-PostfixType x)
postfix-rolled x h = subst (λ f. PostfixLaw (of_postfix_type writing (roll-PostfixType x)) f) (sym (rolled-postfix_type facts x)) (subst (λ p. PostfixLaw p (facts.postfix_type (parts_of_postfix_type facts x))) (sym (rolled-postfix_type writing x)) h)

postfix-step : (x : PostfixType-F IntersectionType PostfixType PrimaryType TypeTree FieldTree ParamType ParamTypes) (y : PostfixType-F AnIntersection APostfix APrimary AType AField AParam Params) → firsts_of_postfix_type y ≡ x → ClaimPostfix (roll-PostfixType x)
postfix-step x y is = subst (λ z. ClaimPostfix (roll-PostfixType z)) is (postfix-rolled (firsts_of_postfix_type y) (postfix-layer y))

primary-rolled : (x : PrimaryType-F IntersectionType PostfixType PrimaryType TypeTree FieldTree ParamType ParamTypes) → PrimaryLaw (writing.primary_type (parts_of_primary_type writing x)) (facts.primary_type (parts_of_primary_type facts x)) → ClaimPrimary (roll-PrimaryType x)
primary-rolled x h = subst (λ f. PrimaryLaw (of_primary_type writing (roll-PrimaryType x)) f) (sym (rolled-primary_type facts x)) (subst (λ p. PrimaryLaw p (facts.primary_type (parts_of_primary_type facts x))) (sym (rolled-primary_type writing x)) h)

primary-step : (x : PrimaryType-F IntersectionType PostfixType PrimaryType TypeTree FieldTree ParamType ParamTypes) (y : PrimaryType-F AnIntersection APostfix APrimary AType AField AParam Params) → firsts_of_primary_type y ≡ x → ClaimPrimary (roll-PrimaryType x)
primary-step x y is = subst (λ z. ClaimPrimary (roll-PrimaryType z)) is (primary-rolled (firsts_of_primary_type y) (primary-layer y))

type-rolled : (x : TypeTree-F IntersectionType PostfixType PrimaryType TypeTree FieldTree ParamType ParamTypes) → TypeLaw (writing.type_tree (parts_of_type_tree writing x)) (facts.type_tree (parts_of_type_tree facts x)) → ClaimType (roll-TypeTree x)
type-rolled x h = subst (λ f. TypeLaw (of_type_tree writing (roll-TypeTree x)) f) (sym (rolled-type_tree facts x)) (subst (λ p. TypeLaw p (facts.type_tree (parts_of_type_tree facts x))) (sym (rolled-type_tree writing x)) h)

type-step : (x : TypeTree-F IntersectionType PostfixType PrimaryType TypeTree FieldTree ParamType ParamTypes) (y : TypeTree-F AnIntersection APostfix APrimary AType AField AParam Params) → firsts_of_type_tree y ≡ x → ClaimType (roll-TypeTree x)
type-step x y is = subst (λ z. ClaimType (roll-TypeTree z)) is (type-rolled (firsts_of_type_tree y) (type-layer y))

field-rolled : (x : FieldTree-F IntersectionType PostfixType PrimaryType TypeTree FieldTree ParamType ParamTypes) → FieldClaim (writing.field_tree (parts_of_field_tree writing x)) (facts.field_tree (parts_of_field_tree facts x)) → ClaimField (roll-FieldTree x)
field-rolled x h = subst (λ f. FieldClaim (of_field_tree writing (roll-FieldTree x)) f) (sym (rolled-field_tree facts x)) (subst (λ p. FieldClaim p (facts.field_tree (parts_of_field_tree facts x))) (sym (rolled-field_tree writing x)) h)

field-step : (x : FieldTree-F IntersectionType PostfixType PrimaryType TypeTree FieldTree ParamType ParamTypes) (y : FieldTree-F AnIntersection APostfix APrimary AType AField AParam Params) → firsts_of_field_tree y ≡ x → ClaimField (roll-FieldTree x)
field-step x y is = subst (λ z. ClaimField (roll-FieldTree z)) is (field-rolled (firsts_of_field_tree y) (field-layer y))

param-rolled : (x : ParamType-F IntersectionType PostfixType PrimaryType TypeTree FieldTree ParamType ParamTypes) → ParamClaim (writing.param_type (parts_of_param_type writing x)) (facts.param_type (parts_of_param_type facts x)) → ClaimParam (roll-ParamType x)
param-rolled x h = subst (λ f. ParamClaim (of_param_type writing (roll-ParamType x)) f) (sym (rolled-param_type facts x)) (subst (λ p. ParamClaim p (facts.param_type (parts_of_param_type facts x))) (sym (rolled-param_type writing x)) h)

param-step : (x : ParamType-F IntersectionType PostfixType PrimaryType TypeTree FieldTree ParamType ParamTypes) (y : ParamType-F AnIntersection APostfix APrimary AType AField AParam Params) → firsts_of_param_type y ≡ x → ClaimParam (roll-ParamType x)
param-step x y is = subst (λ z. ClaimParam (roll-ParamType z)) is (param-rolled (firsts_of_param_type y) (param-layer y))

params-rolled : (x : ParamTypes-F IntersectionType PostfixType PrimaryType TypeTree FieldTree ParamType ParamTypes) → ParamsClaim (writing.param_types (parts_of_param_types writing x)) (facts.param_types (parts_of_param_types facts x)) → ClaimParams (roll-ParamTypes x)
params-rolled x h = subst (λ f. ParamsClaim (of_param_types writing (roll-ParamTypes x)) f) (sym (rolled-param_types facts x)) (subst (λ p. ParamsClaim p (facts.param_types (parts_of_param_types facts x))) (sym (rolled-param_types writing x)) h)

params-step : (x : ParamTypes-F IntersectionType PostfixType PrimaryType TypeTree FieldTree ParamType ParamTypes) (y : ParamTypes-F AnIntersection APostfix APrimary AType AField AParam Params) → firsts_of_param_types y ≡ x → ClaimParams (roll-ParamTypes x)
params-step x y is = subst (λ z. ClaimParams (roll-ParamTypes z)) is (params-rolled (firsts_of_param_types y) (params-layer y))

pub type-law : (t : TypeTree) → TypeLaw (type_pieces t) (type_facts t)
type-law = ind-TypeTree ClaimIntersection ClaimPostfix ClaimPrimary ClaimType ClaimField ClaimParam ClaimParams intersection-step postfix-step primary-step type-step field-step param-step params-step
