-- Types made of types that were read: how those that hold lists are written out, and when they are well formed.
use Rattle.std.proofs.Common.{◌≡◌, ℕ, ◌≤◌, Bool, true, false, ◌&&◌, List, [], ◌∷◌, ◌++◌, map, length, Option, None, Some, refl, sym, ap, subst, ◌∙◌, arith}
use Rattle.std.specs.List.{list_all}
use Rattle.std.specs.Global.{Box, Vec}
use Rattle.std.proofs.lemmas.List.Folds.{list_all-append}
use Rattle.bal_base.specs.declared.place.Place.{Place}
use Rattle.bal_base.specs.declared.token.Token.{Token}
use Rattle.bal_base.specs.declared.token.TokenKind.TheVariants.{Keyword as KeywordKind}
use Rattle.bal_base.specs.declared.token.Keyword.TheVariants.{Record, Function, Isolated}
use Rattle.bal_base.specs.declared.token.Sign.TheVariants.{OpenBracket, CloseBracket, OpenParen, CloseParen, OpenBrace, CloseBrace, OpenBraceBar, CloseBraceBar, Comma, Semicolon, Question}
use Rattle.bal_tree.specs.declared.name.Word.{Word}
use Rattle.bal_tree.specs.declared.types.TypeTree.{TypeTree}
use Rattle.bal_tree.specs.declared.types.IntersectionType.TheOpen as layer
use Rattle.bal_tree.specs.declared.types.PrimaryType.{PrimaryType}
use Rattle.bal_tree.specs.declared.types.PrimaryType.TheVariants.{Tuple, rolls-Tuple, ClosedRecord, rolls-ClosedRecord, OpenRecord, rolls-OpenRecord, AnyFunction, rolls-AnyFunction, Function as FunctionType, rolls-Function}
use Rattle.bal_tree.specs.declared.types.FieldTree.{FieldTree, out-FieldTree, roll-out-FieldTree}
use Rattle.bal_tree.specs.declared.types.ParamType.{ParamType, out-ParamType, roll-out-ParamType}
use Rattle.bal_tree.specs.declared.types.ParamTypes.{ParamTypes, ParamTypes-F, out-ParamTypes, roll-out-ParamTypes}
use Rattle.bal_tree.specs.declared.types.IntersectionType.{IntersectionType}
use Rattle.bal_tree.specs.declared.types.PostfixType.{PostfixType}
use Rattle.bal_tree.specs.Parts.{inside, each_inside}
use Rattle.bal_tree.specs.Pieces.{◌&◌, starts, sign, sign_if, key, key_if, if_there, if_boxed, joined, separated}
use Rattle.bal_tree.specs.Spells.{Spells, Heads, first_place}
use Rattle.bal_tree.specs.NamePieces.{word_pieces}
use Rattle.bal_tree.specs.TypeLayers.{of_type_tree, of_field_tree, of_param_type}
use Rattle.bal_tree.specs.TypePieces.{writing, type_pieces, field_pieces, param_type_pieces, param_types_pieces, primary_type_pieces, as_rest, with_last_boxed, function_word, returning}
use Rattle.bal_tree.specs.TypeRules.{TypeFacts, facts, part_is_formed, type_is_formed, field_is_formed, param_type_is_formed, param_types_are_formed, primary_type_is_formed}
use Rattle.bal_tree.proofs.TypeLayers.{type_layers}
use Rattle.bal_tree.proofs.Forms.{type_forms, and-true}
use Rattle.parse_types.specs.Listings.{rest_is_formed, rest_field_pieces}
use Rattle.parse_types.specs.Starts.{Reading}
use Rattle.parse_types.proofs.Readings.{reads-as}
use Rattle.parse_types.proofs.TypeRolls.{rolled-primary_type, rolled-field_tree, rolled-param_type, rolled-param_types, parts_of_param_types}

pub ruleset type_readings = (type_layers, type_forms)

-- ---- lists of parts

module _ (middle : Bool) where
  all-inside : {X : Type 0} (f : X → TypeFacts) (xs : List X) → list_all (part_is_formed middle) (each_inside (map f xs)) ≡ list_all (λ x. (f x).is_formed false) xs
  all-inside f [] = refl
  all-inside f (x ∷ xs) = ap (λ b. (f x).is_formed false && b) (all-inside f xs)

  alone : {X : Type 0} (f : X → TypeFacts) (xs : List X) → list_all (part_is_formed middle) (each_inside (map f xs) ++ []) ≡ (list_all (λ x. (f x).is_formed false) xs && true)
  alone f xs = list_all-append (part_is_formed middle) (each_inside (map f xs)) [] ∙ ap (λ b. b && true) (all-inside f xs)

  with-rest : {X : Type 0} (f : X → TypeFacts) (xs : List X) (r : TypeFacts) → list_all (part_is_formed middle) (each_inside (map f xs) ++ inside r ∷ []) ≡ (list_all (λ x. (f x).is_formed false) xs && r.is_formed false)
  with-rest f xs r =
      list_all-append (part_is_formed middle) (each_inside (map f xs)) (inside r ∷ []) ∙ ap (λ b. b && (r.is_formed false && true)) (all-inside f xs)
      ∙ ap (λ b. list_all (λ x. (f x).is_formed false) xs && b) (and-true (r.is_formed false))

-- ---- tuples

pub tuple-pieces : (members : Vec TypeTree) (last : Option (Box TypeTree)) (at : Place) → primary_type_pieces (Tuple members last at) ≡ (starts at & sign OpenBracket & separated Comma (with_last_boxed (λ t. as_rest (type_pieces t)) (map type_pieces members.items) last) & sign CloseBracket)
tuple-pieces members None at = ap primary_type_pieces (sym (rolls-Tuple members None at)) ∙ rolled-primary_type writing (layer.Tuple members None at)
tuple-pieces members (Some t) at = ap primary_type_pieces (sym (rolls-Tuple members (Some t) at)) ∙ rolled-primary_type writing (layer.Tuple members (Some t) at)

pub tuple-formed : (members : Vec TypeTree) (last : Option (Box TypeTree)) (at : Place) (middle : Bool) → primary_type_is_formed (Tuple members last at) middle ≡ (list_all (λ t. type_is_formed t false) members.items && rest_is_formed false last)
tuple-formed members None at middle =
    ap (λ t. primary_type_is_formed t middle) (sym (rolls-Tuple members None at)) ∙ ap (λ (f : TypeFacts). f.is_formed middle) (rolled-primary_type facts (layer.Tuple members None at))
    ∙ alone middle (of_type_tree facts) members.items
tuple-formed members (Some t) at middle =
    ap (λ x. primary_type_is_formed x middle) (sym (rolls-Tuple members (Some t) at)) ∙ ap (λ (f : TypeFacts). f.is_formed middle) (rolled-primary_type facts (layer.Tuple members (Some t) at))
    ∙ with-rest middle (of_type_tree facts) members.items (of_type_tree facts t.value)

-- ---- records

pub closed_record-pieces : (fields : Vec FieldTree) (last : Option (Box TypeTree)) (at : Place) → primary_type_pieces (ClosedRecord fields last at) ≡ (starts at & key Record & sign OpenBraceBar & joined (map field_pieces fields.items) & rest_field_pieces last & sign CloseBraceBar)
closed_record-pieces fields None at = ap primary_type_pieces (sym (rolls-ClosedRecord fields None at)) ∙ rolled-primary_type writing (layer.ClosedRecord fields None at)
closed_record-pieces fields (Some t) at = ap primary_type_pieces (sym (rolls-ClosedRecord fields (Some t) at)) ∙ rolled-primary_type writing (layer.ClosedRecord fields (Some t) at)

pub closed_record-formed : (fields : Vec FieldTree) (last : Option (Box TypeTree)) (at : Place) (middle : Bool) → primary_type_is_formed (ClosedRecord fields last at) middle ≡ (list_all (λ f. field_is_formed f false) fields.items && rest_is_formed false last)
closed_record-formed fields None at middle =
    ap (λ t. primary_type_is_formed t middle) (sym (rolls-ClosedRecord fields None at)) ∙ ap (λ (f : TypeFacts). f.is_formed middle) (rolled-primary_type facts (layer.ClosedRecord fields None at))
    ∙ alone middle (of_field_tree facts) fields.items
closed_record-formed fields (Some t) at middle =
    ap (λ x. primary_type_is_formed x middle) (sym (rolls-ClosedRecord fields (Some t) at)) ∙ ap (λ (f : TypeFacts). f.is_formed middle) (rolled-primary_type facts (layer.ClosedRecord fields (Some t) at))
    ∙ with-rest middle (of_field_tree facts) fields.items (of_type_tree facts t.value)

pub open_record-pieces : (fields : Vec FieldTree) (at : Place) → primary_type_pieces (OpenRecord fields at) ≡ (starts at & key Record & sign OpenBrace & joined (map field_pieces fields.items) & sign CloseBrace)
open_record-pieces fields at = ap primary_type_pieces (sym (rolls-OpenRecord fields at)) ∙ rolled-primary_type writing (layer.OpenRecord fields at)

pub open_record-formed : (fields : Vec FieldTree) (at : Place) (middle : Bool) → primary_type_is_formed (OpenRecord fields at) middle ≡ list_all (λ f. field_is_formed f false) fields.items
open_record-formed fields at middle =
    ap (λ t. primary_type_is_formed t middle) (sym (rolls-OpenRecord fields at)) ∙ ap (λ (f : TypeFacts). f.is_formed middle) (rolled-primary_type facts (layer.OpenRecord fields at))
    ∙ all-inside middle (of_field_tree facts) fields.items

module _ (f : FieldTree) where
  pub field-pieces : field_pieces f ≡ (starts (out-FieldTree f).at & type_pieces (out-FieldTree f).ty.value & word_pieces (out-FieldTree f).name & sign_if (out-FieldTree f).optional Question & sign Semicolon)
  field-pieces = ap field_pieces (sym (roll-out-FieldTree f)) ∙ rolled-field_tree writing (out-FieldTree f)

  pub field-formed : (middle : Bool) → field_is_formed f middle ≡ type_is_formed (out-FieldTree f).ty.value middle
  field-formed middle =
      ap (λ x. field_is_formed x middle) (sym (roll-out-FieldTree f)) ∙ ap (λ (g : TypeFacts). g.is_formed middle) (rolled-field_tree facts (out-FieldTree f))
      ∙ and-true (type_is_formed (out-FieldTree f).ty.value middle)

pub field-made : (f : FieldTree) (ty : Box TypeTree) (at : Place) → (out-FieldTree f).ty ≡ ty → (out-FieldTree f).at ≡ at → field_pieces f ≡ (starts at & type_pieces ty.value & word_pieces (out-FieldTree f).name & sign_if (out-FieldTree f).optional Question & sign Semicolon)
field-made f ty at ty_is at_is =
    field-pieces f
    ∙ ap (λ x. starts x & type_pieces (out-FieldTree f).ty.value & word_pieces (out-FieldTree f).name & sign_if (out-FieldTree f).optional Question & sign Semicolon) at_is
    ∙ ap (λ (x : Box TypeTree). starts at & type_pieces x.value & word_pieces (out-FieldTree f).name & sign_if (out-FieldTree f).optional Question & sign Semicolon) ty_is

pub field-made-formed : (f : FieldTree) (ty : Box TypeTree) (middle : Bool) → (out-FieldTree f).ty ≡ ty → field_is_formed f middle ≡ type_is_formed ty.value middle
field-made-formed f ty middle ty_is = field-formed f middle ∙ ap (λ (x : Box TypeTree). type_is_formed x.value middle) ty_is

-- ---- parameters

module _ (p : ParamType) where
  pub param-pieces : param_type_pieces p ≡ (starts (out-ParamType p).at & type_pieces (out-ParamType p).ty.value & if_there word_pieces (out-ParamType p).name)
  param-pieces = ap param_type_pieces (sym (roll-out-ParamType p)) ∙ rolled-param_type writing (out-ParamType p)

  pub param-formed : (middle : Bool) → param_type_is_formed p middle ≡ type_is_formed (out-ParamType p).ty.value middle
  param-formed middle =
      ap (λ x. param_type_is_formed x middle) (sym (roll-out-ParamType p)) ∙ ap (λ (g : TypeFacts). g.is_formed middle) (rolled-param_type facts (out-ParamType p))
      ∙ and-true (type_is_formed (out-ParamType p).ty.value middle)

pub param-made : (p : ParamType) (ty : Box TypeTree) (name : Option Word) (at : Place) → (out-ParamType p).ty ≡ ty → (out-ParamType p).name ≡ name → (out-ParamType p).at ≡ at → param_type_pieces p ≡ (starts at & type_pieces ty.value & if_there word_pieces name)
param-made p ty name at ty_is name_is at_is =
    param-pieces p ∙ ap (λ x. starts x & type_pieces (out-ParamType p).ty.value & if_there word_pieces (out-ParamType p).name) at_is
    ∙ ap (λ (x : Box TypeTree). starts at & type_pieces x.value & if_there word_pieces (out-ParamType p).name) ty_is ∙ ap (λ x. starts at & type_pieces ty.value & if_there word_pieces x) name_is

pub param-made-formed : (p : ParamType) (ty : Box TypeTree) (middle : Bool) → (out-ParamType p).ty ≡ ty → param_type_is_formed p middle ≡ type_is_formed ty.value middle
param-made-formed p ty middle ty_is = param-formed p middle ∙ ap (λ (x : Box TypeTree). type_is_formed x.value middle) ty_is

abbrev params_of : Vec ParamType → Option (Box TypeTree) → ParamTypes-F IntersectionType PostfixType PrimaryType TypeTree FieldTree ParamType ParamTypes
params_of params last = record { params = params; rest = last }

module _ (p : ParamTypes) (params : Vec ParamType) (last : Option (Box TypeTree)) (is : (out-ParamTypes p).params ≡ params) (rest : (out-ParamTypes p).rest ≡ last) where
  out-is : out-ParamTypes p ≡ params_of params last
  out-is = ap (λ ps. params_of ps (out-ParamTypes p).rest) is ∙ ap (params_of params) rest

  written-by : param_types_pieces p ≡ writing.param_types (parts_of_param_types writing (params_of params last))
  written-by = ap param_types_pieces (sym (roll-out-ParamTypes p)) ∙ rolled-param_types writing (out-ParamTypes p) ∙ ap (λ x. writing.param_types (parts_of_param_types writing x)) out-is

  formed-by : (middle : Bool) → param_types_are_formed p middle ≡ (facts.param_types (parts_of_param_types facts (params_of params last))).is_formed middle
  formed-by middle =
      ap (λ x. param_types_are_formed x middle) (sym (roll-out-ParamTypes p)) ∙ ap (λ (f : TypeFacts). f.is_formed middle) (rolled-param_types facts (out-ParamTypes p))
      ∙ ap (λ x. (facts.param_types (parts_of_param_types facts x)).is_formed middle) out-is

pub params-pieces : (p : ParamTypes) (params : Vec ParamType) (last : Option (Box TypeTree)) → (out-ParamTypes p).params ≡ params → (out-ParamTypes p).rest ≡ last → param_types_pieces p ≡ (sign OpenParen & separated Comma (with_last_boxed (λ t. as_rest (type_pieces t)) (map param_type_pieces params.items) last) & sign CloseParen)
params-pieces p params None is rest = written-by p params None is rest
params-pieces p params (Some t) is rest = written-by p params (Some t) is rest

pub params-formed : (p : ParamTypes) (params : Vec ParamType) (last : Option (Box TypeTree)) (middle : Bool) → (out-ParamTypes p).params ≡ params → (out-ParamTypes p).rest ≡ last → param_types_are_formed p middle ≡ (list_all (λ q. param_type_is_formed q false) params.items && rest_is_formed false last)
params-formed p params None middle is rest = formed-by p params None is rest middle ∙ alone middle (of_param_type facts) params.items
params-formed p params (Some t) middle is rest = formed-by p params (Some t) is rest middle ∙ with-rest middle (of_param_type facts) params.items (of_type_tree facts t.value)

-- ---- function types

-- `function` alone
pub function-reads : (file : ℕ) (a b c : List Token) (isolated middle : Bool) (at : Place) → at ≡ first_place file a → Spells file (key_if isolated Isolated) a b → length b ≤ length a → Heads (KeywordKind Function) b c → Reading (primary_type_is_formed (AnyFunction isolated at) middle) (primary_type_pieces (AnyFunction isolated at)) file a c
function-reads file a b c isolated middle at here front le heads =
    let one = ap length heads.splits in
    reads-as file a c true (primary_type_is_formed (AnyFunction isolated at) middle) (starts at & function_word isolated) (primary_type_pieces (AnyFunction isolated at))
    (ap (λ t. primary_type_is_formed t middle) (sym (rolls-AnyFunction isolated at)) ∙ ap (λ (f : TypeFacts). f.is_formed middle) (rolled-primary_type facts (layer.AnyFunction isolated at)))
    (ap primary_type_pieces (sym (rolls-AnyFunction isolated at)) ∙ rolled-primary_type writing (layer.AnyFunction isolated at))
    record {
      formed = refl;
      spells = (a, (here, refl), (b, front, heads));
      shorter = omega arith;
    }

function-pieces : (isolated : Bool) (params : ParamTypes) (result : Option (Box TypeTree)) (at : Place) → primary_type_pieces (FunctionType isolated params result at) ≡ (starts at & function_word isolated & param_types_pieces params & if_boxed (λ t. returning (type_pieces t)) result)
function-pieces isolated params None at = ap primary_type_pieces (sym (rolls-Function isolated params None at)) ∙ rolled-primary_type writing (layer.Function isolated params None at)
function-pieces isolated params (Some t) at = ap primary_type_pieces (sym (rolls-Function isolated params (Some t) at)) ∙ rolled-primary_type writing (layer.Function isolated params (Some t) at)

-- the parameters stand between brackets, and the result where the whole stands
function-formed : (isolated : Bool) (params : ParamTypes) (result : Option (Box TypeTree)) (at : Place) (middle : Bool) → param_types_are_formed params false ≡ true → rest_is_formed middle result ≡ true → primary_type_is_formed (FunctionType isolated params result at) middle ≡ true
function-formed isolated params None at middle h k =
    ap (λ t. primary_type_is_formed t middle) (sym (rolls-Function isolated params None at)) ∙ ap (λ (f : TypeFacts). f.is_formed middle) (rolled-primary_type facts (layer.Function isolated params None at))
    ∙ ap (λ b. b && true) h
function-formed isolated params (Some t) at middle h k =
    ap (λ x. primary_type_is_formed x middle) (sym (rolls-Function isolated params (Some t) at)) ∙ ap (λ (f : TypeFacts). f.is_formed middle) (rolled-primary_type facts (layer.Function isolated params (Some t) at))
    ∙ ap (λ b. b && (type_is_formed t.value middle && true)) h ∙ ap (λ b. b && true) k

pub params-reads : (file : ℕ) (a b c d e : List Token) (isolated : Bool) (params : ParamTypes) (result : Option (Box TypeTree)) (middle : Bool) (at : Place) → at ≡ first_place file a → Spells file (key_if isolated Isolated) a b → length b ≤ length a → Heads (KeywordKind Function) b c → Reading (param_types_are_formed params false) (param_types_pieces params) file c d → rest_is_formed middle result ≡ true → Spells file (if_boxed (λ t. returning (type_pieces t)) result) d e → length e ≤ length d → Reading (primary_type_is_formed (FunctionType isolated params result at) middle) (primary_type_pieces (FunctionType isolated params result at)) file a e
params-reads file a b c d e isolated params result middle at here front le heads listed formed back le2 =
    let one = ap length heads.splits in
    record {
      formed = function-formed isolated params result at middle listed.formed formed;
      spells = subst (λ q. Spells file q a e) (sym (function-pieces isolated params result at)) (a, (here, refl), (c, (b, front, heads), (d, listed.spells, back)));
      shorter = omega (arith, listed.shorter);
    }
