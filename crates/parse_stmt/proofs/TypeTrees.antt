-- Two types of the same tokens are alike.
use Rattle.std.proofs.Common.{◌≡◌, suc, Bool, true, false, List, [], ◌∷◌, ◌++◌, map, length, Option, None, Some, refl, sym, ap, ◌∙◌, subst, arith}
use Rattle.std.specs.Global.{Box}
use Rattle.std.specs.List.{list_all}
use Rattle.std.proofs.lemmas.List.{append-nil}
use Rattle.bal_base.specs.declared.token.TokenKind.TheVariants.{Word as WordKind, Sign as SignKind}
use Rattle.bal_base.specs.declared.token.Sign.{Sign}
use Rattle.bal_base.specs.declared.token.Sign.TheVariants.{CloseParen, CloseBracket, Comma, Ellipsis, Semicolon, Question}
use Rattle.bal_tree.specs.declared.name.Word.{Word}
use Rattle.bal_tree.specs.declared.types.FieldTree.{FieldTree, FieldTree-F, roll-FieldTree, map-FieldTree, out-FieldTree, roll-out-FieldTree}
use Rattle.bal_tree.specs.declared.types.IntersectionType.{IntersectionType}
use Rattle.bal_tree.specs.declared.types.ParamType.{ParamType, ParamType-F, roll-ParamType, map-ParamType, out-ParamType, roll-out-ParamType}
use Rattle.bal_tree.specs.declared.types.ParamTypes.{ParamTypes}
use Rattle.bal_tree.specs.declared.types.PostfixType.{PostfixType}
use Rattle.bal_tree.specs.declared.types.PrimaryType.{PrimaryType}
use Rattle.bal_tree.specs.declared.types.TypeTree.{TypeTree}
use Rattle.bal_tree.specs.NamePieces.{word_pieces}
use Rattle.bal_tree.specs.Parts.{Part, inside as inside_part, each_inside}
use Rattle.bal_tree.specs.Pieces.{Pieces, ◌&◌, if_there, separated, sign, sign_if}
use Rattle.bal_tree.specs.Spells.{onto}
use Rattle.bal_tree.specs.TypeLayers.{of_field_tree, of_param_type, of_param_types}
use Rattle.bal_tree.specs.TypePieces.{as_rest, type_pieces, writing}
use Rattle.bal_tree.specs.TypeRules.{TypeEnd, TypeFacts, facts, part_is_formed, type_is_formed}
use Rattle.parse_types.specs.Reaches.{inside, sign_type}
use Rattle.token_steps.specs.Tokens.{Kinds, take_sign, take_word}
use Rattle.parse_types.proofs.Follows.{Closes}
use Rattle.parse_types.proofs.Law.{before, both_pass}
use Rattle.parse_types.proofs.ListLaw.{ellipsis-closes}
use Rattle.parse_types.proofs.PrimaryLaw.{no-type, paren-closes, word-closes}
use Rattle.parse_types.proofs.TypeRolls.{parts_of_field_tree, parts_of_param_type, rolled-field_tree, rolled-param_type}
use Rattle.parse_types.proofs.WholeLaw.{type-law}
use Rattle.parse_stmt.proofs.Alike.{Alike, Same, behind_first}
use Rattle.parse_stmt.proofs.PartTree.{lists-same}
use Rattle.parse_stmt.proofs.TypeSpines.{IsIntersection, IsPostfix, IsUnion, OneIntersection, OnePostfix, OnePrimary, Pair, Told, closes-after, one-type, told_intersection, told_postfix, told_type}

-- ---- what is claimed

abbrev pub told_field : FieldTree → Told
told_field t = record { facts = of_field_tree facts t; pieces = of_field_tree writing t }

abbrev pub told_param : ParamType → Told
told_param t = record { facts = of_param_type facts t; pieces = of_param_type writing t }

abbrev pub told_params : ParamTypes → Told
told_params t = record { facts = of_param_types facts t; pieces = of_param_types writing t }

abbrev pub Anything : Bool → TypeEnd → Kinds → Type 0
Anything middle end ks = Unit {0}

-- the end of a part of a list
pub record ItemEnds (ks : Kinds) : Type 0 where
  pub closes : Closes ks
  pub no_word : take_word ks ≡ None
  pub no_ellipsis : take_sign Ellipsis ks ≡ None

abbrev pub AtItemEnd : Bool → TypeEnd → Kinds → Type 0
AtItemEnd middle end ks = ItemEnds ks

abbrev pub QI : IntersectionType → Type 0
QI t = IsIntersection OnePostfix (told_intersection t)

abbrev pub QP : PostfixType → Type 0
QP t = IsPostfix OnePrimary (told_postfix t)

abbrev pub QT : TypeTree → Type 0
QT t = IsUnion OneIntersection (told_type t)

-- a field is no rest
abbrev pub NoRest : (Kinds → Type 0) → Told → Type 0
NoRest W a = (middle : Bool) (u : TypeTree) (ks zs : Kinds) → a.facts.is_formed middle ≡ true → type_is_formed u middle ≡ true → W ks → onto a.pieces ks ≡ onto (type_pieces u) (SignKind Ellipsis ∷ zs) → ⊥

abbrev pub QF : FieldTree → Type 0
QF t = ((u : FieldTree) → Pair Anything (told_field t) (told_field u)) × NoRest (λ ks. Unit {0}) (told_field t)

abbrev pub QA : ParamType → Type 0
QA t = ((u : ParamType) → Pair AtItemEnd (told_param t) (told_param u)) × NoRest ItemEnds (told_param t)

abbrev pub QS : ParamTypes → Type 0
QS t = (u : ParamTypes) → Pair Anything (told_params t) (told_params u)

abbrev pub AType : Type 0
AType = (t : TypeTree) × QT t

abbrev pub AField : Type 0
AField = (t : FieldTree) × QF t

abbrev pub AParam : Type 0
AParam = (t : ParamType) × QA t

-- ---- types before what ends them

pub type-then : (t u : TypeTree) (middle : Bool) (ks ls : Kinds) → QT t → type_is_formed t middle ≡ true → type_is_formed u middle ≡ true → Closes ks → Closes ls → onto (type_pieces t) ks ≡ onto (type_pieces u) ls → Same (type_pieces t) (type_pieces u) ks ls
type-then t u middle ks ls q f g c d e = one-type t q u middle ks ls f g (closes-after middle (told_type t).facts.end ks c) (closes-after middle (told_type u).facts.end ls d) e

-- no type begins with a sign that is none of its first ones
pub no-first : (s : Sign) (t : TypeTree) (middle : Bool) (ks zs : Kinds) → ((inner : Bool → Kinds → Option Kinds) (m : Bool) → sign_type inner m s (SignKind s ∷ zs) ≡ None) → type_is_formed t middle ≡ true → Closes ks → SignKind s ∷ zs ≡ onto (type_pieces t) ks → ⊥
no-first s t middle ks zs none f c e =
    let n = suc (length (onto (type_pieces t) ks)) in
    let bad : None ≡ Some ks = sym (no-type s zs none n middle) ∙ ap (inside n middle) e ∙ before (type_pieces t) (told_type t).facts (type-law t) n middle ks f (omega arith) c in
    cc bad

pub semicolon-closes : (ks : Kinds) → Closes (SignKind Semicolon ∷ ks)
semicolon-closes ks = record { less = refl; paren = refl; colon = refl; returns = refl; ends = record { no_suffix = refl; no_ampersand = refl; no_bar = refl } }

comma-ends : (ks : Kinds) → ItemEnds (SignKind Comma ∷ ks)
comma-ends ks = record { closes = record { less = refl; paren = refl; colon = refl; returns = refl; ends = record { no_suffix = refl; no_ampersand = refl; no_bar = refl } }; no_word = refl; no_ellipsis = refl }

pub paren-ends : (ks : Kinds) → ItemEnds (SignKind CloseParen ∷ ks)
paren-ends ks = record { closes = paren-closes ks; no_word = refl; no_ellipsis = refl }

pub bracket-ends : (ks : Kinds) → ItemEnds (SignKind CloseBracket ∷ ks)
bracket-ends ks = record { closes = record { less = refl; paren = refl; colon = refl; returns = refl; ends = record { no_suffix = refl; no_ampersand = refl; no_bar = refl } }; no_word = refl; no_ellipsis = refl }

-- ---- fields

abbrev field_behind : Word → Bool → Pieces
field_behind w optional = word_pieces w & sign_if optional Question & sign Semicolon

field-behind-same : (w v : Word) (p q : Bool) (ks ls : Kinds) → onto (field_behind w p) ks ≡ onto (field_behind v q) ls → Same (field_behind w p) (field_behind v q) ks ls
field-behind-same w v true true ks ls e = (((tt, cc e), (refl, refl)), cc e)
field-behind-same w v false false ks ls e = (((tt, cc e), (tt, refl)), cc e)
field-behind-same w v true false ks ls e = cc e
field-behind-same w v false true ks ls e = cc e

abbrev pub LayerOfField : Type 0
LayerOfField = FieldTree-F IntersectionType PostfixType PrimaryType TypeTree FieldTree ParamType ParamTypes

abbrev layer_field : LayerOfField → Told
layer_field x = record { facts = facts.field_tree (parts_of_field_tree facts x); pieces = writing.field_tree (parts_of_field_tree writing x) }

told-field : (x : LayerOfField) → told_field (roll-FieldTree x) ≡ layer_field x
told-field x = λ i. record { facts = rolled-field_tree facts x i; pieces = rolled-field_tree writing x i }

abbrev firsts_of_field : FieldTree-F ((t : IntersectionType) × QI t) ((t : PostfixType) × QP t) ((t : PrimaryType) × OnePrimary t) AType AField AParam ((t : ParamTypes) × QS t) → LayerOfField
firsts_of_field = map-FieldTree ((t : IntersectionType) × QI t) ((t : PostfixType) × QP t) ((t : PrimaryType) × OnePrimary t) AType AField AParam ((t : ParamTypes) × QS t) IntersectionType PostfixType PrimaryType TypeTree FieldTree ParamType ParamTypes (λ e. e.0) (λ e. e.0) (λ e. e.0) (λ e. e.0) (λ e. e.0) (λ e. e.0) (λ e. e.0)

field-pair : (y : FieldTree-F ((t : IntersectionType) × QI t) ((t : PostfixType) × QP t) ((t : PrimaryType) × OnePrimary t) AType AField AParam ((t : ParamTypes) × QS t)) (x : LayerOfField) → Pair Anything (layer_field (firsts_of_field y)) (layer_field x)
field-pair y x middle ks ls f g h k e =
    let zs = onto (sign_if y.optional Question & sign Semicolon) ks in
    let ws = onto (sign_if x.optional Question & sign Semicolon) ls in
    let a = (both_pass ((told_type y.ty.value.0).facts.is_formed middle) true f).0 in
    let b = (both_pass ((told_type x.ty.value).facts.is_formed middle) true g).0 in
    let s = type-then y.ty.value.0 x.ty.value middle (WordKind y.name.name ∷ zs) (WordKind x.name.name ∷ ws) y.ty.value.1 a b (word-closes y.name.name zs) (word-closes x.name.name ws) e in
    let r = field-behind-same y.name x.name y.optional x.optional ks ls s.1 in
    ((tt, (s.0, r.0)), r.1)

field-no-rest : (y : FieldTree-F ((t : IntersectionType) × QI t) ((t : PostfixType) × QP t) ((t : PrimaryType) × OnePrimary t) AType AField AParam ((t : ParamTypes) × QS t)) → NoRest (λ ks. Unit {0}) (layer_field (firsts_of_field y))
field-no-rest y middle u ks zs f g w e =
    let ws = onto (sign_if y.optional Question & sign Semicolon) ks in
    let a = (both_pass ((told_type y.ty.value.0).facts.is_formed middle) true f).0 in
    let s = type-then y.ty.value.0 u middle (WordKind y.name.name ∷ ws) (SignKind Ellipsis ∷ zs) y.ty.value.1 a g (word-closes y.name.name ws) (ellipsis-closes zs) e in
    let bad : WordKind y.name.name ∷ ws ≡ SignKind Ellipsis ∷ zs = s.1 in
    cc bad

pub field-step : (x : LayerOfField) (y : FieldTree-F ((t : IntersectionType) × QI t) ((t : PostfixType) × QP t) ((t : PrimaryType) × OnePrimary t) AType AField AParam ((t : ParamTypes) × QS t)) → firsts_of_field y ≡ x → QF (roll-FieldTree x)
field-step x y is = (
  λ u. subst (λ v. Pair Anything (told_field (roll-FieldTree x)) (told_field v)) (roll-out-FieldTree u)
      (subst (λ a. Pair Anything a (told_field (roll-FieldTree (out-FieldTree u)))) (sym (told-field x)) (subst (λ b. Pair Anything (layer_field x) b) (sym (told-field (out-FieldTree u))) (subst (λ z. Pair Anything (layer_field z) (layer_field (out-FieldTree u))) is (field-pair y (out-FieldTree u))))),
  subst (NoRest (λ ks. Unit {0})) (sym (told-field x)) (subst (λ z. NoRest (λ ks. Unit {0}) (layer_field z)) is (field-no-rest y)),
)

-- a field does not begin with these signs
pub field-no-first : (s : Sign) (u : FieldTree) (middle : Bool) (ks zs : Kinds) → ((inner : Bool → Kinds → Option Kinds) (m : Bool) → sign_type inner m s (SignKind s ∷ zs) ≡ None) → (told_field u).facts.is_formed middle ≡ true → SignKind s ∷ zs ≡ onto (told_field u).pieces ks → ⊥
field-no-first s u middle ks zs none = subst (λ v. (told_field v).facts.is_formed middle ≡ true → SignKind s ∷ zs ≡ onto (told_field v).pieces ks → ⊥) (roll-out-FieldTree u) (at (out-FieldTree u))
  where
    at : (x : LayerOfField) → (told_field (roll-FieldTree x)).facts.is_formed middle ≡ true → SignKind s ∷ zs ≡ onto (told_field (roll-FieldTree x)).pieces ks → ⊥
    at x = subst (λ (a : Told). a.facts.is_formed middle ≡ true → SignKind s ∷ zs ≡ onto a.pieces ks → ⊥) (sym (told-field x))
        (λ f e. no-first s x.ty.value middle (onto (field_behind x.name x.optional) ks) zs none (both_pass ((told_type x.ty.value).facts.is_formed middle) true f).0 (word-closes x.name.name (onto (sign_if x.optional Question & sign Semicolon) ks)) e)

-- nor is it what takes the rest
pub rest-no-field : (t : TypeTree) → QT t → (u : FieldTree) (middle : Bool) (ks zs : Kinds) → type_is_formed t middle ≡ true → (told_field u).facts.is_formed middle ≡ true → onto (type_pieces t) (SignKind Ellipsis ∷ zs) ≡ onto (told_field u).pieces ks → ⊥
rest-no-field t q u middle ks zs f = subst (λ v. (told_field v).facts.is_formed middle ≡ true → onto (type_pieces t) (SignKind Ellipsis ∷ zs) ≡ onto (told_field v).pieces ks → ⊥) (roll-out-FieldTree u) (at (out-FieldTree u))
  where
    at : (x : LayerOfField) → (told_field (roll-FieldTree x)).facts.is_formed middle ≡ true → onto (type_pieces t) (SignKind Ellipsis ∷ zs) ≡ onto (told_field (roll-FieldTree x)).pieces ks → ⊥
    at x = subst (λ (a : Told). a.facts.is_formed middle ≡ true → onto (type_pieces t) (SignKind Ellipsis ∷ zs) ≡ onto a.pieces ks → ⊥) (sym (told-field x))
        (λ g e.
        let ws = onto (sign_if x.optional Question & sign Semicolon) ks in
        let s = type-then t x.ty.value middle (SignKind Ellipsis ∷ zs) (WordKind x.name.name ∷ ws) q f (both_pass ((told_type x.ty.value).facts.is_formed middle) true g).0 (ellipsis-closes zs) (word-closes x.name.name ws) e in
        let bad : SignKind Ellipsis ∷ zs ≡ WordKind x.name.name ∷ ws = s.1 in
        cc bad)

-- ---- parameters of function types

abbrev LayerOfParam : Type 0
LayerOfParam = ParamType-F IntersectionType PostfixType PrimaryType TypeTree FieldTree ParamType ParamTypes

abbrev KnownParam : Type 0
KnownParam = ParamType-F ((t : IntersectionType) × QI t) ((t : PostfixType) × QP t) ((t : PrimaryType) × OnePrimary t) AType AField AParam ((t : ParamTypes) × QS t)

abbrev layer_param : LayerOfParam → Told
layer_param x = record { facts = facts.param_type (parts_of_param_type facts x); pieces = writing.param_type (parts_of_param_type writing x) }

told-param : (x : LayerOfParam) → told_param (roll-ParamType x) ≡ layer_param x
told-param x = λ i. record { facts = rolled-param_type facts x i; pieces = rolled-param_type writing x i }

abbrev firsts_of_param : KnownParam → LayerOfParam
firsts_of_param = map-ParamType ((t : IntersectionType) × QI t) ((t : PostfixType) × QP t) ((t : PrimaryType) × OnePrimary t) AType AField AParam ((t : ParamTypes) × QS t) IntersectionType PostfixType PrimaryType TypeTree FieldTree ParamType ParamTypes (λ e. e.0) (λ e. e.0) (λ e. e.0) (λ e. e.0) (λ e. e.0) (λ e. e.0) (λ e. e.0)

named-closes : (m : Option Word) (ks : Kinds) → Closes ks → Closes (onto (if_there word_pieces m) ks)
named-closes None ks c = c
named-closes (Some w) ks c = word-closes w.name ks

no-word-here : (w : Word) (ks ls : Kinds) → ItemEnds ks → ks ≡ WordKind w.name ∷ ls → ⊥
no-word-here w ks ls h e = let bad : None ≡ Some ls = sym h.no_word ∙ ap take_word e in cc bad

names-same : (m n : Option Word) (ks ls : Kinds) → ItemEnds ks → ItemEnds ls → onto (if_there word_pieces m) ks ≡ onto (if_there word_pieces n) ls → Same (if_there word_pieces m) (if_there word_pieces n) ks ls
names-same None None ks ls h k e = (tt, e)
names-same None (Some w) ks ls h k e = absurd (no-word-here w ks ls h e)
names-same (Some w) None ks ls h k e = absurd (no-word-here w ls ks k (sym e))
names-same (Some w) (Some v) ks ls h k e = ((tt, cc e), cc e)

no-ellipsis-here : (m : Option Word) (ks zs : Kinds) → ItemEnds ks → onto (if_there word_pieces m) ks ≡ SignKind Ellipsis ∷ zs → ⊥
no-ellipsis-here None ks zs h e = let bad : None ≡ Some zs = sym h.no_ellipsis ∙ ap (take_sign Ellipsis) e in cc bad
no-ellipsis-here (Some w) ks zs h e = cc e

param-pair : (y : KnownParam) (x : LayerOfParam) → Pair AtItemEnd (layer_param (firsts_of_param y)) (layer_param x)
param-pair y x middle ks ls f g h k e =
    let a = (both_pass ((told_type y.ty.value.0).facts.is_formed middle) true f).0 in
    let b = (both_pass ((told_type x.ty.value).facts.is_formed middle) true g).0 in
    let s = type-then y.ty.value.0 x.ty.value middle (onto (if_there word_pieces y.name) ks) (onto (if_there word_pieces x.name) ls) y.ty.value.1 a b (named-closes y.name ks h.closes) (named-closes x.name ls k.closes) e in
    let r = names-same y.name x.name ks ls h k s.1 in
    ((tt, (s.0, r.0)), r.1)

param-no-rest : (y : KnownParam) → NoRest ItemEnds (layer_param (firsts_of_param y))
param-no-rest y middle u ks zs f g w e =
    let a = (both_pass ((told_type y.ty.value.0).facts.is_formed middle) true f).0 in
    let s = type-then y.ty.value.0 u middle (onto (if_there word_pieces y.name) ks) (SignKind Ellipsis ∷ zs) y.ty.value.1 a g (named-closes y.name ks w.closes) (ellipsis-closes zs) e in
    no-ellipsis-here y.name ks zs w s.1

pub param-step : (x : LayerOfParam) (y : KnownParam) → firsts_of_param y ≡ x → QA (roll-ParamType x)
param-step x y is = (
  λ u. subst (λ v. Pair AtItemEnd (told_param (roll-ParamType x)) (told_param v)) (roll-out-ParamType u)
      (subst (λ a. Pair AtItemEnd a (told_param (roll-ParamType (out-ParamType u)))) (sym (told-param x)) (subst (λ b. Pair AtItemEnd (layer_param x) b) (sym (told-param (out-ParamType u))) (subst (λ z. Pair AtItemEnd (layer_param z) (layer_param (out-ParamType u))) is (param-pair y (out-ParamType u))))),
  subst (NoRest ItemEnds) (sym (told-param x)) (subst (λ z. NoRest ItemEnds (layer_param z)) is (param-no-rest y)),
)

-- what takes the rest is no parameter
pub rest-no-param : (t : TypeTree) → QT t → (u : ParamType) (middle : Bool) (ks zs : Kinds) → type_is_formed t middle ≡ true → (told_param u).facts.is_formed middle ≡ true → ItemEnds ks → onto (type_pieces t) (SignKind Ellipsis ∷ zs) ≡ onto (told_param u).pieces ks → ⊥
rest-no-param t q u middle ks zs f = subst (λ v. (told_param v).facts.is_formed middle ≡ true → ItemEnds ks → onto (type_pieces t) (SignKind Ellipsis ∷ zs) ≡ onto (told_param v).pieces ks → ⊥) (roll-out-ParamType u) (at (out-ParamType u))
  where
    at : (x : LayerOfParam) → (told_param (roll-ParamType x)).facts.is_formed middle ≡ true → ItemEnds ks → onto (type_pieces t) (SignKind Ellipsis ∷ zs) ≡ onto (told_param (roll-ParamType x)).pieces ks → ⊥
    at x = subst (λ (a : Told). a.facts.is_formed middle ≡ true → ItemEnds ks → onto (type_pieces t) (SignKind Ellipsis ∷ zs) ≡ onto a.pieces ks → ⊥) (sym (told-param x))
        (λ g w e.
        let s = type-then t x.ty.value middle (SignKind Ellipsis ∷ zs) (onto (if_there word_pieces x.name) ks) q f (both_pass ((told_type x.ty.value).facts.is_formed middle) true g).0 (ellipsis-closes zs) (named-closes x.name ks w.closes) e in
        no-ellipsis-here x.name ks zs w (sym s.1))

pub param-no-first : (s : Sign) (u : ParamType) (middle : Bool) (ks zs : Kinds) → ((inner : Bool → Kinds → Option Kinds) (m : Bool) → sign_type inner m s (SignKind s ∷ zs) ≡ None) → (told_param u).facts.is_formed middle ≡ true → ItemEnds ks → SignKind s ∷ zs ≡ onto (told_param u).pieces ks → ⊥
param-no-first s u middle ks zs none = subst (λ v. (told_param v).facts.is_formed middle ≡ true → ItemEnds ks → SignKind s ∷ zs ≡ onto (told_param v).pieces ks → ⊥) (roll-out-ParamType u) (at (out-ParamType u))
  where
    at : (x : LayerOfParam) → (told_param (roll-ParamType x)).facts.is_formed middle ≡ true → ItemEnds ks → SignKind s ∷ zs ≡ onto (told_param (roll-ParamType x)).pieces ks → ⊥
    at x = subst (λ (a : Told). a.facts.is_formed middle ≡ true → ItemEnds ks → SignKind s ∷ zs ≡ onto a.pieces ks → ⊥) (sym (told-param x))
        (λ f w e. no-first s x.ty.value middle (onto (if_there word_pieces x.name) ks) zs none (both_pass ((told_type x.ty.value).facts.is_formed middle) true f).0 (named-closes x.name ks w.closes) e)

-- ---- lists of parts, and what takes the rest as the last of them

pub data Item (P R : Type 0) : Type 0 where
  plain : P → Item P R
  last : R → Item P R

abbrev pub rest_parts : Option (Box TypeTree) → List (Part TypeFacts)
rest_parts None = []
rest_parts (Some r) = inside_part (told_type r.value).facts ∷ []

abbrev pub last_pieces : List Pieces → Option (Box TypeTree) → List Pieces
last_pieces ps None = ps
last_pieces ps (Some r) = ps ++ as_rest (type_pieces r.value) ∷ []

module _ {T : Type 0} (told : T → Told) (Q : T → Type 0) where
  abbrev pub Left : Type 0
  Left = Item ((t : T) × ((told t).facts.is_formed false ≡ true) × Q t) ((t : TypeTree) × (type_is_formed t false ≡ true) × QT t)

  abbrev pub left_pieces : Left → Pieces
  left_pieces (plain x) = (told x.0).pieces
  left_pieces (last t) = as_rest (type_pieces t.0)

  module _ (middle : Bool) (rest : List (Part TypeFacts)) (more : list_all (part_is_formed middle) rest ≡ true → List Left) where
    lefts : (xs : List ((t : T) × Q t)) → list_all (part_is_formed middle) (each_inside (map (λ t. (told t).facts) (map (λ e. e.0) xs)) ++ rest) ≡ true → List Left
    lefts [] h = more h
    lefts (x ∷ xs) h = let b = both_pass ((told x.0).facts.is_formed false) (list_all (part_is_formed middle) (each_inside (map (λ t. (told t).facts) (map (λ e. e.0) xs)) ++ rest)) h in plain (x.0, b.0, x.1) ∷ lefts xs b.1

    lefts-are : (ps : List Pieces) → ((h : list_all (part_is_formed middle) rest ≡ true) → map left_pieces (more h) ≡ ps) → (xs : List ((t : T) × Q t)) (h : list_all (part_is_formed middle) (each_inside (map (λ t. (told t).facts) (map (λ e. e.0) xs)) ++ rest) ≡ true) → map left_pieces (lefts xs h) ≡ map (λ t. (told t).pieces) (map (λ e. e.0) xs) ++ ps
    unfolding lefts
    lefts-are ps is [] h = is h
    lefts-are ps is (x ∷ xs) h =
        ap (λ qs. (told x.0).pieces ∷ qs) (lefts-are ps is xs (both_pass ((told x.0).facts.is_formed false) (list_all (part_is_formed middle) (each_inside (map (λ t. (told t).facts) (map (λ e. e.0) xs)) ++ rest)) h).1)

  abbrev pub firsts : Option (Box AType) → Option (Box TypeTree)
  firsts None = None
  firsts (Some r) = Some record { ptr = r.ptr; alloc = r.alloc; value = r.value.0 }

  left-list : (middle : Bool) (xs : List ((t : T) × Q t)) (m : Option (Box AType)) → list_all (part_is_formed middle) (each_inside (map (λ t. (told t).facts) (map (λ e. e.0) xs)) ++ rest_parts (firsts m)) ≡ true → (l : List Left) × (map left_pieces l ≡ last_pieces (map (λ t. (told t).pieces) (map (λ e. e.0) xs)) (firsts m))
  left-list middle xs None h =
      (lefts middle [] (λ k. []) xs h, lefts-are middle [] (λ k. []) [] (λ k. refl) xs h ∙ append-nil (map (λ t. (told t).pieces) (map (λ e. e.0) xs)))
  left-list middle xs (Some r) h =
      let f = (told_type r.value.0).facts in
      let more : list_all (part_is_formed middle) (inside_part f ∷ []) ≡ true → List Left = λ k. last (r.value.0, (both_pass (f.is_formed false) true k).0, r.value.1) ∷ [] in
      (lefts middle (inside_part f ∷ []) more xs h, lefts-are middle (inside_part f ∷ []) more (as_rest (type_pieces r.value.0) ∷ []) (λ k. refl) xs h)

  abbrev pub Right : Type 0
  Right = Item ((t : T) × ((told t).facts.is_formed false ≡ true)) ((t : TypeTree) × (type_is_formed t false ≡ true))

  abbrev pub right_pieces : Right → Pieces
  right_pieces (plain x) = (told x.0).pieces
  right_pieces (last t) = as_rest (type_pieces t.0)

  module _ (middle : Bool) (rest : List (Part TypeFacts)) (more : list_all (part_is_formed middle) rest ≡ true → List Right) where
    rights : (xs : List T) → list_all (part_is_formed middle) (each_inside (map (λ t. (told t).facts) xs) ++ rest) ≡ true → List Right
    rights [] h = more h
    rights (x ∷ xs) h = let b = both_pass ((told x).facts.is_formed false) (list_all (part_is_formed middle) (each_inside (map (λ t. (told t).facts) xs) ++ rest)) h in plain (x, b.0) ∷ rights xs b.1

    rights-are : (ps : List Pieces) → ((h : list_all (part_is_formed middle) rest ≡ true) → map right_pieces (more h) ≡ ps) → (xs : List T) (h : list_all (part_is_formed middle) (each_inside (map (λ t. (told t).facts) xs) ++ rest) ≡ true) → map right_pieces (rights xs h) ≡ map (λ t. (told t).pieces) xs ++ ps
    unfolding rights
    rights-are ps is [] h = is h
    rights-are ps is (x ∷ xs) h =
        ap (λ qs. (told x).pieces ∷ qs) (rights-are ps is xs (both_pass ((told x).facts.is_formed false) (list_all (part_is_formed middle) (each_inside (map (λ t. (told t).facts) xs) ++ rest)) h).1)

  right-list : (middle : Bool) (xs : List T) (m : Option (Box TypeTree)) → list_all (part_is_formed middle) (each_inside (map (λ t. (told t).facts) xs) ++ rest_parts m) ≡ true → (l : List Right) × (map right_pieces l ≡ last_pieces (map (λ t. (told t).pieces) xs) m)
  right-list middle xs None h =
      (rights middle [] (λ k. []) xs h, rights-are middle [] (λ k. []) [] (λ k. refl) xs h ∙ append-nil (map (λ t. (told t).pieces) xs))
  right-list middle xs (Some r) h =
      let f = (told_type r.value).facts in
      let more : list_all (part_is_formed middle) (inside_part f ∷ []) ≡ true → List Right = λ k. last (r.value, (both_pass (f.is_formed false) true k).0) ∷ [] in
      (rights middle (inside_part f ∷ []) more xs h, rights-are middle (inside_part f ∷ []) more (as_rest (type_pieces r.value) ∷ []) (λ k. refl) xs h)

  -- the whole lists, up to the closing sign
  module _ (c : Sign) (differ : (ks ls : Kinds) → SignKind c ∷ ks ≡ SignKind Comma ∷ ls → ⊥) (at-end : (ks : Kinds) → ItemEnds (SignKind c ∷ ks)) (none : (inner : Bool → Kinds → Option Kinds) (m : Bool) (zs : Kinds) → sign_type inner m c (SignKind c ∷ zs) ≡ None)
      (plains : (x : T) → Q x → (y : T) (ks ls : Kinds) → (told x).facts.is_formed false ≡ true → (told y).facts.is_formed false ≡ true → ItemEnds ks → ItemEnds ls → onto (told x).pieces ks ≡ onto (told y).pieces ls → Same (told x).pieces (told y).pieces ks ls)
      (plain-last : (x : T) → Q x → (u : TypeTree) (ks zs : Kinds) → (told x).facts.is_formed false ≡ true → type_is_formed u false ≡ true → ItemEnds ks → onto (told x).pieces ks ≡ onto (type_pieces u) (SignKind Ellipsis ∷ zs) → ⊥)
      (last-plain : (t : TypeTree) → QT t → (y : T) (ks zs : Kinds) → type_is_formed t false ≡ true → (told y).facts.is_formed false ≡ true → ItemEnds ks → onto (type_pieces t) (SignKind Ellipsis ∷ zs) ≡ onto (told y).pieces ks → ⊥)
      (no-plain : (y : T) (ks zs : Kinds) → (told y).facts.is_formed false ≡ true → ItemEnds ks → SignKind c ∷ zs ≡ onto (told y).pieces ks → ⊥) where
    item-same : (x : Left) (y : Right) (ks ls : Kinds) → ItemEnds ks → ItemEnds ls → onto (left_pieces x) ks ≡ onto (right_pieces y) ls → Same (left_pieces x) (right_pieces y) ks ls
    item-same (plain x) (plain y) ks ls h k e = plains x.0 x.2 y.0 ks ls x.1 y.1 h k e
    item-same (plain x) (last u) ks ls h k e = absurd (plain-last x.0 x.2 u.0 ks ls x.1 u.1 h e)
    item-same (last t) (plain y) ks ls h k e = absurd (last-plain t.0 t.2 y.0 ls ks t.1 y.1 k e)
    item-same (last t) (last u) ks ls h k e =
        let s = type-then t.0 u.0 false (SignKind Ellipsis ∷ ks) (SignKind Ellipsis ∷ ls) t.2 t.1 u.1 (ellipsis-closes ks) (ellipsis-closes ls) e in
        ((s.0, refl), ap behind_first s.1)

    -- what is no part: it stands before what ends a part
    no-left : (x : Left) (ks zs : Kinds) → ItemEnds ks → SignKind c ∷ zs ≡ onto (left_pieces x) ks → ⊥
    no-left (plain x) ks zs w e = no-plain x.0 ks zs x.1 w e
    no-left (last t) ks zs w e = no-first c t.0 false (SignKind Ellipsis ∷ ks) zs (λ i m. none i m zs) t.1 (ellipsis-closes ks) e

    no-right : (x : Right) (ks zs : Kinds) → ItemEnds ks → SignKind c ∷ zs ≡ onto (right_pieces x) ks → ⊥
    no-right (plain x) ks zs w e = no-plain x.0 ks zs x.1 w e
    no-right (last t) ks zs w e = no-first c t.0 false (SignKind Ellipsis ∷ ks) zs (λ i m. none i m zs) t.1 (ellipsis-closes ks) e

    pub listed : (middle : Bool) (xs : List ((t : T) × Q t)) (m : Option (Box AType)) (us : List T) (n : Option (Box TypeTree)) (ks ls : Kinds) → list_all (part_is_formed middle) (each_inside (map (λ t. (told t).facts) (map (λ e. e.0) xs)) ++ rest_parts (firsts m)) ≡ true → list_all (part_is_formed middle) (each_inside (map (λ t. (told t).facts) us) ++ rest_parts n) ≡ true → onto (separated Comma (last_pieces (map (λ t. (told t).pieces) (map (λ e. e.0) xs)) (firsts m))) (SignKind c ∷ ks) ≡ onto (separated Comma (last_pieces (map (λ t. (told t).pieces) us) n)) (SignKind c ∷ ls) → Same (separated Comma (last_pieces (map (λ t. (told t).pieces) (map (λ e. e.0) xs)) (firsts m))) (separated Comma (last_pieces (map (λ t. (told t).pieces) us) n)) (SignKind c ∷ ks) (SignKind c ∷ ls)
    listed middle xs m us n ks ls f g e =
        let l = left-list middle xs m f in
        let r = right-list middle us n g in
        let s = lists-same left_pieces right_pieces Comma c ItemEnds differ comma-ends at-end item-same no-left no-right l.0 r.0 ks ls
        (ap (λ q. onto (separated Comma q) (SignKind c ∷ ks)) l.1 ∙ e ∙ sym (ap (λ q. onto (separated Comma q) (SignKind c ∷ ls)) r.1)) in
        (subst (λ q. Alike (separated Comma q) (separated Comma (last_pieces (map (λ t. (told t).pieces) us) n))) l.1 (subst (λ q. Alike (separated Comma (map left_pieces l.0)) (separated Comma q)) r.1 s.0), s.1)
