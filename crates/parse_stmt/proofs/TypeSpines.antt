-- Types that are put together by suffixes, `&` and `|`, as spines.
use Rattle.std.proofs.Common.{◌≡◌, ℤ, Bool, true, false, ◌&&◌, ◌∷◌, None, Some, refl, sym, ap, ◌∙◌, subst}
use Rattle.std.specs.Prelude.{not, if◌then◌else◌}
use Rattle.std.proofs.lemmas.Bool.{false≢true}
use Rattle.bal_base.specs.declared.token.TokenKind.TheVariants.{Int as IntKind, Sign as SignKind}
use Rattle.bal_base.specs.declared.token.Sign.{Sign}
use Rattle.bal_base.specs.declared.token.Sign.TheVariants.{Question, OpenBracket, CloseBracket, Ampersand, Bar, Less, OpenParen, Colon}
use Rattle.bal_tree.specs.declared.types.FieldTree.{FieldTree}
use Rattle.bal_tree.specs.declared.types.IntersectionType.{IntersectionType, IntersectionType-F, roll-IntersectionType, map-IntersectionType, ind-IntersectionType}
use Rattle.bal_tree.specs.declared.types.IntersectionType.TheOpen as layer
use Rattle.bal_tree.specs.declared.types.ParamType.{ParamType}
use Rattle.bal_tree.specs.declared.types.ParamTypes.{ParamTypes}
use Rattle.bal_tree.specs.declared.types.PostfixType.{PostfixType, PostfixType-F, roll-PostfixType, map-PostfixType, ind-PostfixType}
use Rattle.bal_tree.specs.declared.types.PrimaryType.{PrimaryType}
use Rattle.bal_tree.specs.declared.types.TypeTree.{TypeTree, TypeTree-F, roll-TypeTree, map-TypeTree, ind-TypeTree}
use Rattle.bal_tree.specs.Pieces.{Pieces, ◌&◌, sign, token}
use Rattle.bal_tree.specs.Spells.{onto}
use Rattle.bal_tree.specs.TypeLayers.{of_intersection_type, of_postfix_type, of_primary_type, of_type_tree}
use Rattle.bal_tree.specs.TypePieces.{writing}
use Rattle.bal_tree.specs.TypeRules.{TypeEnd, TypeFacts, closed, facts, is_length}
use Rattle.parse_types.specs.Loops.{◌>>=◌}
use Rattle.parse_types.specs.Reaches.{suffix}
use Rattle.token_steps.specs.Tokens.{Kinds, take_sign, take_word}
use Rattle.parse_types.proofs.Follows.{Closes, Ends, Stays, closes-stay}
use Rattle.parse_types.proofs.Law.{both_pass, not_true}
use Rattle.parse_types.proofs.TypeRolls.{parts_of_intersection_type, parts_of_postfix_type, parts_of_type_tree, rolled-intersection_type, rolled-postfix_type, rolled-type_tree}
use Rattle.parse_stmt.proofs.Alike.{Same, behind_first}
use Rattle.parse_stmt.proofs.Spines.{Spine, more-spine, one-spine, spines-same}

-- ---- what may stand behind

pub record After (middle : Bool) (end : TypeEnd) (ks : Kinds) : Type 0 where
  pub stays : Stays middle end.in_int ks
  pub ends : end.in_result ≡ true → Ends ks

pub record AfterPostfix (middle : Bool) (end : TypeEnd) (ks : Kinds) : Type 0 where
  pub after : After middle end ks
  pub no_suffix : suffix ks ≡ None

pub record AfterIntersection (middle : Bool) (end : TypeEnd) (ks : Kinds) : Type 0 where
  pub after : AfterPostfix middle end ks
  pub no_ampersand : take_sign Ampersand ks ≡ None

pub record AfterType (middle : Bool) (end : TypeEnd) (ks : Kinds) : Type 0 where
  pub after : AfterIntersection middle end ks
  pub no_bar : take_sign Bar ks ≡ None

pub closes-after : (middle : Bool) (end : TypeEnd) (ks : Kinds) → Closes ks → AfterType middle end ks
closes-after middle end ks c = record {
  after = record {
    after = record { after = record { stays = closes-stay middle end.in_int ks c; ends = λ h. c.ends }; no_suffix = c.ends.no_suffix };
    no_ampersand = c.ends.no_ampersand;
  };
  no_bar = c.ends.no_bar;
}

not-ends : (end : TypeEnd) (ks : Kinds) → end.in_result ≡ false → end.in_result ≡ true → Ends ks
not-ends end ks h k = absurd (false≢true (sym h ∙ k))

-- ---- what is told of a type, and what is claimed of two

pub record Told : Type 0 where
  pub facts : TypeFacts
  pub pieces : Pieces

abbrev pub Pair : (Bool → TypeEnd → Kinds → Type 0) → Told → Told → Type 0
Pair W a b = (middle : Bool) (ks ls : Kinds) → a.facts.is_formed middle ≡ true → b.facts.is_formed middle ≡ true → W middle a.facts.end ks → W middle b.facts.end ls → onto a.pieces ks ≡ onto b.pieces ls → Same a.pieces b.pieces ks ls

abbrev pub told_intersection : IntersectionType → Told
told_intersection t = record { facts = of_intersection_type facts t; pieces = of_intersection_type writing t }

abbrev pub told_postfix : PostfixType → Told
told_postfix t = record { facts = of_postfix_type facts t; pieces = of_postfix_type writing t }

abbrev pub told_primary : PrimaryType → Told
told_primary t = record { facts = of_primary_type facts t; pieces = of_primary_type writing t }

abbrev pub told_type : TypeTree → Told
told_type t = record { facts = of_type_tree facts t; pieces = of_type_tree writing t }

abbrev pub layer_postfix : PostfixType-F IntersectionType PostfixType PrimaryType TypeTree FieldTree ParamType ParamTypes → Told
layer_postfix x = record { facts = facts.postfix_type (parts_of_postfix_type facts x); pieces = writing.postfix_type (parts_of_postfix_type writing x) }

pub told-postfix : (x : PostfixType-F IntersectionType PostfixType PrimaryType TypeTree FieldTree ParamType ParamTypes) → told_postfix (roll-PostfixType x) ≡ layer_postfix x
told-postfix x = λ i. record { facts = rolled-postfix_type facts x i; pieces = rolled-postfix_type writing x i }

abbrev pub layer_intersection : IntersectionType-F IntersectionType PostfixType PrimaryType TypeTree FieldTree ParamType ParamTypes → Told
layer_intersection x = record { facts = facts.intersection_type (parts_of_intersection_type facts x); pieces = writing.intersection_type (parts_of_intersection_type writing x) }

pub told-intersection : (x : IntersectionType-F IntersectionType PostfixType PrimaryType TypeTree FieldTree ParamType ParamTypes) → told_intersection (roll-IntersectionType x) ≡ layer_intersection x
told-intersection x = λ i. record { facts = rolled-intersection_type facts x i; pieces = rolled-intersection_type writing x i }

abbrev pub layer_type : TypeTree-F IntersectionType PostfixType PrimaryType TypeTree FieldTree ParamType ParamTypes → Told
layer_type x = record { facts = facts.type_tree (parts_of_type_tree facts x); pieces = writing.type_tree (parts_of_type_tree writing x) }

pub told-type : (x : TypeTree-F IntersectionType PostfixType PrimaryType TypeTree FieldTree ParamType ParamTypes) → told_type (roll-TypeTree x) ≡ layer_type x
told-type x = λ i. record { facts = rolled-type_tree facts x i; pieces = rolled-type_tree writing x i }

-- ---- suffixes

pub data Suffix : Type 0 where
  question : Suffix
  brackets : Suffix
  fixed : (n : ℤ) → is_length n ≡ true → Suffix

abbrev pub suffix_pieces : Suffix → Pieces
suffix_pieces question = sign Question
suffix_pieces brackets = sign OpenBracket & sign CloseBracket
suffix_pieces (fixed n h) = sign OpenBracket & token (IntKind n) & sign CloseBracket

is-suffix : (x : Suffix) (zs : Kinds) → suffix (onto (suffix_pieces x) zs) ≡ None → ⊥
is-suffix question zs e = cc e
is-suffix brackets zs e = cc e
is-suffix (fixed n h) zs e = let bad : None ≡ Some zs = sym e ∙ ap (λ c. if c then Some zs else None) h in cc bad

suffixes-same : (x y : Suffix) (zs ws : Kinds) → onto (suffix_pieces x) zs ≡ onto (suffix_pieces y) ws → Same (suffix_pieces x) (suffix_pieces y) zs ws
suffixes-same question question zs ws e = (refl, cc e)
suffixes-same brackets brackets zs ws e = ((refl, refl), cc e)
suffixes-same (fixed n h) (fixed m k) zs ws e = ((refl, (cc e, refl)), cc e)
suffixes-same question brackets zs ws e = cc e
suffixes-same question (fixed m k) zs ws e = cc e
suffixes-same brackets question zs ws e = cc e
suffixes-same brackets (fixed m k) zs ws e = cc e
suffixes-same (fixed n h) question zs ws e = cc e
suffixes-same (fixed n h) brackets zs ws e = cc e

-- ---- spines: of each element it is known that it is well formed, and `C`

module _ {T : Type 0} (told : T → Told) (C : T → Type 0) (middle : Bool) where
  abbrev pub Element : Type 0
  Element = (t : T) × ((told t).facts.is_formed middle ≡ true) × C t

  abbrev pub element_pieces : Element → Pieces
  element_pieces x = (told x.0).pieces

  module _ (s : Sign) where
    abbrev pub operand_pieces : Element → Pieces
    operand_pieces x = sign s & (told x.0).pieces

  module _ (W : Bool → TypeEnd → Kinds → Type 0) where
    abbrev pub IsAfter : Element → Kinds → Type 0
    IsAfter x ks = W middle (told x.0).facts.end ks

    abbrev pub LevelSpine : Sign → Told → Type 0
    LevelSpine s a = Spine element_pieces (operand_pieces s) IsAfter IsAfter a.pieces (W middle a.facts.end)

  abbrev pub SuffixSpine : Told → Type 0
  SuffixSpine a = Spine element_pieces suffix_pieces (IsAfter After) (λ x ks. Unit {0}) a.pieces (After middle a.facts.end)

-- of a postfix type, of an intersection and of a union
abbrev pub IsPostfix : (PrimaryType → Type 0) → Told → Type 0
IsPostfix C a = (middle : Bool) → a.facts.is_formed middle ≡ true → SuffixSpine told_primary C middle a

abbrev pub IsIntersection : (PostfixType → Type 0) → Told → Type 0
IsIntersection C a = (middle : Bool) → a.facts.is_formed middle ≡ true → LevelSpine told_postfix C middle AfterPostfix Ampersand a

abbrev pub IsUnion : (IntersectionType → Type 0) → Told → Type 0
IsUnion C a = (middle : Bool) → a.facts.is_formed middle ≡ true → LevelSpine told_intersection C middle AfterIntersection Bar a

sign-stays : (s : Sign) (middle in_int : Bool) (ks : Kinds) → (take_sign Less (SignKind s ∷ ks) ≡ None) → (take_sign OpenParen (SignKind s ∷ ks) ≡ None) → (take_sign Colon (SignKind s ∷ ks) ≡ None) → Stays middle in_int (SignKind s ∷ ks)
sign-stays s middle in_int ks h j k = record { less = h; paren = j; returns = refl; colon = λ _. k; int_colon = λ _. ap (λ o. o >>= take_word) k }

-- ---- one layer

module _ (QI : IntersectionType → Type 0) (QP : PostfixType → Type 0) (QR : PrimaryType → Type 0) (QT : TypeTree → Type 0) (QF : FieldTree → Type 0) (QA : ParamType → Type 0) (QS : ParamTypes → Type 0) where
  abbrev pub AnIntersection : Type 0
  AnIntersection = (t : IntersectionType) × QI t

  abbrev pub APostfix : Type 0
  APostfix = (t : PostfixType) × QP t

  abbrev pub APrimary : Type 0
  APrimary = (t : PrimaryType) × QR t

  abbrev pub AType : Type 0
  AType = (t : TypeTree) × QT t

  abbrev pub AField : Type 0
  AField = (t : FieldTree) × QF t

  abbrev pub AParam : Type 0
  AParam = (t : ParamType) × QA t

  abbrev pub SomeParams : Type 0
  SomeParams = (t : ParamTypes) × QS t

  abbrev pub firsts_of_intersection_type : IntersectionType-F AnIntersection APostfix APrimary AType AField AParam SomeParams → IntersectionType-F IntersectionType PostfixType PrimaryType TypeTree FieldTree ParamType ParamTypes
  firsts_of_intersection_type = map-IntersectionType AnIntersection APostfix APrimary AType AField AParam SomeParams IntersectionType PostfixType PrimaryType TypeTree FieldTree ParamType ParamTypes (λ e. e.0) (λ e. e.0) (λ e. e.0) (λ e. e.0) (λ e. e.0) (λ e. e.0) (λ e. e.0)

  abbrev pub firsts_of_postfix_type : PostfixType-F AnIntersection APostfix APrimary AType AField AParam SomeParams → PostfixType-F IntersectionType PostfixType PrimaryType TypeTree FieldTree ParamType ParamTypes
  firsts_of_postfix_type = map-PostfixType AnIntersection APostfix APrimary AType AField AParam SomeParams IntersectionType PostfixType PrimaryType TypeTree FieldTree ParamType ParamTypes (λ e. e.0) (λ e. e.0) (λ e. e.0) (λ e. e.0) (λ e. e.0) (λ e. e.0) (λ e. e.0)

  abbrev pub firsts_of_type_tree : TypeTree-F AnIntersection APostfix APrimary AType AField AParam SomeParams → TypeTree-F IntersectionType PostfixType PrimaryType TypeTree FieldTree ParamType ParamTypes
  firsts_of_type_tree = map-TypeTree AnIntersection APostfix APrimary AType AField AParam SomeParams IntersectionType PostfixType PrimaryType TypeTree FieldTree ParamType ParamTypes (λ e. e.0) (λ e. e.0) (λ e. e.0) (λ e. e.0) (λ e. e.0) (λ e. e.0) (λ e. e.0)

  module _ (C : PrimaryType → Type 0) (spine : (t : PostfixType) → QP t → IsPostfix C (told_postfix t)) (claim : (t : PrimaryType) → QR t → C t) where
    postfix-layer : (y : PostfixType-F AnIntersection APostfix APrimary AType AField AParam SomeParams) → IsPostfix C (layer_postfix (firsts_of_postfix_type y))
    postfix-layer (layer.Primary t) middle h =
        one-spine _ _ _ _ (t.0, (both_pass ((told_primary t.0).facts.is_formed middle) true h).0, claim t.0 t.1) (After middle (told_primary t.0).facts.end) (λ ks e. e)
    postfix-layer (layer.Optional of at) middle h =
        let f = (told_postfix of.value.0).facts in
        let a = both_pass (not f.end.in_result) (f.is_formed middle && true) h in
        more-spine _ _ _ _ (told_postfix of.value.0).pieces (After middle f.end) (After middle closed) record { at = at; is = question } (spine of.value.0 of.value.1 middle (both_pass (f.is_formed middle) true a.1).0)
        (λ ks next. record { stays = sign-stays Question middle f.end.in_int ks refl refl refl; ends = not-ends f.end (SignKind Question ∷ ks) (not_true f.end.in_result a.0) }) (λ ks e. tt)
    postfix-layer (layer.Array member at) middle h =
        let f = (told_postfix member.value.0).facts in
        let a = both_pass (not f.end.in_result) (f.is_formed middle && true) h in
        more-spine _ _ _ _ (told_postfix member.value.0).pieces (After middle f.end) (After middle closed) record { at = at; is = brackets } (spine member.value.0 member.value.1 middle (both_pass (f.is_formed middle) true a.1).0)
        (λ ks next. record { stays = sign-stays OpenBracket middle f.end.in_int (SignKind CloseBracket ∷ ks) refl refl refl; ends = not-ends f.end (SignKind OpenBracket ∷ SignKind CloseBracket ∷ ks) (not_true f.end.in_result a.0) }) (λ ks e. tt)
    postfix-layer (layer.FixedArray member n at) middle h =
        let f = (told_postfix member.value.0).facts in
        let a = both_pass (not f.end.in_result && is_length n) (f.is_formed middle && true) h in
        let b = both_pass (not f.end.in_result) (is_length n) a.0 in
        more-spine _ _ _ _ (told_postfix member.value.0).pieces (After middle f.end) (After middle closed) record { at = at; is = fixed n b.1 } (spine member.value.0 member.value.1 middle (both_pass (f.is_formed middle) true a.1).0)
        (λ ks next. record { stays = sign-stays OpenBracket middle f.end.in_int (IntKind n ∷ SignKind CloseBracket ∷ ks) refl refl refl; ends = not-ends f.end (SignKind OpenBracket ∷ IntKind n ∷ SignKind CloseBracket ∷ ks) (not_true f.end.in_result b.0) }) (λ ks e. tt)

    pub postfix-step : (x : PostfixType-F IntersectionType PostfixType PrimaryType TypeTree FieldTree ParamType ParamTypes) (y : PostfixType-F AnIntersection APostfix APrimary AType AField AParam SomeParams) → firsts_of_postfix_type y ≡ x → IsPostfix C (told_postfix (roll-PostfixType x))
    postfix-step x y is =
        subst (IsPostfix C) (sym (told-postfix x))
        (subst (λ z. IsPostfix C (layer_postfix z)) is (postfix-layer y))

  module _ (C : PostfixType → Type 0) (spine : (t : IntersectionType) → QI t → IsIntersection C (told_intersection t)) (claim : (t : PostfixType) → QP t → C t) where
    intersection-layer : (y : IntersectionType-F AnIntersection APostfix APrimary AType AField AParam SomeParams) → IsIntersection C (layer_intersection (firsts_of_intersection_type y))
    intersection-layer (layer.Postfix t) middle h =
        one-spine _ _ _ _ (t.0, (both_pass ((told_postfix t.0).facts.is_formed middle) true h).0, claim t.0 t.1) (AfterPostfix middle (told_postfix t.0).facts.end) (λ ks e. e)
    intersection-layer (layer.Both left right at) middle h =
        let f = (told_intersection left.value.0).facts in
        let g = (told_postfix right.value.0).facts in
        let a = both_pass (not f.end.in_result) (f.is_formed middle && (g.is_formed middle && true)) h in
        let b = both_pass (f.is_formed middle) (g.is_formed middle && true) a.1 in
        more-spine _ _ _ _ (told_intersection left.value.0).pieces (AfterPostfix middle f.end) (AfterPostfix middle g.end) record { at = at; is = (right.value.0, (both_pass (g.is_formed middle) true b.1).0, claim right.value.0 right.value.1) } (spine left.value.0 left.value.1 middle b.0)
        (λ ks next.
        let zs = onto (told_postfix right.value.0).pieces ks in
        record { after = record { stays = sign-stays Ampersand middle f.end.in_int zs refl refl refl; ends = not-ends f.end (SignKind Ampersand ∷ zs) (not_true f.end.in_result a.0) }; no_suffix = refl }) (λ ks e. e)

    pub intersection-step : (x : IntersectionType-F IntersectionType PostfixType PrimaryType TypeTree FieldTree ParamType ParamTypes) (y : IntersectionType-F AnIntersection APostfix APrimary AType AField AParam SomeParams) → firsts_of_intersection_type y ≡ x → IsIntersection C (told_intersection (roll-IntersectionType x))
    intersection-step x y is =
        subst (IsIntersection C) (sym (told-intersection x))
        (subst (λ z. IsIntersection C (layer_intersection z)) is (intersection-layer y))

  module _ (C : IntersectionType → Type 0) (spine : (t : TypeTree) → QT t → IsUnion C (told_type t)) (claim : (t : IntersectionType) → QI t → C t) where
    type-layer : (y : TypeTree-F AnIntersection APostfix APrimary AType AField AParam SomeParams) → IsUnion C (layer_type (firsts_of_type_tree y))
    type-layer (layer.Intersection t) middle h =
        one-spine _ _ _ _ (t.0, (both_pass ((told_intersection t.0).facts.is_formed middle) true h).0, claim t.0 t.1) (AfterIntersection middle (told_intersection t.0).facts.end) (λ ks e. e)
    type-layer (layer.Union left right at) middle h =
        let f = (told_type left.value.0).facts in
        let g = (told_intersection right.value.0).facts in
        let a = both_pass (not f.end.in_result) (f.is_formed middle && (g.is_formed middle && true)) h in
        let b = both_pass (f.is_formed middle) (g.is_formed middle && true) a.1 in
        more-spine _ _ _ _ (told_type left.value.0).pieces (AfterIntersection middle f.end) (AfterIntersection middle g.end) record { at = at; is = (right.value.0, (both_pass (g.is_formed middle) true b.1).0, claim right.value.0 right.value.1) } (spine left.value.0 left.value.1 middle b.0)
        (λ ks next.
        let zs = onto (told_intersection right.value.0).pieces ks in
        record { after = record { after = record { stays = sign-stays Bar middle f.end.in_int zs refl refl refl; ends = not-ends f.end (SignKind Bar ∷ zs) (not_true f.end.in_result a.0) }; no_suffix = refl }; no_ampersand = refl }) (λ ks e. e)

    pub type-step : (x : TypeTree-F IntersectionType PostfixType PrimaryType TypeTree FieldTree ParamType ParamTypes) (y : TypeTree-F AnIntersection APostfix APrimary AType AField AParam SomeParams) → firsts_of_type_tree y ≡ x → IsUnion C (told_type (roll-TypeTree x))
    type-step x y is =
        subst (IsUnion C) (sym (told-type x))
        (subst (λ z. IsUnion C (layer_type z)) is (type-layer y))

-- ---- each type has a spine, of whose elements nothing is claimed

abbrev pub Nothing : {T : Type 0} → T → Type 0
Nothing t = Unit {0}

abbrev PlainIntersection : IntersectionType → Type 0
PlainIntersection t = IsIntersection Nothing (told_intersection t)

abbrev PlainPostfix : PostfixType → Type 0
PlainPostfix t = IsPostfix Nothing (told_postfix t)

abbrev PlainUnion : TypeTree → Type 0
PlainUnion t = IsUnion Nothing (told_type t)

plain-intersection-step : (x : IntersectionType-F IntersectionType PostfixType PrimaryType TypeTree FieldTree ParamType ParamTypes) (y : _) → firsts_of_intersection_type PlainIntersection PlainPostfix Nothing PlainUnion Nothing Nothing Nothing y ≡ x → PlainIntersection (roll-IntersectionType x)
plain-intersection-step = intersection-step PlainIntersection PlainPostfix Nothing PlainUnion Nothing Nothing Nothing Nothing (λ t q. q) (λ t q. tt)

plain-postfix-step : (x : PostfixType-F IntersectionType PostfixType PrimaryType TypeTree FieldTree ParamType ParamTypes) (y : _) → firsts_of_postfix_type PlainIntersection PlainPostfix Nothing PlainUnion Nothing Nothing Nothing y ≡ x → PlainPostfix (roll-PostfixType x)
plain-postfix-step = postfix-step PlainIntersection PlainPostfix Nothing PlainUnion Nothing Nothing Nothing Nothing (λ t q. q) (λ t q. tt)

plain-type-step : (x : TypeTree-F IntersectionType PostfixType PrimaryType TypeTree FieldTree ParamType ParamTypes) (y : _) → firsts_of_type_tree PlainIntersection PlainPostfix Nothing PlainUnion Nothing Nothing Nothing y ≡ x → PlainUnion (roll-TypeTree x)
plain-type-step = type-step PlainIntersection PlainPostfix Nothing PlainUnion Nothing Nothing Nothing Nothing (λ t q. q) (λ t q. tt)

pub plain-intersection : (t : IntersectionType) → PlainIntersection t
plain-intersection = ind-IntersectionType PlainIntersection PlainPostfix Nothing PlainUnion Nothing Nothing Nothing plain-intersection-step plain-postfix-step (λ x y is. tt) plain-type-step (λ x y is. tt) (λ x y is. tt) (λ x y is. tt)

pub plain-postfix : (t : PostfixType) → PlainPostfix t
plain-postfix = ind-PostfixType PlainIntersection PlainPostfix Nothing PlainUnion Nothing Nothing Nothing plain-intersection-step plain-postfix-step (λ x y is. tt) plain-type-step (λ x y is. tt) (λ x y is. tt) (λ x y is. tt)

pub plain-type : (t : TypeTree) → PlainUnion t
plain-type = ind-TypeTree PlainIntersection PlainPostfix Nothing PlainUnion Nothing Nothing Nothing plain-intersection-step plain-postfix-step (λ x y is. tt) plain-type-step (λ x y is. tt) (λ x y is. tt) (λ x y is. tt)

-- ---- two types of the same tokens, from what is claimed of the elements of the one

abbrev pub OnePrimary : PrimaryType → Type 0
OnePrimary t = (u : PrimaryType) → Pair After (told_primary t) (told_primary u)

abbrev pub OnePostfix : PostfixType → Type 0
OnePostfix t = (u : PostfixType) → Pair AfterPostfix (told_postfix t) (told_postfix u)

abbrev pub OneIntersection : IntersectionType → Type 0
OneIntersection t = (u : IntersectionType) → Pair AfterIntersection (told_intersection t) (told_intersection u)

abbrev pub OneType : TypeTree → Type 0
OneType t = (u : TypeTree) → Pair AfterType (told_type t) (told_type u)

pub one-postfix : (t : PostfixType) → IsPostfix OnePrimary (told_postfix t) → OnePostfix t
one-postfix t spine u middle ks ls f g h k e =
    spines-same _ _ _ _ _ _ _ _ (λ zs. suffix zs ≡ None) is-suffix is-suffix (λ b c zs ws p q. b.2 c.0 middle zs ws b.1 c.1 p q) (λ x y zs ws p q. suffixes-same x y zs ws)
    (told_postfix t).pieces (told_postfix u).pieces _ _ (spine middle f) (plain-postfix u middle g) ks ls h.after k.after h.no_suffix k.no_suffix e

operands-same : (s : Sign) (p q : Pieces) (zs ws : Kinds) → (onto p zs ≡ onto q ws → Same p q zs ws) → onto (sign s & p) zs ≡ onto (sign s & q) ws → Same (sign s & p) (sign s & q) zs ws
operands-same s p q zs ws h e = let r = h (ap behind_first e) in ((refl, r.0), r.1)

pub one-intersection : (t : IntersectionType) → IsIntersection OnePostfix (told_intersection t) → OneIntersection t
one-intersection t spine u middle ks ls f g h k e =
    spines-same _ _ _ _ _ _ _ _ (λ zs. take_sign Ampersand zs ≡ None) (λ x zs n. cc n) (λ x zs n. cc n) (λ b c zs ws p q. b.2 c.0 middle zs ws b.1 c.1 p q)
    (λ x y zs ws p q. operands-same Ampersand (told_postfix x.0).pieces (told_postfix y.0).pieces zs ws (x.2 y.0 middle zs ws x.1 y.1 p q))
    (told_intersection t).pieces (told_intersection u).pieces _ _ (spine middle f) (plain-intersection u middle g) ks ls h.after k.after h.no_ampersand k.no_ampersand e

pub one-type : (t : TypeTree) → IsUnion OneIntersection (told_type t) → OneType t
one-type t spine u middle ks ls f g h k e =
    spines-same _ _ _ _ _ _ _ _ (λ zs. take_sign Bar zs ≡ None) (λ x zs n. cc n) (λ x zs n. cc n) (λ b c zs ws p q. b.2 c.0 middle zs ws b.1 c.1 p q)
    (λ x y zs ws p q. operands-same Bar (told_intersection x.0).pieces (told_intersection y.0).pieces zs ws (x.2 y.0 middle zs ws x.1 y.1 p q))
    (told_type t).pieces (told_type u).pieces _ _ (spine middle f) (plain-type u middle g) ks ls h.after k.after h.no_bar k.no_bar e
