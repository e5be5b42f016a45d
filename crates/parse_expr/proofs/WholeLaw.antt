-- The law at every expression, by induction.
use Rattle.std.proofs.Common.{◌≡◌, ℕ, ◌<◌, ◌≤◌, Bool, true, false, ◌&&◌, List, [], ◌∷◌, ◌++◌, map, length, Option, None, Some, refl, sym, ap, ◌∙◌, subst, arith}
use Rattle.std.specs.List.{list_all}
use Rattle.std.specs.Global.{Box}
use Rattle.std.specs.Prelude.{not, is_some}
use Rattle.std.proofs.lemmas.List.{append-nil}
use Rattle.bal_base.specs.declared.token.Keyword.TheVariants.{Error as ErrorKey}
use Rattle.bal_base.specs.declared.token.Sign.TheVariants.{OpenParen, CloseParen, OpenBracket, CloseBracket, OpenBrace, CloseBrace, Comma, FatArrow, Dot, QuestionDot}
use Rattle.bal_base.specs.declared.place.Place.{Place}
use Rattle.bal_tree.specs.declared.level.Level.TheVariants.{Prefix as PrefixLevel, Comparison, Conditional as ConditionalLevel}
use Rattle.bal_tree.specs.declared.name.QualifiedName.{QualifiedName}
use Rattle.bal_tree.specs.declared.expr.Call.{Call, Call-F, roll-Call, map-Call}
use Rattle.bal_tree.specs.declared.expr.Expr.{Expr, Expr-F, roll-Expr, map-Expr, ind-Expr}
use Rattle.bal_tree.specs.declared.expr.Key.{Key, Key-F, roll-Key, map-Key}
use Rattle.bal_tree.specs.declared.expr.Postfix.{Postfix, Postfix-F, roll-Postfix, map-Postfix}
use Rattle.bal_tree.specs.declared.expr.Primary.{Primary, Primary-F, roll-Primary, map-Primary}
use Rattle.bal_tree.specs.declared.expr.Detail.{Detail, Detail-F, roll-Detail, map-Detail}
use Rattle.bal_tree.specs.declared.expr.Member.{Member, Member-F, roll-Member, map-Member}
use Rattle.bal_tree.specs.declared.expr.Call.TheOpen as layer
use Rattle.bal_tree.specs.declared.expr.PrefixOp.{PrefixOp}
use Rattle.bal_tree.specs.declared.expr.PrefixOp.TheVariants.{Negate, Not, Check, CheckPanic}
use Rattle.bal_tree.specs.declared.name.Prefix.{Prefix}
use Rattle.bal_tree.specs.declared.name.Prefix.TheVariants.{Word as WordPrefix, Int as IntPrefix}
use Rattle.bal_tree.specs.declared.name.Literal.{Literal}
use Rattle.bal_tree.specs.declared.name.Literal.TheVariants.{Int as IntLiteral, Str as StrLiteral, True as TrueLiteral, False as FalseLiteral, Nil as NilLiteral}
use Rattle.bal_tree.specs.Parts.{Part, outside, inside as inside_part, between, each_inside}
use Rattle.bal_tree.specs.Pieces.{Pieces, nothing, ◌&◌, starts, key, sign, separated, behind}
use Rattle.bal_tree.specs.Spells.{onto}
use Rattle.bal_tree.specs.ExprLayers.{of_call, of_expr, of_key, of_postfix, of_primary, of_detail, of_member}
use Rattle.bal_tree.specs.ExprPieces.{writing, prefix_op, arguments as argument_pieces, expr_pieces, postfix_pieces, call_pieces, primary_pieces, key_pieces, member_pieces, detail_pieces}
use Rattle.bal_tree.specs.ExprRules.{ExprFacts, facts, part_is_formed, make_conditional, name_begins_with_word}
use Rattle.bal_tree.specs.Levels.{rank, is_tighter, is_no_looser, takes}
use Rattle.bal_tree.specs.NamePieces.{word_pieces, name_pieces, literal_pieces}
use Rattle.bal_tree.specs.TypePieces.{function_word, params_pieces, returning, type_pieces}
use Rattle.bal_tree.specs.TypeRules.{type_is_formed, type_end, name_fits, params_are_formed}
use Rattle.token_steps.specs.Tokens.{Kinds, take_word}
use Rattle.parse_types.proofs.Law.{both_pass, not_true}
use Rattle.parse_expr.specs.Reaches.{mapping_member, inside}
use Rattle.parse_expr.proofs.Follows.{closes}
use Rattle.parse_expr.proofs.ItemsLaw.{ItemAt, ItemsAt}
use Rattle.parse_expr.proofs.Law.{Known, ExprLaw, Begins}
use Rattle.parse_expr.proofs.LayerLaw.{prefix-known, cast-known, binary-known, test-known, Conditional, conditional-known, trap-known, function-known}
use Rattle.parse_expr.proofs.PrimaryLaw.{found, literal-law, name-law, postfix-known, no-expr-at-paren, parens-law, expr-item, list-law, KeyLaw, MemberLaw, member-item, mapping-law, DetailAt, DetailLaw, detail-at, DetailsAt, error-alone, error-cause}
use Rattle.parse_expr.proofs.Shapes.{tighter, no_looser}
use Rattle.parse_expr.proofs.SuffixLaw.{PrimaryAt, PrimaryLaw, PostfixAt, PostfixLaw, primary-alone, field-law, optional_field-law, index-read, index-law, ArgumentsAt, call-law, method-law}
use Rattle.parse_expr.proofs.ExprRolls.{parts_of_call, parts_of_expr, parts_of_key, parts_of_postfix, parts_of_primary, parts_of_detail, parts_of_member, rolled-call, rolled-expr, rolled-key, rolled-postfix, rolled-primary, rolled-detail, rolled-member}

-- ---- what is claimed of each kind of tree

abbrev ExprClaim : Pieces → ExprFacts → Type 0
ExprClaim p f = Begins p f × ExprLaw p f

abbrev PostfixClaim : Pieces → ExprFacts → Type 0
PostfixClaim p f = Begins p f × PostfixLaw p f

abbrev CallClaim : Pieces → ExprFacts → Type 0
CallClaim p f = Begins p f × ((n : ℕ) (middle : Bool) (ks : Kinds) → f.is_formed middle ≡ true → length (onto p ks) ≤ n → PostfixAt n middle p false ks)

abbrev PrimaryClaim : Pieces → ExprFacts → Type 0
PrimaryClaim p f = Begins p f × PrimaryLaw p f

abbrev ClaimCall : Call → Type 0
ClaimCall e = CallClaim (call_pieces e) (of_call facts e)

abbrev ClaimExpr : Expr → Type 0
ClaimExpr e = ExprClaim (expr_pieces e) (of_expr facts e)

abbrev ClaimKey : Key → Type 0
ClaimKey e = KeyLaw (key_pieces e) (of_key facts e)

abbrev ClaimPostfix : Postfix → Type 0
ClaimPostfix e = PostfixClaim (postfix_pieces e) (of_postfix facts e)

abbrev ClaimPrimary : Primary → Type 0
ClaimPrimary e = PrimaryClaim (primary_pieces e) (of_primary facts e)

abbrev ClaimDetail : Detail → Type 0
ClaimDetail e = DetailLaw (detail_pieces e) (of_detail facts e)

abbrev ClaimMember : Member → Type 0
ClaimMember e = MemberLaw (member_pieces e) (of_member facts e)

-- a tree of which it is known
abbrev ACall : Type 0
ACall = (e : Call) × ClaimCall e

abbrev AnExpr : Type 0
AnExpr = (e : Expr) × ClaimExpr e

abbrev AKey : Type 0
AKey = (e : Key) × ClaimKey e

abbrev APostfix : Type 0
APostfix = (e : Postfix) × ClaimPostfix e

abbrev APrimary : Type 0
APrimary = (e : Primary) × ClaimPrimary e

abbrev ADetail : Type 0
ADetail = (e : Detail) × ClaimDetail e

abbrev AMember : Type 0
AMember = (e : Member) × ClaimMember e

-- ---- lists of parts that are well formed

items-pass : (n : ℕ) (middle : Bool) (xs : List AnExpr) → list_all (part_is_formed middle) (each_inside (map (of_expr facts) (map (λ e. e.0) xs))) ≡ true → ItemsAt (inside n 10 false) CloseParen n (map expr_pieces (map (λ e. e.0) xs)) × ItemsAt (inside n 10 false) CloseBracket n (map expr_pieces (map (λ e. e.0) xs))
items-pass n middle [] h = (tt, tt)
items-pass n middle (x ∷ xs) h =
    let f = of_expr facts x.0 in
    let b = both_pass (f.is_formed false) (list_all (part_is_formed middle) (each_inside (map (of_expr facts) (map (λ e. e.0) xs)))) h in
    let more = items-pass n middle xs b.1 in (
      (expr-item CloseParen n (expr_pieces x.0) f x.1.1 b.0 (λ ks. closes CloseParen ks refl), more.0),
      (expr-item CloseBracket n (expr_pieces x.0) f x.1.1 b.0 (λ ks. closes CloseBracket ks refl), more.1),
    )

members-pass : (n : ℕ) (middle : Bool) (xs : List AMember) → list_all (part_is_formed middle) (each_inside (map (of_member facts) (map (λ e. e.0) xs))) ≡ true → ItemsAt (mapping_member (inside n 10 false)) CloseBrace n (map member_pieces (map (λ e. e.0) xs))
members-pass n middle [] h = tt
members-pass n middle (x ∷ xs) h =
    let b = both_pass ((of_member facts x.0).is_formed false) (list_all (part_is_formed middle) (each_inside (map (of_member facts) (map (λ e. e.0) xs)))) h in
    (x.1 n b.0, members-pass n middle xs b.1)

details-pass : (n : ℕ) (middle : Bool) (xs : List ADetail) → list_all (part_is_formed middle) (each_inside (map (of_detail facts) (map (λ e. e.0) xs))) ≡ true → DetailsAt n (map detail_pieces (map (λ e. e.0) xs))
details-pass n middle [] h = tt
details-pass n middle (x ∷ xs) h =
    let b = both_pass ((of_detail facts x.0).is_formed false) (list_all (part_is_formed middle) (each_inside (map (of_detail facts) (map (λ e. e.0) xs)))) h in
    (x.1 n b.0, details-pass n middle xs b.1)

-- ---- one layer of a tree, of whose parts it is known

abbrev firsts_of_call : Call-F ACall AnExpr AKey APostfix APrimary ADetail AMember → Call-F Call Expr Key Postfix Primary Detail Member
firsts_of_call = map-Call ACall AnExpr AKey APostfix APrimary ADetail AMember Call Expr Key Postfix Primary Detail Member (λ e. e.0) (λ e. e.0) (λ e. e.0) (λ e. e.0) (λ e. e.0) (λ e. e.0) (λ e. e.0)

abbrev LayerCall : Call-F ACall AnExpr AKey APostfix APrimary ADetail AMember → Type 0
LayerCall y = CallClaim (writing.call (parts_of_call writing (firsts_of_call y))) (facts.call (parts_of_call facts (firsts_of_call y)))

abbrev firsts_of_expr : Expr-F ACall AnExpr AKey APostfix APrimary ADetail AMember → Expr-F Call Expr Key Postfix Primary Detail Member
firsts_of_expr = map-Expr ACall AnExpr AKey APostfix APrimary ADetail AMember Call Expr Key Postfix Primary Detail Member (λ e. e.0) (λ e. e.0) (λ e. e.0) (λ e. e.0) (λ e. e.0) (λ e. e.0) (λ e. e.0)

abbrev LayerExpr : Expr-F ACall AnExpr AKey APostfix APrimary ADetail AMember → Type 0
LayerExpr y = ExprClaim (writing.expr (parts_of_expr writing (firsts_of_expr y))) (facts.expr (parts_of_expr facts (firsts_of_expr y)))

abbrev firsts_of_key : Key-F ACall AnExpr AKey APostfix APrimary ADetail AMember → Key-F Call Expr Key Postfix Primary Detail Member
firsts_of_key = map-Key ACall AnExpr AKey APostfix APrimary ADetail AMember Call Expr Key Postfix Primary Detail Member (λ e. e.0) (λ e. e.0) (λ e. e.0) (λ e. e.0) (λ e. e.0) (λ e. e.0) (λ e. e.0)

abbrev LayerKey : Key-F ACall AnExpr AKey APostfix APrimary ADetail AMember → Type 0
LayerKey y = KeyLaw (writing.key (parts_of_key writing (firsts_of_key y))) (facts.key (parts_of_key facts (firsts_of_key y)))

abbrev firsts_of_postfix : Postfix-F ACall AnExpr AKey APostfix APrimary ADetail AMember → Postfix-F Call Expr Key Postfix Primary Detail Member
firsts_of_postfix = map-Postfix ACall AnExpr AKey APostfix APrimary ADetail AMember Call Expr Key Postfix Primary Detail Member (λ e. e.0) (λ e. e.0) (λ e. e.0) (λ e. e.0) (λ e. e.0) (λ e. e.0) (λ e. e.0)

abbrev LayerPostfix : Postfix-F ACall AnExpr AKey APostfix APrimary ADetail AMember → Type 0
LayerPostfix y = PostfixClaim (writing.postfix (parts_of_postfix writing (firsts_of_postfix y))) (facts.postfix (parts_of_postfix facts (firsts_of_postfix y)))

abbrev firsts_of_primary : Primary-F ACall AnExpr AKey APostfix APrimary ADetail AMember → Primary-F Call Expr Key Postfix Primary Detail Member
firsts_of_primary = map-Primary ACall AnExpr AKey APostfix APrimary ADetail AMember Call Expr Key Postfix Primary Detail Member (λ e. e.0) (λ e. e.0) (λ e. e.0) (λ e. e.0) (λ e. e.0) (λ e. e.0) (λ e. e.0)

abbrev LayerPrimary : Primary-F ACall AnExpr AKey APostfix APrimary ADetail AMember → Type 0
LayerPrimary y = PrimaryClaim (writing.primary (parts_of_primary writing (firsts_of_primary y))) (facts.primary (parts_of_primary facts (firsts_of_primary y)))

abbrev firsts_of_detail : Detail-F ACall AnExpr AKey APostfix APrimary ADetail AMember → Detail-F Call Expr Key Postfix Primary Detail Member
firsts_of_detail = map-Detail ACall AnExpr AKey APostfix APrimary ADetail AMember Call Expr Key Postfix Primary Detail Member (λ e. e.0) (λ e. e.0) (λ e. e.0) (λ e. e.0) (λ e. e.0) (λ e. e.0) (λ e. e.0)

abbrev LayerDetail : Detail-F ACall AnExpr AKey APostfix APrimary ADetail AMember → Type 0
LayerDetail y = DetailLaw (writing.detail (parts_of_detail writing (firsts_of_detail y))) (facts.detail (parts_of_detail facts (firsts_of_detail y)))

abbrev firsts_of_member : Member-F ACall AnExpr AKey APostfix APrimary ADetail AMember → Member-F Call Expr Key Postfix Primary Detail Member
firsts_of_member = map-Member ACall AnExpr AKey APostfix APrimary ADetail AMember Call Expr Key Postfix Primary Detail Member (λ e. e.0) (λ e. e.0) (λ e. e.0) (λ e. e.0) (λ e. e.0) (λ e. e.0) (λ e. e.0)

abbrev LayerMember : Member-F ACall AnExpr AKey APostfix APrimary ADetail AMember → Type 0
LayerMember y = MemberLaw (writing.member (parts_of_member writing (firsts_of_member y))) (facts.member (parts_of_member facts (firsts_of_member y)))

not_both : (a b : Bool) → not (a && b) ≡ true → a ≡ true → b ≡ false
not_both true b h k = not_true b h
not_both false b h k = cc k

prefix-begins : (op : PrefixOp) (q : Pieces) (ks : Kinds) → is_some (take_word (onto (prefix_op op & q) ks)) ≡ false
prefix-begins Negate q ks = refl
prefix-begins Not q ks = refl
prefix-begins Check q ks = refl
prefix-begins CheckPanic q ks = refl

function-begins : (isolated : Bool) (xs : Kinds) → is_some (take_word (onto (function_word isolated) xs)) ≡ false
function-begins true xs = refl
function-begins false xs = refl

expr-layer : (y : Expr-F ACall AnExpr AKey APostfix APrimary ADetail AMember) → LayerExpr y
expr-layer (layer.Postfix e) =
    let g = of_postfix facts e.0 in
    (e.1.0, postfix-known (postfix_pieces e.0) g (facts.expr (parts_of_expr facts (firsts_of_expr (layer.Postfix e)))) e.1.1 refl refl (λ middle h. (both_pass (g.is_formed middle) true h).0))
expr-layer (layer.Prefix op operand at) =
    let g = of_expr facts operand.value.0 in (
      prefix-begins op (expr_pieces operand.value.0),
      prefix-known op at (expr_pieces operand.value.0) (facts.expr (parts_of_expr facts (firsts_of_expr (layer.Prefix op operand at)))) g operand.value.1.1 refl refl
          (λ middle h.
          let a = both_pass (is_no_looser g.level PrefixLevel) (g.is_formed middle && true) h in
          (no_looser g.level PrefixLevel a.0, (both_pass (g.is_formed middle) true a.1).0)),
    )
expr-layer (layer.Cast t operand at) =
    let g = of_expr facts operand.value.0 in
    let split = λ (middle : Bool) (h : ((type_is_formed t.value middle && is_no_looser g.level PrefixLevel) && (g.is_formed middle && true)) ≡ true).
    both_pass (type_is_formed t.value middle && is_no_looser g.level PrefixLevel) (g.is_formed middle && true) h in (
      λ ks. refl,
      cast-known t.value at (expr_pieces operand.value.0) (facts.expr (parts_of_expr facts (firsts_of_expr (layer.Cast t operand at)))) g operand.value.1.1 refl refl
          (λ middle h.
          let a = split middle h in
          (no_looser g.level PrefixLevel (both_pass (type_is_formed t.value middle) (is_no_looser g.level PrefixLevel) a.0).1, (both_pass (g.is_formed middle) true a.1).0))
          (λ middle h. (both_pass (type_is_formed t.value middle) (is_no_looser g.level PrefixLevel) (split middle h).0).0),
    )
expr-layer (layer.Binary left op right at) =
    let f = of_expr facts left.value.0 in
    let g = of_expr facts right.value.0 in (
      λ ks. left.value.1.0 _,
      binary-known at (expr_pieces left.value.0) (expr_pieces right.value.0) f g (facts.expr (parts_of_expr facts (firsts_of_expr (layer.Binary left op right at)))) left.value.1.1 right.value.1.1 refl op refl
          (λ middle h.
          let a = both_pass (takes op f.level g.level) (f.is_formed middle && (g.is_formed middle && true)) h in
          let b = both_pass (f.is_formed middle) (g.is_formed middle && true) a.1 in
          (a.0, (b.0, (both_pass (g.is_formed middle) true b.1).0))),
    )
expr-layer (layer.TypeTest operand t at) =
    let f = of_expr facts operand.value.0 in (
      λ ks. operand.value.1.0 _,
      test-known at (expr_pieces operand.value.0) t.value f (facts.expr (parts_of_expr facts (firsts_of_expr (layer.TypeTest operand t at)))) operand.value.1.1 refl refl refl
          (λ middle h.
          let a = both_pass (is_tighter f.level Comparison && type_is_formed t.value middle) (f.is_formed middle && true) h in
          let b = both_pass (is_tighter f.level Comparison) (type_is_formed t.value middle) a.0 in
          (tighter f.level Comparison b.0, ((both_pass (f.is_formed middle) true a.1).0, b.1))),
    )
expr-layer (layer.Conditional condition middle last at) =
    let c = of_expr facts condition.value.0 in
    let m = of_expr facts middle.value.0 in
    let l = of_expr facts last.value.0 in (
      λ ks. condition.value.1.0 _,
      conditional-known at (expr_pieces condition.value.0) (expr_pieces middle.value.0) (expr_pieces last.value.0) c m l (facts.expr (parts_of_expr facts (firsts_of_expr (layer.Conditional condition middle last at)))) condition.value.1.1 middle.value.1.1 last.value.1.1 last.value.1.0 refl refl
          (λ outer h.
          let a = both_pass (make_conditional c m l) (c.is_formed outer && (m.is_formed true && (l.is_formed outer && true))) h in
          let b = both_pass (c.is_formed outer) (m.is_formed true && (l.is_formed outer && true)) a.1 in
          let d = both_pass (m.is_formed true) (l.is_formed outer && true) b.1 in
          let e = both_pass (is_tighter c.level ConditionalLevel && is_no_looser m.level ConditionalLevel && is_no_looser l.level ConditionalLevel && not c.end.in_type) (not (m.end.in_int && l.begins_with_word)) a.0 in
          let i = both_pass (is_tighter c.level ConditionalLevel && is_no_looser m.level ConditionalLevel && is_no_looser l.level ConditionalLevel) (not c.end.in_type) e.0 in
          let j = both_pass (is_tighter c.level ConditionalLevel && is_no_looser m.level ConditionalLevel) (is_no_looser l.level ConditionalLevel) i.0 in
          let k = both_pass (is_tighter c.level ConditionalLevel) (is_no_looser m.level ConditionalLevel) j.0 in
          record {
            condition = (tighter c.level ConditionalLevel k.0, b.0);
            no_type = λ ends. let bad : false ≡ true = sym (not_true c.end.in_type i.1) ∙ ends in cc bad;
            between = (no_looser m.level ConditionalLevel k.1, d.0);
            last = (no_looser l.level ConditionalLevel j.1, (both_pass (l.is_formed outer) true d.1).0);
            no_name = not_both m.end.in_int l.begins_with_word e.1;
          }),
    )
expr-layer (layer.Trap operand at) =
    let g = of_expr facts operand.value.0 in (
      λ ks. refl,
      trap-known (expr_pieces operand.value.0) (facts.expr (parts_of_expr facts (firsts_of_expr (layer.Trap operand at)))) g operand.value.1.1 refl refl (λ middle h. (both_pass (g.is_formed middle) true h).0) at,
    )
expr-layer (layer.«Expr::Function» isolated params result value at) =
    let g = of_expr facts value.value.0 in (
      λ ks. function-begins isolated (onto (params_pieces params & returning (type_pieces result.value) & sign FatArrow & expr_pieces value.value.0) ks),
      function-known (expr_pieces value.value.0) (facts.expr (parts_of_expr facts (firsts_of_expr (layer.«Expr::Function» isolated params result value at)))) g value.value.1.1 refl refl
          (λ middle h. (both_pass (g.is_formed middle) true (both_pass (params_are_formed params && type_is_formed result.value middle) (g.is_formed middle && true) h).1).0)
          at isolated params result.value
          (λ middle h. both_pass (params_are_formed params) (type_is_formed result.value middle) (both_pass (params_are_formed params && type_is_formed result.value middle) (g.is_formed middle && true) h).0),
    )

-- the place of the first token says nothing of the tokens
module _ (at : Place) (p : Pieces) where
  placed : (n : ℕ) (middle is_field : Bool) (ks : Kinds) → PostfixAt n middle p is_field ks → PostfixAt n middle (starts at & p) is_field ks
  placed n middle is_field ks r = record { left = r.left; is = r.is; no_more = r.no_more; just = r.just }

  placed-primary : (n : ℕ) (middle : Bool) (ks : Kinds) → PrimaryAt n middle p ks → PrimaryAt n middle (starts at & p) ks
  placed-primary n middle ks r = record { rest = r.rest; is = r.is; no_more = r.no_more; just = r.just }

postfix-layer : (y : Postfix-F ACall AnExpr AKey APostfix APrimary ADetail AMember) → LayerPostfix y
postfix-layer (layer.Primary e) =
    let f = of_primary facts e.0 in
    (e.1.0, λ n middle ks h fits. primary-alone n middle (primary_pieces e.0) ks (e.1.1 n middle ks (both_pass (f.is_formed middle) true h).0 fits))
postfix-layer (layer.Call e) =
    let f = of_call facts e.0 in
    (e.1.0, λ n middle ks h fits. e.1.1 n middle ks (both_pass (f.is_formed middle) true h).0 fits)
postfix-layer (layer.Field base field at) =
    let f = of_postfix facts base.value.0 in
    let p = postfix_pieces base.value.0 in
    (λ ks. base.value.1.0 _, λ n middle ks h fits. placed at (p & sign Dot & word_pieces field) n middle true ks (field-law n p f base.value.1.1 field middle ks (both_pass (f.is_formed middle) true h).0 fits))
postfix-layer (layer.OptionalField base field at) =
    let f = of_postfix facts base.value.0 in
    let p = postfix_pieces base.value.0 in
    (λ ks. base.value.1.0 _, λ n middle ks h fits. placed at (p & sign QuestionDot & word_pieces field) n middle false ks (optional_field-law n p f base.value.1.1 field middle ks (both_pass (f.is_formed middle) true h).0 fits))
postfix-layer (layer.Index base index at) =
    let f = of_postfix facts base.value.0 in
    let g = of_expr facts index.value.0 in
    let p = postfix_pieces base.value.0 in
    let q = expr_pieces index.value.0 in (
      λ ks. base.value.1.0 _,
      λ n middle ks h fits.
          let a = both_pass (f.is_formed middle) (g.is_formed false && true) h in
          placed at (p & sign OpenBracket & q & sign CloseBracket) n middle false ks (index-law n p f base.value.1.1 q g index.value.1.1 middle ks a.0 (both_pass (g.is_formed false) true a.1).0 fits),
    )

call-layer : (y : Call-F ACall AnExpr AKey APostfix APrimary ADetail AMember) → LayerCall y
call-layer (layer.«Call::Function» callee args at) =
    let f = of_postfix facts callee.value.0 in
    let p = postfix_pieces callee.value.0 in
    let ps = map expr_pieces (map (λ e. e.0) args.items) in
    let parts = each_inside (map (of_expr facts) (map (λ e. e.0) args.items)) in (
      λ ks. callee.value.1.0 _,
      λ n middle ks h fits.
          let a = both_pass (not f.is_field) (f.is_formed middle && list_all (part_is_formed middle) parts) h in
          let b = both_pass (f.is_formed middle) (list_all (part_is_formed middle) parts) a.1 in
          placed at (p & argument_pieces ps) n middle false ks (call-law n p f callee.value.1.1 ps middle ks (no-expr-at-paren n false) (items-pass n middle args.items b.1).0 b.0 (not_true f.is_field a.0) fits),
    )
call-layer (layer.Method receiver method args at) =
    let f = of_postfix facts receiver.value.0 in
    let p = postfix_pieces receiver.value.0 in
    let ps = map expr_pieces (map (λ e. e.0) args.items) in
    let parts = each_inside (map (of_expr facts) (map (λ e. e.0) args.items)) in (
      λ ks. receiver.value.1.0 _,
      λ n middle ks h fits.
          let b = both_pass (f.is_formed middle) (list_all (part_is_formed middle) parts) h in
          placed at (p & sign Dot & word_pieces method & argument_pieces ps) n middle false ks (method-law n p f receiver.value.1.1 ps middle ks (no-expr-at-paren n false) (items-pass n middle args.items b.1).0 b.0 method fits),
    )

literal-begins : (l : Literal) (ks : Kinds) → is_some (take_word (onto (literal_pieces l) ks)) ≡ false
literal-begins (IntLiteral value at) ks = refl
literal-begins (StrLiteral text at) ks = refl
literal-begins (TrueLiteral at) ks = refl
literal-begins (FalseLiteral at) ks = refl
literal-begins (NilLiteral at) ks = refl

name-begins : (name : QualifiedName) (ks : Kinds) → is_some (take_word (onto (name_pieces name) ks)) ≡ name_begins_with_word name.prefix
name-begins name ks = by_prefix name.prefix
  where
    by_prefix : (p : Option Prefix) → is_some (take_word (onto (name_pieces record name { prefix = p }) ks)) ≡ name_begins_with_word p
    by_prefix None = refl
    by_prefix (Some (WordPrefix w)) = refl
    by_prefix (Some (IntPrefix at)) = refl

primary-layer : (y : Primary-F ACall AnExpr AKey APostfix APrimary ADetail AMember) → LayerPrimary y
primary-layer (layer.Literal l) = (literal-begins l, λ n middle ks h fits. literal-law l n middle ks)
primary-layer (layer.Name name) = (name-begins name, λ n middle ks h fits. name-law name n middle ks (both_pass (name_fits middle name.prefix) true h).0)
primary-layer (layer.Parens inner at) =
    let f = of_expr facts inner.value.0 in
    let p = expr_pieces inner.value.0 in
    (λ ks. refl, λ n middle ks h fits. placed-primary at (sign OpenParen & p & sign CloseParen) n middle ks (parens-law p f inner.value.1.1 n middle ks (both_pass (f.is_formed false) true h).0 fits))
primary-layer (layer.List items at) =
    let ps = map expr_pieces (map (λ e. e.0) items.items) in
    (λ ks. refl, λ n middle ks h fits. placed-primary at (sign OpenBracket & separated Comma ps & sign CloseBracket) n middle ks (list-law ps n middle ks (items-pass n middle items.items h).1 fits))
primary-layer (layer.Mapping members at) =
    let ps = map member_pieces (map (λ e. e.0) members.items) in
    (λ ks. refl, λ n middle ks h fits. placed-primary at (sign OpenBrace & separated Comma ps & sign CloseBrace) n middle ks (mapping-law ps n middle ks (members-pass n middle members.items h) fits))
primary-layer (layer.Error message None details at) =
    let f = of_expr facts message.value.0 in
    let p = expr_pieces message.value.0 in
    let ps = map detail_pieces (map (λ e. e.0) details.items) in
    let parts = each_inside (map (of_detail facts) (map (λ e. e.0) details.items)) in (
      λ ks. refl,
      λ n middle ks h fits.
          let a = both_pass (f.is_formed false) (list_all (part_is_formed middle) parts) h in
          found n middle (starts at & key ErrorKey & sign OpenParen & p & nothing & behind Comma ps & sign CloseParen) ks (error-alone p f message.value.1.1 a.0 n ps (details-pass n middle details.items a.1) ks fits),
    )
primary-layer (layer.Error message (Some cause) details at) =
    let f = of_expr facts message.value.0 in
    let g = of_expr facts cause.value.0 in
    let p = expr_pieces message.value.0 in
    let q = expr_pieces cause.value.0 in
    let ps = map detail_pieces (map (λ e. e.0) details.items) in
    let parts = each_inside (map (of_detail facts) (map (λ e. e.0) details.items)) in (
      λ ks. refl,
      λ n middle ks h fits.
          let a = both_pass (f.is_formed false) (g.is_formed false && list_all (part_is_formed middle) parts) h in
          let b = both_pass (g.is_formed false) (list_all (part_is_formed middle) parts) a.1 in
          found n middle (starts at & key ErrorKey & sign OpenParen & p & (sign Comma & q) & behind Comma ps & sign CloseParen) ks (error-cause p f message.value.1.1 a.0 n ps (details-pass n middle details.items b.1) ks q g cause.value.1.1 b.0 fits),
    )

key-layer : (y : Key-F ACall AnExpr AKey APostfix APrimary ADetail AMember) → LayerKey y
key-layer (layer.Word w) n ks h fits = refl
key-layer (layer.Str text at) n ks h fits = refl
key-layer (layer.Computed value at) n ks h fits =
    let f = of_expr facts value.value.0 in
    index-read n (expr_pieces value.value.0) f value.value.1.1 ks (both_pass (f.is_formed false) true h).0 fits

member-layer : (y : Member-F ACall AnExpr AKey APostfix APrimary ADetail AMember) → LayerMember y
member-layer y n h =
    let f = of_key facts y.key.0 in
    let g = of_expr facts y.value.value.0 in
    let a = both_pass (f.is_formed false) (g.is_formed false && true) h in
    let item = member-item (key_pieces y.key.0) (expr_pieces y.value.value.0) f g y.key.1 y.value.value.1.1 n a.0 (both_pass (g.is_formed false) true a.1).0 in
    record { goes = item.goes; ends = item.ends }

detail-layer : (y : Detail-F ACall AnExpr AKey APostfix APrimary ADetail AMember) → LayerDetail y
detail-layer y n h =
    let g = of_expr facts y.value.value.0 in
    let it = detail-at y.name (expr_pieces y.value.value.0) g y.value.value.1.1 n (both_pass (g.is_formed false) true h).0 in
    record { named = it.named; goes = it.goes }

-- ---- the whole

call-rolled : (x : Call-F Call Expr Key Postfix Primary Detail Member) → CallClaim (writing.call (parts_of_call writing x)) (facts.call (parts_of_call facts x)) → ClaimCall (roll-Call x)
call-rolled x h = subst (λ f. CallClaim (of_call writing (roll-Call x)) f) (sym (rolled-call facts x)) (subst (λ p. CallClaim p (facts.call (parts_of_call facts x))) (sym (rolled-call writing x)) h)

call-step : (x : Call-F Call Expr Key Postfix Primary Detail Member) (y : Call-F ACall AnExpr AKey APostfix APrimary ADetail AMember) → firsts_of_call y ≡ x → ClaimCall (roll-Call x)
call-step x y is = subst (λ z. ClaimCall (roll-Call z)) is (call-rolled (firsts_of_call y) (call-layer y))

expr-rolled : (x : Expr-F Call Expr Key Postfix Primary Detail Member) → ExprClaim (writing.expr (parts_of_expr writing x)) (facts.expr (parts_of_expr facts x)) → ClaimExpr (roll-Expr x)
expr-rolled x h = subst (λ f. ExprClaim (of_expr writing (roll-Expr x)) f) (sym (rolled-expr facts x)) (subst (λ p. ExprClaim p (facts.expr (parts_of_expr facts x))) (sym (rolled-expr writing x)) h)

expr-step : (x : Expr-F Call Expr Key Postfix Primary Detail Member) (y : Expr-F ACall AnExpr AKey APostfix APrimary ADetail AMember) → firsts_of_expr y ≡ x → ClaimExpr (roll-Expr x)
expr-step x y is = subst (λ z. ClaimExpr (roll-Expr z)) is (expr-rolled (firsts_of_expr y) (expr-layer y))

key-rolled : (x : Key-F Call Expr Key Postfix Primary Detail Member) → KeyLaw (writing.key (parts_of_key writing x)) (facts.key (parts_of_key facts x)) → ClaimKey (roll-Key x)
key-rolled x h = subst (λ f. KeyLaw (of_key writing (roll-Key x)) f) (sym (rolled-key facts x)) (subst (λ p. KeyLaw p (facts.key (parts_of_key facts x))) (sym (rolled-key writing x)) h)

key-step : (x : Key-F Call Expr Key Postfix Primary Detail Member) (y : Key-F ACall AnExpr AKey APostfix APrimary ADetail AMember) → firsts_of_key y ≡ x → ClaimKey (roll-Key x)
key-step x y is = subst (λ z. ClaimKey (roll-Key z)) is (key-rolled (firsts_of_key y) (key-layer y))

postfix-rolled : (x : Postfix-F Call Expr Key Postfix Primary Detail Member) → PostfixClaim (writing.postfix (parts_of_postfix writing x)) (facts.postfix (parts_of_postfix facts x)) → ClaimPostfix (roll-Postfix x)
postfix-rolled x h = subst (λ f. PostfixClaim (of_postfix writing (roll-Postfix x)) f) (sym (rolled-postfix facts x)) (subst (λ p. PostfixClaim p (facts.postfix (parts_of_postfix facts x))) (sym (rolled-postfix writing x)) h)

postfix-step : (x : Postfix-F Call Expr Key Postfix Primary Detail Member) (y : Postfix-F ACall AnExpr AKey APostfix APrimary ADetail AMember) → firsts_of_postfix y ≡ x → ClaimPostfix (roll-Postfix x)
postfix-step x y is = subst (λ z. ClaimPostfix (roll-Postfix z)) is (postfix-rolled (firsts_of_postfix y) (postfix-layer y))

primary-rolled : (x : Primary-F Call Expr Key Postfix Primary Detail Member) → PrimaryClaim (writing.primary (parts_of_primary writing x)) (facts.primary (parts_of_primary facts x)) → ClaimPrimary (roll-Primary x)
primary-rolled x h = subst (λ f. PrimaryClaim (of_primary writing (roll-Primary x)) f) (sym (rolled-primary facts x)) (subst (λ p. PrimaryClaim p (facts.primary (parts_of_primary facts x))) (sym (rolled-primary writing x)) h)

primary-step : (x : Primary-F Call Expr Key Postfix Primary Detail Member) (y : Primary-F ACall AnExpr AKey APostfix APrimary ADetail AMember) → firsts_of_primary y ≡ x → ClaimPrimary (roll-Primary x)
primary-step x y is = subst (λ z. ClaimPrimary (roll-Primary z)) is (primary-rolled (firsts_of_primary y) (primary-layer y))

detail-rolled : (x : Detail-F Call Expr Key Postfix Primary Detail Member) → DetailLaw (writing.detail (parts_of_detail writing x)) (facts.detail (parts_of_detail facts x)) → ClaimDetail (roll-Detail x)
detail-rolled x h = subst (λ f. DetailLaw (of_detail writing (roll-Detail x)) f) (sym (rolled-detail facts x)) (subst (λ p. DetailLaw p (facts.detail (parts_of_detail facts x))) (sym (rolled-detail writing x)) h)

detail-step : (x : Detail-F Call Expr Key Postfix Primary Detail Member) (y : Detail-F ACall AnExpr AKey APostfix APrimary ADetail AMember) → firsts_of_detail y ≡ x → ClaimDetail (roll-Detail x)
detail-step x y is = subst (λ z. ClaimDetail (roll-Detail z)) is (detail-rolled (firsts_of_detail y) (detail-layer y))

member-rolled : (x : Member-F Call Expr Key Postfix Primary Detail Member) → MemberLaw (writing.member (parts_of_member writing x)) (facts.member (parts_of_member facts x)) → ClaimMember (roll-Member x)
member-rolled x h = subst (λ f. MemberLaw (of_member writing (roll-Member x)) f) (sym (rolled-member facts x)) (subst (λ p. MemberLaw p (facts.member (parts_of_member facts x))) (sym (rolled-member writing x)) h)

member-step : (x : Member-F Call Expr Key Postfix Primary Detail Member) (y : Member-F ACall AnExpr AKey APostfix APrimary ADetail AMember) → firsts_of_member y ≡ x → ClaimMember (roll-Member x)
member-step x y is = subst (λ z. ClaimMember (roll-Member z)) is (member-rolled (firsts_of_member y) (member-layer y))

expr-claim : (e : Expr) → ClaimExpr e
expr-claim = ind-Expr ClaimCall ClaimExpr ClaimKey ClaimPostfix ClaimPrimary ClaimDetail ClaimMember call-step expr-step key-step postfix-step primary-step detail-step member-step

pub expr-law : (e : Expr) → ExprLaw (expr_pieces e) (of_expr facts e)
expr-law e = (expr-claim e).1

-- whether the first token of an expression is a word
pub expr-begins : (e : Expr) → Begins (expr_pieces e) (of_expr facts e)
expr-begins e = (expr-claim e).0
