-- Two expressions of the same tokens are alike, where all that have fewer tokens are.
use Rattle.std.proofs.Common.{◌≡◌, ℕ, suc, ◌<◌, ◌≤◌, Bool, true, false, ◌&&◌, List, [], ◌∷◌, map, length, None, Some, refl, sym, ap, ◌∙◌, subst, arith}
use Rattle.std.specs.List.{list_all}
use Rattle.bal_base.specs.declared.token.TokenKind.TheVariants.{Word as WordKind, Str as StrKind, Sign as SignKind}
use Rattle.bal_base.specs.declared.token.Sign.{Sign}
use Rattle.bal_base.specs.declared.token.Sign.TheVariants.{OpenParen, CloseParen, CloseBracket, CloseBrace, Comma, Colon, Equal}
use Rattle.bal_tree.specs.declared.expr.Call.{Call}
use Rattle.bal_tree.specs.declared.expr.Call.TheOpen as layer
use Rattle.bal_tree.specs.declared.expr.Detail.{Detail, Detail-F, roll-Detail, out-Detail, roll-out-Detail}
use Rattle.bal_tree.specs.declared.expr.Expr.{Expr}
use Rattle.bal_tree.specs.declared.expr.Key.{Key, Key-F, roll-Key, out-Key, roll-out-Key}
use Rattle.bal_tree.specs.declared.expr.Member.{Member, Member-F, roll-Member, out-Member, roll-out-Member}
use Rattle.bal_tree.specs.declared.expr.Postfix.{Postfix}
use Rattle.bal_tree.specs.declared.expr.Primary.{Primary}
use Rattle.bal_tree.specs.declared.name.QualifiedName.{QualifiedName}
use Rattle.bal_tree.specs.declared.stmt.Target.TheVariants.{Name as NameTarget}
use Rattle.bal_tree.specs.ExprLayers.{of_detail, of_key, of_member}
use Rattle.bal_tree.specs.ExprPieces.{expr_pieces, writing}
use Rattle.bal_tree.specs.ExprRules.{ExprEnd, expr_facts, facts, part_is_formed}
use Rattle.bal_tree.specs.Parts.{each_inside}
use Rattle.bal_tree.specs.Pieces.{Pieces, behind, separated}
use Rattle.bal_tree.specs.Spells.{onto}
use Rattle.token_steps.specs.Tokens.{Kinds, take_sign}
use Rattle.parse_types.proofs.Follows.{closes-stay}
use Rattle.parse_types.proofs.Law.{both_pass}
use Rattle.parse_types.proofs.Onto.{onto-longer}
use Rattle.parse_expr.specs.Reaches.{inside}
use Rattle.parse_expr.proofs.ExprRolls.{parts_of_detail, parts_of_key, parts_of_member, rolled-detail, rolled-key, rolled-member}
use Rattle.parse_expr.proofs.Follows.{Closes, closes, ends-anywhere}
use Rattle.parse_expr.proofs.Law.{before}
use Rattle.parse_expr.proofs.PrimaryLaw.{no-expr-at-paren}
use Rattle.parse_expr.proofs.WholeLaw.{expr-law}
use Rattle.parse_stmt.proofs.Alike.{Same, behind_first, first-token}
use Rattle.parse_stmt.proofs.ExprSpines.{is_field, AfterExpr, AfterTight, AnArgument, Suffix, Told, args, argument_pieces, field, index, method, optional, rank_of, suffix_pieces, told_expr}
use Rattle.parse_stmt.proofs.LedLaw.{as-expr}

abbrev pub OneAt : ℕ → ℕ → Type 0
OneAt k n = (t u : Expr) (middle : Bool) (ks ls : Kinds) → length (onto (told_expr t).pieces ks) < n → rank_of (told_expr t) ≤ k → rank_of (told_expr u) ≤ k → (told_expr t).facts.is_formed middle ≡ true → (told_expr u).facts.is_formed middle ≡ true → AfterExpr k middle (told_expr t).facts.end ks → AfterExpr k middle (told_expr u).facts.end ls → onto (told_expr t).pieces ks ≡ onto (told_expr u).pieces ls → Same (told_expr t).pieces (told_expr u).pieces ks ls

-- so are all that have fewer tokens than so many, with what stands behind them
pub record AllBelow (n : ℕ) : Type 0 where
  pub levels : (k : ℕ) → k ≤ 9 → OneAt k n
  pub loose : (t u : Expr) (middle : Bool) (ks ls : Kinds) → length (onto (told_expr t).pieces ks) < n → (told_expr t).facts.is_formed middle ≡ true → (told_expr u).facts.is_formed middle ≡ true → AfterExpr 9 middle (told_expr t).facts.end ks → AfterExpr 9 middle (told_expr u).facts.end ls → onto (told_expr t).pieces ks ≡ onto (told_expr u).pieces ls → Same (told_expr t).pieces (told_expr u).pieces ks ls

pub closes-after : (middle : Bool) (end : ExprEnd) (ks : Kinds) → Closes ks → AfterExpr 9 middle end ks
closes-after middle end ks c = record {
  ends = ends-anywhere middle ks c.ends;
  colon = λ _. c.type_closes.colon;
  types = λ _. (closes-stay middle end.in_int ks c.type_closes, c.type_closes.ends);
  quiet = c.calm;
}

abbrev pub LayerOfDetail : Type 0
LayerOfDetail = Detail-F Call Expr Key Postfix Primary Detail Member

abbrev pub told_detail : Detail → Told
told_detail e = record { facts = of_detail facts e; pieces = of_detail writing e }

abbrev layer_detail : LayerOfDetail → Told
layer_detail x = record { facts = facts.detail (parts_of_detail facts x); pieces = writing.detail (parts_of_detail writing x) }

told-detail : (x : LayerOfDetail) → told_detail (roll-Detail x) ≡ layer_detail x
told-detail x = λ i. record { facts = rolled-detail facts x i; pieces = rolled-detail writing x i }

abbrev pub LayerOfKey : Type 0
LayerOfKey = Key-F Call Expr Key Postfix Primary Detail Member

abbrev pub told_key : Key → Told
told_key e = record { facts = of_key facts e; pieces = of_key writing e }

abbrev layer_key : LayerOfKey → Told
layer_key x = record { facts = facts.key (parts_of_key facts x); pieces = writing.key (parts_of_key writing x) }

told-key : (x : LayerOfKey) → told_key (roll-Key x) ≡ layer_key x
told-key x = λ i. record { facts = rolled-key facts x i; pieces = rolled-key writing x i }

abbrev pub LayerOfMember : Type 0
LayerOfMember = Member-F Call Expr Key Postfix Primary Detail Member

abbrev pub told_member : Member → Told
told_member e = record { facts = of_member facts e; pieces = of_member writing e }

abbrev layer_member : LayerOfMember → Told
layer_member x = record { facts = facts.member (parts_of_member facts x); pieces = writing.member (parts_of_member writing x) }

told-member : (x : LayerOfMember) → told_member (roll-Member x) ≡ layer_member x
told-member x = λ i. record { facts = rolled-member facts x i; pieces = rolled-member writing x i }

abbrev pub NoExprAt : Sign → Type 0
NoExprAt c = (n : ℕ) (zs : Kinds) → inside n 10 false (SignKind c ∷ zs) ≡ None

-- no expression begins so
pub no-first : (c : Sign) → NoExprAt c → (e : Expr) (ks zs : Kinds) → (told_expr e).facts.is_formed false ≡ true → Closes ks → SignKind c ∷ zs ≡ onto (told_expr e).pieces ks → ⊥
no-first c none e ks zs f close q =
    let n = suc (length (onto (expr_pieces e) ks)) in
    let bad : None ≡ Some ks = sym (none n zs) ∙ ap (inside n 10 false) q ∙ before (expr_pieces e) (expr_facts e) (expr-law e) n false ks f (omega arith) close in
    cc bad

module _ (n : ℕ) (all : AllBelow n) where
  -- an expression before what ends it
  pub before-end : (e f : Expr) (ks ls : Kinds) → length (onto (told_expr e).pieces ks) < n → (told_expr e).facts.is_formed false ≡ true → (told_expr f).facts.is_formed false ≡ true → Closes ks → Closes ls → onto (told_expr e).pieces ks ≡ onto (told_expr f).pieces ls → Same (told_expr e).pieces (told_expr f).pieces ks ls
  before-end e f ks ls fits fe ff c d q = all.loose e f false ks ls fits fe ff (closes-after false (told_expr e).facts.end ks c) (closes-after false (told_expr f).facts.end ls d) q

  -- ---- lists of expressions, up to a closing sign

  module _ (c : Sign) (ends : (ks : Kinds) → Closes (SignKind c ∷ ks)) (none : NoExprAt c) (differ : (ks ls : Kinds) → SignKind c ∷ ks ≡ SignKind Comma ∷ ls → ⊥) where
    list-closes : (xs : List AnArgument) (ks : Kinds) → Closes (onto (behind Comma (map argument_pieces xs)) (SignKind c ∷ ks))
    list-closes [] ks = ends ks
    list-closes (x ∷ xs) ks = closes Comma (onto (argument_pieces x) (onto (behind Comma (map argument_pieces xs)) (SignKind c ∷ ks))) refl

    more-same : (xs ys : List AnArgument) (ks ls : Kinds) → length (onto (behind Comma (map argument_pieces xs)) (SignKind c ∷ ks)) ≤ n → onto (behind Comma (map argument_pieces xs)) (SignKind c ∷ ks) ≡ onto (behind Comma (map argument_pieces ys)) (SignKind c ∷ ls) → Same (behind Comma (map argument_pieces xs)) (behind Comma (map argument_pieces ys)) (SignKind c ∷ ks) (SignKind c ∷ ls)
    more-same [] [] ks ls fits e = (tt, e)
    more-same [] (y ∷ ys) ks ls fits e = absurd (differ ks _ e)
    more-same (x ∷ xs) [] ks ls fits e = absurd (differ ls _ (sym e))
    more-same (x ∷ xs) (y ∷ ys) ks ls fits e =
        let zs = onto (behind Comma (map argument_pieces xs)) (SignKind c ∷ ks) in
        let ws = onto (behind Comma (map argument_pieces ys)) (SignKind c ∷ ls) in
        let a = before-end x.0 y.0 zs ws (omega arith) x.1 y.1 (list-closes xs ks) (list-closes ys ls) (ap behind_first e) in
        let l = onto-longer (argument_pieces x) zs in
        let b = more-same xs ys ks ls (omega arith) a.1 in
        ((refl, (a.0, b.0)), b.1)

    pub list-same : (xs ys : List AnArgument) (ks ls : Kinds) → length (onto (separated Comma (map argument_pieces xs)) (SignKind c ∷ ks)) < n → onto (separated Comma (map argument_pieces xs)) (SignKind c ∷ ks) ≡ onto (separated Comma (map argument_pieces ys)) (SignKind c ∷ ls) → Same (separated Comma (map argument_pieces xs)) (separated Comma (map argument_pieces ys)) (SignKind c ∷ ks) (SignKind c ∷ ls)
    list-same [] [] ks ls fits e = (tt, e)
    list-same [] (y ∷ ys) ks ls fits e = absurd (no-first c none y.0 (onto (behind Comma (map argument_pieces ys)) (SignKind c ∷ ls)) ks y.1 (list-closes ys ls) e)
    list-same (x ∷ xs) [] ks ls fits e = absurd (no-first c none x.0 (onto (behind Comma (map argument_pieces xs)) (SignKind c ∷ ks)) ls x.1 (list-closes xs ks) (sym e))
    list-same (x ∷ xs) (y ∷ ys) ks ls fits e =
        let zs = onto (behind Comma (map argument_pieces xs)) (SignKind c ∷ ks) in
        let ws = onto (behind Comma (map argument_pieces ys)) (SignKind c ∷ ls) in
        let a = before-end x.0 y.0 zs ws fits x.1 y.1 (list-closes xs ks) (list-closes ys ls) e in
        let l = onto-longer (argument_pieces x) zs in
        let b = more-same xs ys ks ls (omega arith) a.1 in
        ((a.0, b.0), b.1)

  paren-list : (xs ys : List AnArgument) (ks ls : Kinds) → length (onto (separated Comma (map argument_pieces xs)) (SignKind CloseParen ∷ ks)) < n → onto (separated Comma (map argument_pieces xs)) (SignKind CloseParen ∷ ks) ≡ onto (separated Comma (map argument_pieces ys)) (SignKind CloseParen ∷ ls) → Same (separated Comma (map argument_pieces xs)) (separated Comma (map argument_pieces ys)) (SignKind CloseParen ∷ ks) (SignKind CloseParen ∷ ls)
  paren-list = list-same CloseParen (λ ks. closes CloseParen ks refl) (λ m zs. no-expr-at-paren m false zs) (λ ks ls e. cc e)

  -- ---- suffixes

  no-args : (zs ks : Kinds) → take_sign OpenParen zs ≡ None → zs ≡ SignKind OpenParen ∷ ks → ⊥
  no-args zs ks h e = let bad : None ≡ Some ks = sym h ∙ ap (take_sign OpenParen) e in cc bad

  pub suffixes-same : (x y : Suffix) (zs ws : Kinds) → AfterTight true (is_field x) n (suffix_pieces x) zs → AfterTight true (is_field y) n (suffix_pieces y) ws → onto (suffix_pieces x) zs ≡ onto (suffix_pieces y) ws → Same (suffix_pieces x) (suffix_pieces y) zs ws
  suffixes-same (field w) (field v) zs ws h k e = ((refl, (tt, cc e)), cc e)
  suffixes-same (field w) (method v ys) zs ws h k e = absurd (no-args zs _ (h.no_call refl) (ap behind_first (ap behind_first e)))
  suffixes-same (method w xs) (field v) zs ws h k e = absurd (no-args ws _ (k.no_call refl) (sym (ap behind_first (ap behind_first e))))
  suffixes-same (method w xs) (method v ys) zs ws h k e =
      let m = h.fits in
      let s = paren-list xs ys zs ws (omega arith) (ap behind_first (ap behind_first (ap behind_first e))) in
      ((refl, ((tt, first-token (WordKind w.name) (WordKind v.name) _ _ (ap behind_first e)), (refl, (s.0, refl)))), ap behind_first s.1)
  suffixes-same (optional w) (optional v) zs ws h k e = ((refl, (tt, cc e)), cc e)
  suffixes-same (index x) (index y) zs ws h k e =
      let m = h.fits in
      let s = before-end x.0 y.0 (SignKind CloseBracket ∷ zs) (SignKind CloseBracket ∷ ws) (omega arith) x.1 y.1 (closes CloseBracket zs refl) (closes CloseBracket ws refl) (ap behind_first e) in
      ((refl, (s.0, refl)), ap behind_first s.1)
  suffixes-same (args xs) (args ys) zs ws h k e =
      let m = h.fits in
      let s = paren-list xs ys zs ws (omega arith) (ap behind_first e) in
      ((refl, (s.0, refl)), ap behind_first s.1)
  suffixes-same (field w) (optional v) zs ws h k e = cc e
  suffixes-same (field w) (index y) zs ws h k e = cc e
  suffixes-same (field w) (args ys) zs ws h k e = cc e
  suffixes-same (method w xs) (optional v) zs ws h k e = cc e
  suffixes-same (method w xs) (index y) zs ws h k e = cc e
  suffixes-same (method w xs) (args ys) zs ws h k e = cc e
  suffixes-same (optional w) (field v) zs ws h k e = cc e
  suffixes-same (optional w) (method v ys) zs ws h k e = cc e
  suffixes-same (optional w) (index y) zs ws h k e = cc e
  suffixes-same (optional w) (args ys) zs ws h k e = cc e
  suffixes-same (index x) (field v) zs ws h k e = cc e
  suffixes-same (index x) (method v ys) zs ws h k e = cc e
  suffixes-same (index x) (optional v) zs ws h k e = cc e
  suffixes-same (index x) (args ys) zs ws h k e = cc e
  suffixes-same (args xs) (field v) zs ws h k e = cc e
  suffixes-same (args xs) (method v ys) zs ws h k e = cc e
  suffixes-same (args xs) (optional v) zs ws h k e = cc e
  suffixes-same (args xs) (index y) zs ws h k e = cc e

  -- ---- keys, members and details

  abbrev pub SameBefore : Told → Told → Type 0
  SameBefore a b = (ks ls : Kinds) → length (onto a.pieces ks) < n → a.facts.is_formed false ≡ true → b.facts.is_formed false ≡ true → Closes ks → Closes ls → onto a.pieces ks ≡ onto b.pieces ls → Same a.pieces b.pieces ks ls

  detail-layers : (x y : LayerOfDetail) → SameBefore (layer_detail x) (layer_detail y)
  detail-layers x y ks ls fits f g c d e =
      let s = before-end x.value.value y.value.value ks ls (omega arith) (both_pass ((told_expr x.value.value).facts.is_formed false) true f).0 (both_pass ((told_expr y.value.value).facts.is_formed false) true g).0 c d (ap behind_first (ap behind_first e)) in
      ((tt, ((tt, first-token (WordKind x.name.name) (WordKind y.name.name) _ _ e), (refl, s.0))), s.1)

  pub detail-same : (d b : Detail) → SameBefore (told_detail d) (told_detail b)
  detail-same d b =
      subst (λ v. SameBefore (told_detail d) (told_detail v)) (roll-out-Detail b) (subst (λ v. SameBefore (told_detail v) (told_detail (roll-Detail (out-Detail b)))) (roll-out-Detail d)
      (subst (λ a. SameBefore a (told_detail (roll-Detail (out-Detail b)))) (sym (told-detail (out-Detail d))) (subst (λ a. SameBefore (layer_detail (out-Detail d)) a) (sym (told-detail (out-Detail b))) (detail-layers (out-Detail d) (out-Detail b)))))

  abbrev BeforeColon : Told → Told → Type 0
  BeforeColon a b = (ks ls : Kinds) → length (onto a.pieces (SignKind Colon ∷ ks)) < n → a.facts.is_formed false ≡ true → b.facts.is_formed false ≡ true → onto a.pieces (SignKind Colon ∷ ks) ≡ onto b.pieces (SignKind Colon ∷ ls) → Same a.pieces b.pieces (SignKind Colon ∷ ks) (SignKind Colon ∷ ls)

  key-layers : (x y : LayerOfKey) → BeforeColon (layer_key x) (layer_key y)
  key-layers (layer.Word w) (layer.Word v) ks ls fits f g e = ((tt, first-token (WordKind w.name) (WordKind v.name) _ _ e), ap behind_first e)
  key-layers (layer.Str t at) (layer.Str u other) ks ls fits f g e = ((tt, first-token (StrKind t) (StrKind u) _ _ e), ap behind_first e)
  key-layers (layer.Computed v at) (layer.Computed w other) ks ls fits f g e =
      let s = before-end v.value w.value (SignKind CloseBracket ∷ SignKind Colon ∷ ks) (SignKind CloseBracket ∷ SignKind Colon ∷ ls) (omega arith) (both_pass ((told_expr v.value).facts.is_formed false) true f).0 (both_pass ((told_expr w.value).facts.is_formed false) true g).0 (closes CloseBracket (SignKind Colon ∷ ks) refl) (closes CloseBracket (SignKind Colon ∷ ls) refl) (ap behind_first e) in
      ((tt, (refl, (s.0, refl))), ap behind_first s.1)
  key-layers (layer.Word w) (layer.Str u other) ks ls fits f g e = cc e
  key-layers (layer.Word w) (layer.Computed v other) ks ls fits f g e = cc e
  key-layers (layer.Str t at) (layer.Word v) ks ls fits f g e = cc e
  key-layers (layer.Str t at) (layer.Computed v other) ks ls fits f g e = cc e
  key-layers (layer.Computed v at) (layer.Word w) ks ls fits f g e = cc e
  key-layers (layer.Computed v at) (layer.Str u other) ks ls fits f g e = cc e

  key-same : (d b : Key) → BeforeColon (told_key d) (told_key b)
  key-same d b =
      subst (λ v. BeforeColon (told_key d) (told_key v)) (roll-out-Key b) (subst (λ v. BeforeColon (told_key v) (told_key (roll-Key (out-Key b)))) (roll-out-Key d)
      (subst (λ a. BeforeColon a (told_key (roll-Key (out-Key b)))) (sym (told-key (out-Key d))) (subst (λ a. BeforeColon (layer_key (out-Key d)) a) (sym (told-key (out-Key b))) (key-layers (out-Key d) (out-Key b)))))

  member-layers : (x y : LayerOfMember) → SameBefore (layer_member x) (layer_member y)
  member-layers x y ks ls fits f g c d e =
      let a = both_pass ((told_key x.key).facts.is_formed false) ((told_expr x.value.value).facts.is_formed false && true) f in
      let b = both_pass ((told_key y.key).facts.is_formed false) ((told_expr y.value.value).facts.is_formed false && true) g in
      let zs = onto (told_expr x.value.value).pieces ks in
      let ws = onto (told_expr y.value.value).pieces ls in
      let s = key-same x.key y.key zs ws fits a.0 b.0 e in
      let l = onto-longer (told_key x.key).pieces (SignKind Colon ∷ zs) in
      let v = before-end x.value.value y.value.value ks ls (omega arith) (both_pass ((told_expr x.value.value).facts.is_formed false) true a.1).0 (both_pass ((told_expr y.value.value).facts.is_formed false) true b.1).0 c d (ap behind_first s.1) in
      ((tt, (s.0, (refl, v.0))), v.1)

  pub member-same : (d b : Member) → SameBefore (told_member d) (told_member b)
  member-same d b =
      subst (λ v. SameBefore (told_member d) (told_member v)) (roll-out-Member b) (subst (λ v. SameBefore (told_member v) (told_member (roll-Member (out-Member b)))) (roll-out-Member d)
      (subst (λ a. SameBefore a (told_member (roll-Member (out-Member b)))) (sym (told-member (out-Member d))) (subst (λ a. SameBefore (layer_member (out-Member d)) a) (sym (told-member (out-Member b))) (member-layers (out-Member d) (out-Member b)))))

  -- ---- lists of them: `T` are members or details, behind commas and up to a closing sign

  module _ {T : Type 0} (told : T → Told) (c : Sign) (ends : (ks : Kinds) → Closes (SignKind c ∷ ks)) (differ : (ks ls : Kinds) → SignKind c ∷ ks ≡ SignKind Comma ∷ ls → ⊥) (same : (x y : T) → SameBefore (told x) (told y)) where
    abbrev pub piece : T → Pieces
    piece x = (told x).pieces

    abbrev pub AllFormed : List T → Type 0
    AllFormed xs = list_all (part_is_formed false) (each_inside (map (λ x. (told x).facts) xs)) ≡ true

    pub tail-closes : (xs : List T) (ks : Kinds) → Closes (onto (behind Comma (map piece xs)) (SignKind c ∷ ks))
    tail-closes [] ks = ends ks
    tail-closes (x ∷ xs) ks = closes Comma (onto (piece x) (onto (behind Comma (map piece xs)) (SignKind c ∷ ks))) refl

    pub tail-same : (xs ys : List T) (ks ls : Kinds) → length (onto (behind Comma (map piece xs)) (SignKind c ∷ ks)) ≤ n → AllFormed xs → AllFormed ys → onto (behind Comma (map piece xs)) (SignKind c ∷ ks) ≡ onto (behind Comma (map piece ys)) (SignKind c ∷ ls) → Same (behind Comma (map piece xs)) (behind Comma (map piece ys)) (SignKind c ∷ ks) (SignKind c ∷ ls)
    tail-same [] [] ks ls fits f g e = (tt, e)
    tail-same [] (y ∷ ys) ks ls fits f g e = absurd (differ ks _ e)
    tail-same (x ∷ xs) [] ks ls fits f g e = absurd (differ ls _ (sym e))
    tail-same (x ∷ xs) (y ∷ ys) ks ls fits f g e =
        let a = both_pass ((told x).facts.is_formed false) (list_all (part_is_formed false) (each_inside (map (λ x. (told x).facts) xs))) f in
        let b = both_pass ((told y).facts.is_formed false) (list_all (part_is_formed false) (each_inside (map (λ x. (told x).facts) ys))) g in
        let zs = onto (behind Comma (map piece xs)) (SignKind c ∷ ks) in
        let ws = onto (behind Comma (map piece ys)) (SignKind c ∷ ls) in
        let s = same x y zs ws (omega arith) a.0 b.0 (tail-closes xs ks) (tail-closes ys ls) (ap behind_first e) in
        let l = onto-longer (piece x) zs in
        let more = tail-same xs ys ks ls (omega arith) a.1 b.1 s.1 in
        ((refl, (s.0, more.0)), more.1)

    pub some-same : (x y : T) (xs ys : List T) (ks ls : Kinds) → length (onto (separated Comma (map piece (x ∷ xs))) (SignKind c ∷ ks)) < n → AllFormed (x ∷ xs) → AllFormed (y ∷ ys) → onto (separated Comma (map piece (x ∷ xs))) (SignKind c ∷ ks) ≡ onto (separated Comma (map piece (y ∷ ys))) (SignKind c ∷ ls) → Same (separated Comma (map piece (x ∷ xs))) (separated Comma (map piece (y ∷ ys))) (SignKind c ∷ ks) (SignKind c ∷ ls)
    some-same x y xs ys ks ls fits f g e =
        let a = both_pass ((told x).facts.is_formed false) (list_all (part_is_formed false) (each_inside (map (λ x. (told x).facts) xs))) f in
        let b = both_pass ((told y).facts.is_formed false) (list_all (part_is_formed false) (each_inside (map (λ x. (told x).facts) ys))) g in
        let zs = onto (behind Comma (map piece xs)) (SignKind c ∷ ks) in
        let ws = onto (behind Comma (map piece ys)) (SignKind c ∷ ls) in
        let s = same x y zs ws fits a.0 b.0 (tail-closes xs ks) (tail-closes ys ls) e in
        let l = onto-longer (piece x) zs in
        let more = tail-same xs ys ks ls (omega arith) a.1 b.1 s.1 in
        ((s.0, more.0), more.1)

  -- a cause of an error is no detail
  pub no-cause : (d : Detail) (e : Expr) (zs ks : Kinds) → length (onto (told_expr e).pieces ks) < n → (told_expr e).facts.is_formed false ≡ true → Closes ks → take_sign Equal ks ≡ None → onto (told_detail d).pieces zs ≡ onto (told_expr e).pieces ks → ⊥
  no-cause d e zs ks fits f c no_equal = subst (λ v. onto (told_detail v).pieces zs ≡ onto (told_expr e).pieces ks → ⊥) (roll-out-Detail d) (at (out-Detail d))
    where
      at : (x : LayerOfDetail) → onto (told_detail (roll-Detail x)).pieces zs ≡ onto (told_expr e).pieces ks → ⊥
      at x = subst (λ (a : Told). onto a.pieces zs ≡ onto (told_expr e).pieces ks → ⊥) (sym (told-detail x))
          (λ q.
          let m : QualifiedName = record { prefix = None; word = x.name; at = x.name.at } in
          let a = as-expr (NameTarget m) in
          let ws = SignKind Equal ∷ onto (told_expr x.value.value).pieces zs in
          let s = before-end e a.e ks ws fits f (a.formed refl) c (closes Equal (onto (told_expr x.value.value).pieces zs) refl) (sym q ∙ sym (ap (λ p. onto p ws) a.written)) in
          let bad : None ≡ Some (onto (told_expr x.value.value).pieces zs) = sym no_equal ∙ ap (take_sign Equal) s.1 in
          cc bad)

  -- no member begins with a brace
  pub member-first : (d : Member) (ks zs : Kinds) → SignKind CloseBrace ∷ zs ≡ onto (told_member d).pieces ks → ⊥
  member-first d ks zs = subst (λ v. SignKind CloseBrace ∷ zs ≡ onto (told_member v).pieces ks → ⊥) (roll-out-Member d) (at (out-Member d))
    where
      key-first : (x : LayerOfKey) (xs : Kinds) → SignKind CloseBrace ∷ zs ≡ onto (layer_key x).pieces xs → ⊥
      key-first (layer.Word w) xs q = cc q
      key-first (layer.Str t at) xs q = cc q
      key-first (layer.Computed v at) xs q = cc q

      of-key : (k : Key) (xs : Kinds) → SignKind CloseBrace ∷ zs ≡ onto (told_key k).pieces xs → ⊥
      of-key k xs = subst (λ v. SignKind CloseBrace ∷ zs ≡ onto (told_key v).pieces xs → ⊥) (roll-out-Key k) (subst (λ (a : Told). SignKind CloseBrace ∷ zs ≡ onto a.pieces xs → ⊥) (sym (told-key (out-Key k))) (key-first (out-Key k) xs))

      at : (x : LayerOfMember) → SignKind CloseBrace ∷ zs ≡ onto (told_member (roll-Member x)).pieces ks → ⊥
      at x = subst (λ (a : Told). SignKind CloseBrace ∷ zs ≡ onto a.pieces ks → ⊥) (sym (told-member x)) (λ q. of-key x.key (SignKind Colon ∷ onto (told_expr x.value.value).pieces ks) q)
