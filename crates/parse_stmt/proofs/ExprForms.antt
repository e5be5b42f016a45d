-- Two expressions of the same tokens are alike: each form, and all by how many tokens they have.
use Rattle.std.proofs.Common.{◌≡◌, ℕ, ◌≤◌, Bool, true, false, ◌&&◌, List, [], ◌∷◌, map, length, Option, None, Some, refl, sym, ap, ◌∙◌, subst, eq-eqb, arith}
use Rattle.std.specs.Global.{Box}
use Rattle.std.specs.List.{list_all}
use Rattle.std.specs.Prelude.{◌==◌}
use Rattle.std.proofs.lemmas.Bool.{false≢true}
use Rattle.bal_base.specs.declared.token.TokenKind.TheVariants.{Word as WordKind, Keyword as KeywordKind, Int as IntKind, Str as StrKind, Sign as SignKind}
use Rattle.bal_base.specs.declared.token.Keyword.TheVariants.{Int as IntKey, True as TrueKey, False as FalseKey, Error as ErrorKey}
use Rattle.bal_base.specs.declared.token.Sign.{Sign}
use Rattle.bal_base.specs.declared.token.Sign.TheVariants.{OpenParen, CloseParen, OpenBracket, CloseBracket, OpenBrace, CloseBrace, Comma, Colon, Dot, QuestionDot, Equal}
use Rattle.bal_tree.specs.declared.expr.Call.{Call}
use Rattle.bal_tree.specs.declared.expr.Call.TheOpen as layer
use Rattle.bal_tree.specs.declared.expr.Detail.{Detail}
use Rattle.bal_tree.specs.declared.expr.Expr.{Expr}
use Rattle.bal_tree.specs.declared.expr.Key.{Key}
use Rattle.bal_tree.specs.declared.expr.Member.{Member}
use Rattle.bal_tree.specs.declared.expr.Postfix.{Postfix}
use Rattle.bal_tree.specs.declared.expr.Primary.{Primary, Primary-F, roll-Primary, out-Primary, roll-out-Primary}
use Rattle.bal_tree.specs.declared.name.Literal.TheVariants.{Int as IntLiteral, Str as StrLiteral, True as TrueLiteral, False as FalseLiteral, Nil as NilLiteral}
use Rattle.bal_tree.specs.declared.name.Word.{Word}
use Rattle.bal_tree.specs.ExprPieces.{as_next, expr_pieces, writing}
use Rattle.bal_tree.specs.ExprRules.{ExprFacts, facts, part_is_formed}
use Rattle.bal_tree.specs.Parts.{each_inside}
use Rattle.bal_tree.specs.Pieces.{Pieces, ◌&◌, behind, if_boxed, key, separated, sign, starts}
use Rattle.bal_tree.specs.Spells.{onto}
use Rattle.token_steps.specs.Tokens.{Kinds, take_sign}
use Rattle.parse_types.proofs.Law.{both_pass}
use Rattle.parse_types.proofs.Onto.{onto-longer}
use Rattle.parse_expr.proofs.ExprRolls.{parts_of_primary, rolled-primary}
use Rattle.parse_expr.proofs.Follows.{Closes, Ends, closes}
use Rattle.parse_expr.proofs.PrimaryLaw.{no-expr-at-bracket, no-expr-at-paren}
use Rattle.parse_stmt.proofs.Alike.{Alike, Same, behind_first}
use Rattle.parse_stmt.proofs.ExprSpines.{Suffix, Told, args, argument_pieces, field, index, method, optional, postfix-spine, suffix_pieces, told_expr, told_postfix, told_primary}
use Rattle.parse_stmt.proofs.Spines.{spines-same}
use Rattle.bal_tree.specs.declared.name.ConstValue.TheVariants.{Literal as LiteralValue}
use Rattle.bal_base.specs.declared.place.Place.{Place}
use Rattle.bal_tree.specs.declared.name.Prefix.{Prefix}
use Rattle.bal_tree.specs.declared.name.Prefix.TheVariants.{Word as WordPrefix, Int as IntPrefix}
use Rattle.bal_tree.specs.declared.name.QualifiedName.{QualifiedName}
use Rattle.bal_tree.specs.NamePieces.{name_pieces}
use Rattle.bal_tree.specs.TypeRules.{name_fits}
use Rattle.parse_stmt.proofs.ExprSpines.{forms-are, with-forms}
use Rattle.parse_stmt.proofs.ExprTrees.{AllBelow, before-end, detail-same, list-same, member-first, member-same, no-cause, no-first, some-same, suffixes-same, tail-closes, tail-same, told_detail, told_member}
use Rattle.parse_stmt.proofs.PartTree.{const-same, name-same, name_at}

-- ---- names

type-free-name : (middle : Bool) (n m : QualifiedName) (ks ls : Kinds) → name_fits middle n.prefix ≡ true → name_fits middle m.prefix ≡ true → (middle ≡ false → take_sign Colon ks ≡ None) → (middle ≡ false → take_sign Colon ls ≡ None) → onto (name_pieces n) ks ≡ onto (name_pieces m) ls → Same (name_pieces n) (name_pieces m) ks ls
type-free-name false n m ks ls f g h k e = name-same n m ks ls (h refl) (k refl) e
type-free-name true n m ks ls f g h k e = by n.prefix m.prefix f g e
  where
    by : (p q : Option Prefix) → name_fits true p ≡ true → name_fits true q ≡ true → onto (name_at p n.word) ks ≡ onto (name_at q m.word) ls → Same (name_pieces record n { prefix = p }) (name_pieces record m { prefix = q }) ks ls
    by None None f g e = ((tt, (tt, (tt, cc e))), cc e)
    by None (Some (IntPrefix at)) f g e = cc e
    by (Some (IntPrefix at)) None f g e = cc e
    by (Some (IntPrefix at)) (Some (IntPrefix other)) f g e = ((tt, ((tt, (refl, refl)), (tt, cc e))), cc e)
    by (Some (WordPrefix w)) q f g e = cc f
    by p (Some (WordPrefix w)) f g e = cc g

-- ---- primary expressions, told by their first tokens

abbrev LayerOfPrimary : Type 0
LayerOfPrimary = Primary-F Call Expr Key Postfix Primary Detail Member

abbrev layer_primary : LayerOfPrimary → Told
layer_primary x = record { facts = facts.primary (parts_of_primary facts x); pieces = writing.primary (parts_of_primary writing x) }

told-primary : (x : LayerOfPrimary) → told_primary (roll-Primary x) ≡ layer_primary x
told-primary x = λ i. record { facts = rolled-primary facts x i; pieces = rolled-primary writing x i }

abbrev tag_of : Kinds → ℕ
tag_of [] = 0
tag_of (WordKind w ∷ ks) = 3
tag_of (IntKind i ∷ ks) = 1
tag_of (StrKind t ∷ ks) = 1
tag_of (SignKind OpenParen ∷ SignKind CloseParen ∷ ks) = 1
tag_of (SignKind OpenParen ∷ ks) = 2
tag_of (SignKind OpenBracket ∷ ks) = 4
tag_of (SignKind OpenBrace ∷ ks) = 5
tag_of (SignKind s ∷ ks) = 0
tag_of (KeywordKind IntKey ∷ ks) = 3
tag_of (KeywordKind TrueKey ∷ ks) = 1
tag_of (KeywordKind FalseKey ∷ ks) = 1
tag_of (KeywordKind ErrorKey ∷ ks) = 6
tag_of (KeywordKind k ∷ ks) = 0

abbrev tag : LayerOfPrimary → ℕ
tag (layer.Literal l) = 1
tag (layer.Name m) = 3
tag (layer.Parens inner at) = 2
tag (layer.List items at) = 4
tag (layer.Mapping members at) = 5
tag (layer.Error message cause details at) = 6

paren-tag : (xs : Kinds) → ((zs : Kinds) → SignKind CloseParen ∷ zs ≡ xs → ⊥) → tag_of (SignKind OpenParen ∷ xs) ≡ 2
paren-tag [] h = refl
paren-tag (SignKind CloseParen ∷ xs) h = absurd (h xs refl)
paren-tag (SignKind s ∷ xs) h = refl
paren-tag (k ∷ xs) h = refl

name-tag : (p : Option Prefix) (w : Word) (ks : Kinds) → tag_of (onto (name_at p w) ks) ≡ 3
name-tag None w ks = refl
name-tag (Some (WordPrefix v)) w ks = refl
name-tag (Some (IntPrefix at)) w ks = refl

primary-tag : (x : LayerOfPrimary) (middle : Bool) (ks : Kinds) → (layer_primary x).facts.is_formed middle ≡ true → tag_of (onto (layer_primary x).pieces ks) ≡ tag x
primary-tag (layer.Literal (IntLiteral i at)) middle ks f = refl
primary-tag (layer.Literal (StrLiteral t at)) middle ks f = refl
primary-tag (layer.Literal (TrueLiteral at)) middle ks f = refl
primary-tag (layer.Literal (FalseLiteral at)) middle ks f = refl
primary-tag (layer.Literal (NilLiteral at)) middle ks f = refl
primary-tag (layer.Name m) middle ks f = name-tag m.prefix m.word ks
primary-tag (layer.Parens e at) middle ks f =
    paren-tag (onto (told_expr e.value).pieces (SignKind CloseParen ∷ ks)) (λ zs q. no-first CloseParen (λ m xs. no-expr-at-paren m false xs) e.value (SignKind CloseParen ∷ ks) zs (both_pass ((told_expr e.value).facts.is_formed false) true f).0 (closes CloseParen ks refl) q)
primary-tag (layer.List items at) middle ks f = refl
primary-tag (layer.Mapping members at) middle ks f = refl
primary-tag (layer.Error message cause details at) middle ks f = refl

one-code : (a b : ℕ) → a ≡ b → (a == b) ≡ true
one-code a b e = subst (λ c. (a == c) ≡ true) e (eq-eqb a a refl)

-- between brackets it is all the same whether the whole stands in a middle
any-middle : (middle : Bool) (xs : List ExprFacts) → list_all (part_is_formed middle) (each_inside xs) ≡ true → list_all (part_is_formed false) (each_inside xs) ≡ true
any-middle middle [] h = h
any-middle middle (x ∷ xs) h =
    let b = both_pass (x.is_formed false) (list_all (part_is_formed middle) (each_inside xs)) h in
    ap (λ c. c && list_all (part_is_formed false) (each_inside xs)) b.0 ∙ any-middle middle xs b.1

module _ (n : ℕ) (all : AllBelow n) where
  details-same : (ds bs : List Detail) (ks ls : Kinds) → length (onto (behind Comma (map (λ x. (told_detail x).pieces) ds)) (SignKind CloseParen ∷ ks)) ≤ n → list_all (part_is_formed false) (each_inside (map (λ x. (told_detail x).facts) ds)) ≡ true → list_all (part_is_formed false) (each_inside (map (λ x. (told_detail x).facts) bs)) ≡ true → onto (behind Comma (map (λ x. (told_detail x).pieces) ds)) (SignKind CloseParen ∷ ks) ≡ onto (behind Comma (map (λ x. (told_detail x).pieces) bs)) (SignKind CloseParen ∷ ls) → Same (behind Comma (map (λ x. (told_detail x).pieces) ds)) (behind Comma (map (λ x. (told_detail x).pieces) bs)) (SignKind CloseParen ∷ ks) (SignKind CloseParen ∷ ls)
  details-same = tail-same n all told_detail CloseParen (λ ks. closes CloseParen ks refl) (λ ks ls e. cc e) (detail-same n all)

  details-close : (ds : List Detail) (ks : Kinds) → Closes (onto (behind Comma (map (λ x. (told_detail x).pieces) ds)) (SignKind CloseParen ∷ ks))
  details-close = tail-closes n all told_detail CloseParen (λ ks. closes CloseParen ks refl) (λ ks ls e. cc e) (detail-same n all)

  no-equal : (ds : List Detail) (ks : Kinds) → take_sign Equal (onto (behind Comma (map (λ x. (told_detail x).pieces) ds)) (SignKind CloseParen ∷ ks)) ≡ None
  no-equal [] ks = refl
  no-equal (d ∷ ds) ks = refl

  -- what stands behind the message of an error
  abbrev behind_message : Option (Box Expr) → List Detail → Pieces
  behind_message None ds = behind Comma (map (λ x. (told_detail x).pieces) ds) & sign CloseParen
  behind_message (Some c) ds = as_next (told_expr c.value).pieces & behind Comma (map (λ x. (told_detail x).pieces) ds) & sign CloseParen

  abbrev cause_formed : Option (Box Expr) → Type 0
  cause_formed None = Unit {0}
  cause_formed (Some c) = (told_expr c.value).facts.is_formed false ≡ true

  abbrev error_pieces : Expr → Option (Box Expr) → List Detail → Place → Pieces
  error_pieces v c ds at = starts at & key ErrorKey & sign OpenParen & (told_expr v).pieces & if_boxed (λ e. as_next (told_expr e).pieces) c & behind Comma (map (λ x. (told_detail x).pieces) ds) & sign CloseParen

  none-some : (ds : List Detail) (e : Expr) (bs : List Detail) → Alike (behind_message None ds) (as_next (told_expr e).pieces & behind Comma (map (λ x. (told_detail x).pieces) bs) & sign CloseParen) → ⊥
  none-some [] e bs s = s.0
  none-some (d ∷ ds) e bs s = s.1

  some-none : (e : Expr) (ds bs : List Detail) → Alike (as_next (told_expr e).pieces & behind Comma (map (λ x. (told_detail x).pieces) ds) & sign CloseParen) (behind_message None bs) → ⊥
  some-none e ds [] s = s.0
  some-none e ds (b ∷ bs) s = s.1

  message-closes : (c : Option (Box Expr)) (ds : List Detail) (ks : Kinds) → Closes (onto (behind_message c ds) ks)
  message-closes None ds ks = details-close ds ks
  message-closes (Some c) ds ks = closes Comma (onto (told_expr c.value).pieces (onto (behind Comma (map (λ x. (told_detail x).pieces) ds)) (SignKind CloseParen ∷ ks))) refl

  message-same : (c d : Option (Box Expr)) (ds bs : List Detail) (ks ls : Kinds) → length (onto (behind_message c ds) ks) ≤ n → cause_formed c → cause_formed d → list_all (part_is_formed false) (each_inside (map (λ x. (told_detail x).facts) ds)) ≡ true → list_all (part_is_formed false) (each_inside (map (λ x. (told_detail x).facts) bs)) ≡ true → onto (behind_message c ds) ks ≡ onto (behind_message d bs) ls → Same (behind_message c ds) (behind_message d bs) ks ls
  message-same None None ds bs ks ls fits fc fd f g e = let s = details-same ds bs ks ls fits f g e in ((s.0, refl), ap behind_first s.1)
  message-same None (Some d) [] bs ks ls fits fc fd f g e = cc e
  message-same None (Some d) (x ∷ ds) bs ks ls fits fc fd f g e =
      let zs = onto (behind Comma (map (λ x. (told_detail x).pieces) ds)) (SignKind CloseParen ∷ ks) in
      let ws = onto (behind Comma (map (λ x. (told_detail x).pieces) bs)) (SignKind CloseParen ∷ ls) in
      let size = ap length e in
      absurd (no-cause n all x d.value zs ws (omega arith) fd (details-close bs ls) (no-equal bs ls) (ap behind_first e))
  message-same (Some c) None ds [] ks ls fits fc fd f g e = cc e
  message-same (Some c) None ds (x ∷ bs) ks ls fits fc fd f g e =
      let zs = onto (behind Comma (map (λ x. (told_detail x).pieces) ds)) (SignKind CloseParen ∷ ks) in
      let ws = onto (behind Comma (map (λ x. (told_detail x).pieces) bs)) (SignKind CloseParen ∷ ls) in
      absurd (no-cause n all x c.value ws zs (omega arith) fc (details-close ds ks) (no-equal ds ks) (sym (ap behind_first e)))
  message-same (Some c) (Some d) ds bs ks ls fits fc fd f g e =
      let zs = onto (behind Comma (map (λ x. (told_detail x).pieces) ds)) (SignKind CloseParen ∷ ks) in
      let ws = onto (behind Comma (map (λ x. (told_detail x).pieces) bs)) (SignKind CloseParen ∷ ls) in
      let a = before-end n all c.value d.value zs ws (omega arith) fc fd (details-close ds ks) (details-close bs ls) (ap behind_first e) in
      let l = onto-longer (told_expr c.value).pieces zs in
      let s = details-same ds bs ks ls (omega arith) f g a.1 in
      (((refl, a.0), (s.0, refl)), ap behind_first s.1)

  error-same : (v w : Expr) (c d : Option (Box Expr)) (ds bs : List Detail) (at other : Place) (ks ls : Kinds) → length (KeywordKind ErrorKey ∷ SignKind OpenParen ∷ onto (told_expr v).pieces (onto (behind_message c ds) ks)) ≤ n → (told_expr v).facts.is_formed false ≡ true → (told_expr w).facts.is_formed false ≡ true → cause_formed c → cause_formed d → list_all (part_is_formed false) (each_inside (map (λ x. (told_detail x).facts) ds)) ≡ true → list_all (part_is_formed false) (each_inside (map (λ x. (told_detail x).facts) bs)) ≡ true → KeywordKind ErrorKey ∷ SignKind OpenParen ∷ onto (told_expr v).pieces (onto (behind_message c ds) ks) ≡ KeywordKind ErrorKey ∷ SignKind OpenParen ∷ onto (told_expr w).pieces (onto (behind_message d bs) ls) → Same (error_pieces v c ds at) (error_pieces w d bs other) ks ls
  error-same v w c d ds bs at other ks ls fits fv fw fc fd f g e =
      let a = before-end n all v w (onto (behind_message c ds) ks) (onto (behind_message d bs) ls) (omega arith) fv fw (message-closes c ds ks) (message-closes d bs ls) (ap behind_first (ap behind_first e)) in
      let l = onto-longer (told_expr v).pieces (onto (behind_message c ds) ks) in
      let s = message-same c d ds bs ks ls (omega arith) fc fd f g a.1 in
      by c d s.0 a.0 s.1
    where
      by : (c d : Option (Box Expr)) → Alike (behind_message c ds) (behind_message d bs) → Alike (told_expr v).pieces (told_expr w).pieces → ks ≡ ls → Same (error_pieces v c ds at) (error_pieces w d bs other) ks ls
      by None None s a e = ((tt, (refl, (refl, (a, (tt, s))))), e)
      by None (Some d) s a e = absurd (none-some ds d.value bs s)
      by (Some c) None s a e = absurd (some-none c.value ds bs s)
      by (Some c) (Some d) s a e = ((tt, (refl, (refl, (a, (s.0, s.1))))), e)

  abbrev PrimaryPair : Told → Told → Type 0
  PrimaryPair a b = (middle : Bool) (ks ls : Kinds) → length (onto a.pieces ks) ≤ n → a.facts.is_formed middle ≡ true → b.facts.is_formed middle ≡ true → (middle ≡ false → take_sign Colon ks ≡ None) → (middle ≡ false → take_sign Colon ls ≡ None) → onto a.pieces ks ≡ onto b.pieces ls → Same a.pieces b.pieces ks ls

  abbrev written : List Member → Pieces
  written ms = separated Comma (map (λ x. (told_member x).pieces) ms)

  same-tag : (x y : LayerOfPrimary) → tag x ≡ tag y → PrimaryPair (layer_primary x) (layer_primary y)
  same-tag (layer.Literal l) (layer.Literal m) same middle ks ls fits f g h k e = const-same (LiteralValue l) (LiteralValue m) ks ls e
  same-tag (layer.Name a) (layer.Name b) same middle ks ls fits f g h k e =
      type-free-name middle a b ks ls (both_pass (name_fits middle a.prefix) true f).0 (both_pass (name_fits middle b.prefix) true g).0 h k e
  same-tag (layer.Parens v at) (layer.Parens w other) same middle ks ls fits f g h k e =
      let s = before-end n all v.value w.value (SignKind CloseParen ∷ ks) (SignKind CloseParen ∷ ls) (omega arith) (both_pass ((told_expr v.value).facts.is_formed false) true f).0 (both_pass ((told_expr w.value).facts.is_formed false) true g).0 (closes CloseParen ks refl) (closes CloseParen ls refl) (ap behind_first e) in
      ((tt, (refl, (s.0, refl))), ap behind_first s.1)
  same-tag (layer.List xs at) (layer.List ys other) same middle ks ls fits f g h k e =
      let p = forms-are middle xs.items f in
      let q = forms-are middle ys.items g in
      let whole = ap (λ r. onto (separated Comma r) (SignKind CloseBracket ∷ ks)) p in
      let size = ap length whole in
      let s = list-same n all CloseBracket (λ zs. closes CloseBracket zs refl) (λ m zs. no-expr-at-bracket m false zs) (λ as_ bs q. cc q) (with-forms middle xs.items f) (with-forms middle ys.items g) ks ls (omega arith)
      (whole ∙ ap behind_first e ∙ sym (ap (λ r. onto (separated Comma r) (SignKind CloseBracket ∷ ls)) q)) in
      ((tt, (refl, (subst (λ r. Alike (separated Comma r) (separated Comma (map expr_pieces ys.items))) p (subst (λ r. Alike (separated Comma (map argument_pieces (with-forms middle xs.items f))) (separated Comma r)) q s.0), refl))), ap behind_first s.1)
  same-tag (layer.Mapping xs at) (layer.Mapping ys other) same middle ks ls fits f g h k e =
      by xs.items ys.items (any-middle middle (map (λ x. (told_member x).facts) xs.items) f) (any-middle middle (map (λ x. (told_member x).facts) ys.items) g) fits e
    where
      by : (us vs : List Member) → list_all (part_is_formed false) (each_inside (map (λ x. (told_member x).facts) us)) ≡ true → list_all (part_is_formed false) (each_inside (map (λ x. (told_member x).facts) vs)) ≡ true → length (SignKind OpenBrace ∷ onto (written us) (SignKind CloseBrace ∷ ks)) ≤ n → SignKind OpenBrace ∷ onto (written us) (SignKind CloseBrace ∷ ks) ≡ SignKind OpenBrace ∷ onto (written vs) (SignKind CloseBrace ∷ ls) → Same (starts at & sign OpenBrace & written us & sign CloseBrace) (starts other & sign OpenBrace & written vs & sign CloseBrace) ks ls
      by [] [] f g fits e = ((tt, (refl, (tt, refl))), ap behind_first (ap behind_first e))
      by [] (v ∷ vs) f g fits e = absurd (member-first n all v _ ks (ap behind_first e))
      by (u ∷ us) [] f g fits e = absurd (member-first n all u _ ls (sym (ap behind_first e)))
      by (u ∷ us) (v ∷ vs) f g fits e =
          let s = some-same n all told_member CloseBrace (λ zs. closes CloseBrace zs refl) (λ xs ys q. cc q) (member-same n all) u v us vs ks ls (omega arith) f g (ap behind_first e) in
          ((tt, (refl, (s.0, refl))), ap behind_first s.1)
  same-tag (layer.Error v None ds at) (layer.Error w None bs other) same middle ks ls fits f g h k e =
      let a = both_pass ((told_expr v.value).facts.is_formed false) (list_all (part_is_formed middle) (each_inside (map (λ x. (told_detail x).facts) ds.items))) f in
      let b = both_pass ((told_expr w.value).facts.is_formed false) (list_all (part_is_formed middle) (each_inside (map (λ x. (told_detail x).facts) bs.items))) g in
      error-same v.value w.value None None ds.items bs.items at other ks ls fits a.0 b.0 tt tt (any-middle middle (map (λ x. (told_detail x).facts) ds.items) a.1) (any-middle middle (map (λ x. (told_detail x).facts) bs.items) b.1) e
  same-tag (layer.Error v None ds at) (layer.Error w (Some d) bs other) same middle ks ls fits f g h k e =
      let a = both_pass ((told_expr v.value).facts.is_formed false) (list_all (part_is_formed middle) (each_inside (map (λ x. (told_detail x).facts) ds.items))) f in
      let b = both_pass ((told_expr w.value).facts.is_formed false) ((told_expr d.value).facts.is_formed false && list_all (part_is_formed middle) (each_inside (map (λ x. (told_detail x).facts) bs.items))) g in
      let b2 = both_pass ((told_expr d.value).facts.is_formed false) (list_all (part_is_formed middle) (each_inside (map (λ x. (told_detail x).facts) bs.items))) b.1 in
      error-same v.value w.value None (Some d) ds.items bs.items at other ks ls fits a.0 b.0 tt b2.0 (any-middle middle (map (λ x. (told_detail x).facts) ds.items) a.1) (any-middle middle (map (λ x. (told_detail x).facts) bs.items) b2.1) e
  same-tag (layer.Error v (Some c) ds at) (layer.Error w None bs other) same middle ks ls fits f g h k e =
      let a = both_pass ((told_expr v.value).facts.is_formed false) ((told_expr c.value).facts.is_formed false && list_all (part_is_formed middle) (each_inside (map (λ x. (told_detail x).facts) ds.items))) f in
      let a2 = both_pass ((told_expr c.value).facts.is_formed false) (list_all (part_is_formed middle) (each_inside (map (λ x. (told_detail x).facts) ds.items))) a.1 in
      let b = both_pass ((told_expr w.value).facts.is_formed false) (list_all (part_is_formed middle) (each_inside (map (λ x. (told_detail x).facts) bs.items))) g in
      error-same v.value w.value (Some c) None ds.items bs.items at other ks ls fits a.0 b.0 a2.0 tt (any-middle middle (map (λ x. (told_detail x).facts) ds.items) a2.1) (any-middle middle (map (λ x. (told_detail x).facts) bs.items) b.1) e
  same-tag (layer.Error v (Some c) ds at) (layer.Error w (Some d) bs other) same middle ks ls fits f g h k e =
      let a = both_pass ((told_expr v.value).facts.is_formed false) ((told_expr c.value).facts.is_formed false && list_all (part_is_formed middle) (each_inside (map (λ x. (told_detail x).facts) ds.items))) f in
      let a2 = both_pass ((told_expr c.value).facts.is_formed false) (list_all (part_is_formed middle) (each_inside (map (λ x. (told_detail x).facts) ds.items))) a.1 in
      let b = both_pass ((told_expr w.value).facts.is_formed false) ((told_expr d.value).facts.is_formed false && list_all (part_is_formed middle) (each_inside (map (λ x. (told_detail x).facts) bs.items))) g in
      let b2 = both_pass ((told_expr d.value).facts.is_formed false) (list_all (part_is_formed middle) (each_inside (map (λ x. (told_detail x).facts) bs.items))) b.1 in
      error-same v.value w.value (Some c) (Some d) ds.items bs.items at other ks ls fits a.0 b.0 a2.0 b2.0 (any-middle middle (map (λ x. (told_detail x).facts) ds.items) a2.1) (any-middle middle (map (λ x. (told_detail x).facts) bs.items) b2.1) e
  same-tag x y same middle ks ls fits f g h k e = absurd (false≢true (one-code (tag x) (tag y) same))

  pub primary-same : (p q : Primary) → PrimaryPair (told_primary p) (told_primary q)
  primary-same p q =
      subst (λ v. PrimaryPair (told_primary p) (told_primary v)) (roll-out-Primary q) (subst (λ v. PrimaryPair (told_primary v) (told_primary (roll-Primary (out-Primary q)))) (roll-out-Primary p)
      (subst (λ a. PrimaryPair a (told_primary (roll-Primary (out-Primary q)))) (sym (told-primary (out-Primary p))) (subst (λ a. PrimaryPair (layer_primary (out-Primary p)) a) (sym (told-primary (out-Primary q))) at)))
    where
      at : PrimaryPair (layer_primary (out-Primary p)) (layer_primary (out-Primary q))
      at middle ks ls fits f g h k e = same-tag (out-Primary p) (out-Primary q) (sym (primary-tag (out-Primary p) middle ks f) ∙ ap tag_of e ∙ primary-tag (out-Primary q) middle ls g) middle ks ls fits f g h k e

  -- ---- with suffixes

  no-sign : (s : Sign) (zs ks : Kinds) → take_sign s zs ≡ None → take_sign s (SignKind s ∷ ks) ≡ Some ks → zs ≡ SignKind s ∷ ks → ⊥
  no-sign s zs ks h t e = let bad : None ≡ Some ks = sym h ∙ ap (take_sign s) e ∙ t in cc bad

  no-suffix : (x : Suffix) (zs : Kinds) (middle : Bool) → Ends middle (onto (suffix_pieces x) zs) → ⊥
  no-suffix (field w) zs middle h = no-sign Dot _ _ h.no_dot refl refl
  no-suffix (optional w) zs middle h = no-sign QuestionDot _ _ h.no_question_dot refl refl
  no-suffix (index x) zs middle h = no-sign OpenBracket _ _ h.no_index refl refl
  no-suffix (args xs) zs middle h = no-sign OpenParen _ _ h.no_call refl refl
  no-suffix (method w xs) zs middle h = no-sign Dot _ _ h.no_dot refl refl

  pub postfix-same : (p q : Postfix) (middle : Bool) (ks ls : Kinds) → length (onto (told_postfix p).pieces ks) ≤ n → (told_postfix p).facts.is_formed middle ≡ true → (told_postfix q).facts.is_formed middle ≡ true → Ends middle ks → Ends middle ls → (middle ≡ false → take_sign Colon ks ≡ None) → (middle ≡ false → take_sign Colon ls ≡ None) → onto (told_postfix p).pieces ks ≡ onto (told_postfix q).pieces ls → Same (told_postfix p).pieces (told_postfix q).pieces ks ls
  postfix-same p q middle ks ls fits f g h k c d e =
      let size = ap length e in
      spines-same _ _ _ _ _ _ _ _ (Ends middle) (λ x zs s. no-suffix x zs middle s) (λ x zs s. no-suffix x zs middle s) (λ b y zs ws i j. primary-same b.0 y.0 middle zs ws i.fits b.1 y.1 i.colon j.colon) (λ x y zs ws i j. suffixes-same n all x y zs ws i j)
      (told_postfix p).pieces (told_postfix q).pieces _ _ (postfix-spine p middle n f) (postfix-spine q middle n g) ks ls
      record { colon = c; no_call = λ _. h.no_call; fits = fits } record { colon = d; no_call = λ _. k.no_call; fits = omega arith } h k e
