-- The law at each form of an expression, over those of its parts.
use Rattle.std.proofs.Common.{◌≡◌, ℕ, suc, ◌<◌, ◌≤◌, Bool, true, false, [], ◌∷◌, length, Option, None, Some, refl, sym, ap, subst, ◌∙◌, arith}
use Rattle.std.specs.Prelude.{is_some, if◌then◌else◌}
use Rattle.bal_base.specs.declared.place.Place.{Place}
use Rattle.bal_base.specs.declared.token.TokenKind.TheVariants.{Keyword as KeywordKind, Sign as SignKind}
use Rattle.bal_base.specs.declared.token.Keyword.TheVariants.{Is, Trap as TrapKey, Function as FunctionKey, Isolated as IsolatedKey}
use Rattle.bal_base.specs.declared.token.Sign.{Sign}
use Rattle.bal_base.specs.declared.token.Sign.TheVariants.{Star, Question, Colon, Less as LessSign, Greater as GreaterSign, FatArrow}
use Rattle.bal_tree.specs.declared.expr.BinaryOp.{BinaryOp}
use Rattle.bal_tree.specs.declared.expr.BinaryOp.TheVariants.{Multiply, Divide, Remainder, Add, Subtract, Less, LessEqual, Greater, GreaterEqual, Equal, NotEqual, Same, NotSame, And, Or, Elvis}
use Rattle.bal_tree.specs.declared.expr.PrefixOp.{PrefixOp}
use Rattle.bal_tree.specs.declared.expr.PrefixOp.TheVariants.{Negate, Not, Check, CheckPanic}
use Rattle.bal_tree.specs.declared.level.Level.{Level}
use Rattle.bal_tree.specs.declared.params.Params.{Params}
use Rattle.bal_tree.specs.declared.types.TypeTree.{TypeTree}
use Rattle.bal_tree.specs.ExprPieces.{prefix_op, binary_sign, function_head as head_pieces}
use Rattle.bal_tree.specs.ExprRules.{ExprEnd, ExprFacts}
use Rattle.bal_tree.specs.Levels.{rank, binding, takes}
use Rattle.bal_tree.specs.Pieces.{Pieces, ◌&◌, starts, key, sign}
use Rattle.bal_tree.specs.Spells.{onto}
use Rattle.bal_tree.specs.TypePieces.{type_pieces, in_angles as angle_pieces}
use Rattle.bal_tree.specs.TypeRules.{type_is_formed, type_end, params_are_formed}
use Rattle.parse_types.specs.Loops.{◌>>=◌}
use Rattle.parse_types.specs.Reaches.{colon_word}
use Rattle.token_steps.specs.Tokens.{Kinds, take_sign, take_word}
use Rattle.parse_types.proofs.Onto.{onto-longer}
use Rattle.parse_types.proofs.PrimaryLaw.{greater-closes}
use Rattle.parse_expr.specs.Operators.{is_chain}
use Rattle.parse_expr.specs.Ranks.{sign_level, op_rank, take_op}
use Rattle.parse_expr.specs.Reaches.{type_at, tight, loosest, function_head, inside}
use Rattle.parse_expr.proofs.Follows.{Ends, TypeEnds, Quiet, Operand, ReadsAs, TypeAt, Follows, question-ends, differs}
use Rattle.parse_expr.proofs.Law.{operand, LevelsLaw, LevelAt, Known, ExprLaw, inside-level, inside-loosest}
use Rattle.parse_expr.proofs.OperatorLaw.{At, tight-law, chain-law, compare-law, elvis-law, test-law, conditional-law}
use Rattle.parse_expr.proofs.ParamsLaw.{head-law}
use Rattle.parse_expr.proofs.Shapes.{Sides, sides}
use Rattle.parse_expr.proofs.TypeLaws.{type-reads, type-before}

-- where the whole ends as its last part does
abbrev SameEnd : ExprFacts → ExprFacts → Type 0
SameEnd f g = f.end ≡ g.end

type-ends : (middle : Bool) (a b : ExprEnd) (ks : Kinds) → a ≡ b → (a.in_type ≡ true → TypeEnds middle a.in_int ks) → b.in_type ≡ true → TypeEnds middle b.in_int ks
type-ends middle a b ks e h = subst (λ (x : ExprEnd). x.in_type ≡ true → TypeEnds middle x.in_int ks) e h

-- ---- what stands before an operand

no-sign-one : (s : Sign) (ks : Kinds) → take_op 1 (SignKind s ∷ ks) ≡ None
no-sign-one Star ks = refl
no-sign-one _ ks = refl

pub no-op-one : (ks : Kinds) → take_op 1 ks ≡ None
no-op-one [] = refl
no-op-one (SignKind s ∷ ks) = no-sign-one s ks
no-op-one (k ∷ ks) = refl

quiet-one : (ks : Kinds) → Quiet 1 ks
quiet-one ks = record {
  no_op = λ j pos le. let one : j ≡ 1 = omega arith in subst (λ i. take_op i ks ≡ None) (sym one) (no-op-one ks);
  no_is = λ h. absurd (omega arith);
  no_question = λ h. absurd (omega arith);
}

-- an operand behind what makes the whole one of the level of prefixes
module _ (p q : Pieces) (f g : ExprFacts) (law : ExprLaw q g) (level : rank f.level ≡ 1) (same : SameEnd f g) (fits_in : (middle : Bool) → f.is_formed middle ≡ true → (rank g.level ≤ 1) × (g.is_formed middle ≡ true)) where
  pub before-operand : ((n : ℕ) (middle : Bool) (ks : Kinds) → f.is_formed middle ≡ true → length (onto p ks) ≤ n → (length (onto q ks) < n) × (tight (inside n) middle (onto p ks) ≡ inside n 1 middle (onto q ks))) → ExprLaw p f
  before-operand reads n middle formed = record {
    levels = λ _ k ks le fits.
        let part = fits_in middle formed in
        let here = reads n middle ks formed fits in
        let r = inside-level q g law n 1 middle ks part.1 part.0 (omega arith) (omega arith) here.0 in
        tight-law _ _ _ _ _ middle n (operand p f) k ks r.rest (omega arith) (here.1 ∙ r.is) r.no_more
        (λ follows. r.just follows.ends (type-ends middle f.end g.end ks same follows.type_ends) (quiet-one ks));
    loose = λ high. absurd (omega arith);
    no_type = λ low e.
        let part = fits_in middle formed in
        (law n middle part.1).no_type (omega arith) (subst (λ (x : ExprEnd). x.in_type ≡ true) same e);
  }

prefix-reads : (op : PrefixOp) (inner : ℕ → Bool → Kinds → Option Kinds) (middle : Bool) (q : Pieces) (ks : Kinds) → tight inner middle (onto (prefix_op op & q) ks) ≡ inner 1 middle (onto q ks)
prefix-reads Negate inner middle q ks = refl
prefix-reads Not inner middle q ks = refl
prefix-reads Check inner middle q ks = refl
prefix-reads CheckPanic inner middle q ks = refl

prefix-longer : (op : PrefixOp) (ks : Kinds) → length ks < length (onto (prefix_op op) ks)
prefix-longer Negate ks = omega arith
prefix-longer Not ks = omega arith
prefix-longer Check ks = omega arith
prefix-longer CheckPanic ks = omega arith

pub prefix-known : (op : PrefixOp) (at : Place) (q : Pieces) (f g : ExprFacts) → ExprLaw q g → rank f.level ≡ 1 → SameEnd f g → ((middle : Bool) → f.is_formed middle ≡ true → (rank g.level ≤ 1) × (g.is_formed middle ≡ true)) → ExprLaw (starts at & prefix_op op & q) f
prefix-known op at q f g law level same fits_in =
    before-operand (starts at & prefix_op op & q) q f g law level same fits_in
    (λ n middle ks formed fits. let longer = prefix-longer op (onto q ks) in (omega arith, prefix-reads op (inside n) middle q ks))

pub cast-known : (t : TypeTree) (at : Place) (q : Pieces) (f g : ExprFacts) → ExprLaw q g → rank f.level ≡ 1 → SameEnd f g → ((middle : Bool) → f.is_formed middle ≡ true → (rank g.level ≤ 1) × (g.is_formed middle ≡ true)) → ((middle : Bool) → f.is_formed middle ≡ true → type_is_formed t middle ≡ true) → ExprLaw (starts at & angle_pieces (type_pieces t) & q) f
cast-known t at q f g law level same fits_in type_fits =
    before-operand (starts at & angle_pieces (type_pieces t) & q) q f g law level same fits_in
    (λ n middle ks formed fits.
    let xs = SignKind GreaterSign ∷ onto q ks in
    let longer = onto-longer (type_pieces t) xs in
    (omega arith, ap (λ o. o >>= take_sign GreaterSign >>= inside n 1 middle) (type-before t middle xs (type_fits middle formed) (greater-closes (onto q ks)))))

-- ---- operators between operands

module _ (at : Place) (p q : Pieces) (f g h : ExprFacts) (law1 : ExprLaw p f) (law2 : ExprLaw q g) (same : SameEnd h g) where
  abbrev whole : BinaryOp → Pieces
  whole op = starts at & p & sign (binary_sign op) & q

  module _ (n : ℕ) (middle : Bool) (formed : (f.is_formed middle ≡ true) × (g.is_formed middle ≡ true)) where
    abbrev left : Operand
    left = operand p f

    abbrev right : Operand
    right = operand q g

    no-type : rank f.level < 4 → f.end.in_type ≡ true → ⊥
    no-type = (law1 n middle formed.0).no_type

    ends-alike : (op : BinaryOp) → ((operand (whole op) h).in_type ≡ right.in_type) × ((operand (whole op) h).in_int ≡ right.in_int)
    ends-alike op = (ap (λ (x : ExprEnd). x.in_type) same, ap (λ (x : ExprEnd). x.in_int) same)

    chain-levels : (op : BinaryOp) (i : ℕ) → is_chain (op_rank op) ≡ true → op_rank op ≡ suc i → suc i ≤ 9 → rank h.level ≡ op_rank op → rank f.level ≤ suc i → rank g.level ≤ i → LevelsLaw n middle (operand (whole op) h)
    chain-levels op i chain lev top level l r = λ k ks le fits.
        chain-law _ _ _ _ _ middle n left right (operand (whole op) h) op i k ks ((law1 n middle formed.0).levels (omega arith)) ((law2 n middle formed.1).levels (omega arith)) no-type chain lev level l r (omega arith) refl (ends-alike op) fits

    compare-levels : (op : BinaryOp) → op_rank op ≡ 4 → rank h.level ≡ 4 → rank f.level < 4 → rank g.level < 4 → LevelsLaw n middle (operand (whole op) h)
    compare-levels op lev level l r = λ k ks le fits.
        compare-law _ _ _ _ _ middle n left right (operand (whole op) h) op k ks ((law1 n middle formed.0).levels (omega arith)) ((law2 n middle formed.1).levels (omega arith)) no-type lev level l r (omega arith) refl (ends-alike op) fits

    elvis-levels : rank h.level ≡ 8 → rank f.level < 8 → rank g.level ≤ 8 → LevelsLaw n middle (operand (whole Elvis) h)
    elvis-levels level l r = λ k ks le fits.
        let longer = onto-longer p (onto (sign (binary_sign Elvis) & q) ks) in
        let read = inside-level q g law2 n 8 middle ks formed.1 r (omega arith) (omega arith) (omega arith) in
        let it = elvis-law _ _ _ _ _ middle n left right at k ks ((law1 n middle formed.0).levels (omega arith)) l (omega arith) read fits in
        let end = ends-alike Elvis in
        recast k ks level end.0 end.1 it
      where
        recast : (k : ℕ) (ks : Kinds) → rank h.level ≡ 8 → h.end.in_type ≡ g.end.in_type → h.end.in_int ≡ g.end.in_int → LevelAt n middle k record { pieces = whole Elvis; rank = 8; in_type = g.end.in_type; in_int = g.end.in_int } ks → LevelAt n middle k (operand (whole Elvis) h) ks
        recast k ks lev e1 e2 it =
            subst (λ (b : Bool). LevelAt n middle k record { pieces = whole Elvis; rank = rank h.level; in_type = h.end.in_type; in_int = b } ks) (sym e2)
            (subst (λ (b : Bool). LevelAt n middle k record { pieces = whole Elvis; rank = rank h.level; in_type = b; in_int = g.end.in_int } ks) (sym e1)
            (subst (λ (r : ℕ). LevelAt n middle k record { pieces = whole Elvis; rank = r; in_type = g.end.in_type; in_int = g.end.in_int } ks) (sym lev) it))

    levels-of : (op : BinaryOp) → rank h.level ≡ op_rank op → Sides op f.level g.level → LevelsLaw n middle (operand (whole op) h)
    levels-of Multiply level s = chain-levels Multiply 1 refl refl (omega arith) level s.0 (omega (arith, s.1))
    levels-of Divide level s = chain-levels Divide 1 refl refl (omega arith) level s.0 (omega (arith, s.1))
    levels-of Remainder level s = chain-levels Remainder 1 refl refl (omega arith) level s.0 (omega (arith, s.1))
    levels-of Add level s = chain-levels Add 2 refl refl (omega arith) level s.0 (omega (arith, s.1))
    levels-of Subtract level s = chain-levels Subtract 2 refl refl (omega arith) level s.0 (omega (arith, s.1))
    levels-of Less level s = compare-levels Less refl level s.0 s.1
    levels-of LessEqual level s = compare-levels LessEqual refl level s.0 s.1
    levels-of Greater level s = compare-levels Greater refl level s.0 s.1
    levels-of GreaterEqual level s = compare-levels GreaterEqual refl level s.0 s.1
    levels-of Equal level s = chain-levels Equal 4 refl refl (omega arith) level s.0 (omega (arith, s.1))
    levels-of NotEqual level s = chain-levels NotEqual 4 refl refl (omega arith) level s.0 (omega (arith, s.1))
    levels-of Same level s = chain-levels Same 4 refl refl (omega arith) level s.0 (omega (arith, s.1))
    levels-of NotSame level s = chain-levels NotSame 4 refl refl (omega arith) level s.0 (omega (arith, s.1))
    levels-of And level s = chain-levels And 5 refl refl (omega arith) level s.0 (omega (arith, s.1))
    levels-of Or level s = chain-levels Or 6 refl refl (omega arith) level s.0 (omega (arith, s.1))
    levels-of Elvis level s = elvis-levels level s.0 s.1

    -- a tight operator has a tighter right operand
    right-tight : (op : BinaryOp) → Sides op f.level g.level → op_rank op < 4 → rank g.level < 4
    right-tight Multiply s low = omega (arith, s.1)
    right-tight Divide s low = omega (arith, s.1)
    right-tight Remainder s low = omega (arith, s.1)
    right-tight Add s low = omega (arith, s.1)
    right-tight Subtract s low = omega (arith, s.1)
    right-tight op s low = absurd (omega arith)

  rank-below : (op : BinaryOp) → op_rank op ≤ 8
  rank-below op = table op
    where
      table : (op : BinaryOp) → op_rank op ≤ 8
      table Multiply = omega arith
      table Divide = omega arith
      table Remainder = omega arith
      table Add = omega arith
      table Subtract = omega arith
      table Less = omega arith
      table LessEqual = omega arith
      table Greater = omega arith
      table GreaterEqual = omega arith
      table Equal = omega arith
      table NotEqual = omega arith
      table Same = omega arith
      table NotSame = omega arith
      table And = omega arith
      table Or = omega arith
      table Elvis = omega arith

  pub binary-known : (op : BinaryOp) → rank h.level ≡ op_rank op → ((middle : Bool) → h.is_formed middle ≡ true → (takes op f.level g.level ≡ true) × ((f.is_formed middle ≡ true) × (g.is_formed middle ≡ true))) → ExprLaw (whole op) h
  binary-known op level fits_in n middle formed =
      let part = fits_in middle formed in
      let s = sides op f.level g.level part.0 in
      let top = rank-below op in
      record {
        levels = λ _. levels-of n middle part.1 op level s;
        loose = λ high. absurd (omega arith);
        no_type = λ low e. (law2 n middle part.1.1).no_type (right-tight n middle part.1 op s (omega arith)) (subst (λ (x : ExprEnd). x.in_type ≡ true) same e);
      }

-- ---- `is`

pub test-known : (at : Place) (p : Pieces) (t : TypeTree) (f h : ExprFacts) → ExprLaw p f → rank h.level ≡ 4 → h.end.in_type ≡ true → h.end.in_int ≡ (type_end t).in_int → ((middle : Bool) → h.is_formed middle ≡ true → (rank f.level < 4) × ((f.is_formed middle ≡ true) × (type_is_formed t middle ≡ true))) → ExprLaw (starts at & p & key Is & type_pieces t) h
test-known at p t f h law level ends_in_type ends_in_int fits_in n middle formed =
    let part = fits_in middle formed in
    record {
      levels = λ _ k ks le fits.
          let it = test-law _ _ _ _ _ middle n (operand p f) (type_pieces t) (type_end t).in_int at k ks ((law n middle part.1.0).levels (omega (arith, part.0))) ((law n middle part.1.0).no_type part.0) part.0 (omega arith) (type-reads t middle ks part.1.1) fits in
          recast k ks it;
      loose = λ high. absurd (omega arith);
      no_type = λ low. absurd (omega arith);
    }
  where
    recast : (k : ℕ) (ks : Kinds) → LevelAt n middle k record { pieces = starts at & p & key Is & type_pieces t; rank = 4; in_type = true; in_int = (type_end t).in_int } ks → LevelAt n middle k (operand (starts at & p & key Is & type_pieces t) h) ks
    recast k ks it =
        subst (λ (b : Bool). LevelAt n middle k record { pieces = starts at & p & key Is & type_pieces t; rank = rank h.level; in_type = h.end.in_type; in_int = b } ks) (sym ends_in_int)
        (subst (λ (b : Bool). LevelAt n middle k record { pieces = starts at & p & key Is & type_pieces t; rank = rank h.level; in_type = b; in_int = (type_end t).in_int } ks) (sym ends_in_type)
        (subst (λ (r : ℕ). LevelAt n middle k record { pieces = starts at & p & key Is & type_pieces t; rank = r; in_type = true; in_int = (type_end t).in_int } ks) (sym level) it))

-- ---- `? :`

pub record Conditional (c m l : ExprFacts) (middle : Bool) : Type 0 where
  pub condition : (rank c.level < 9) × (c.is_formed middle ≡ true)
  pub no_type : c.end.in_type ≡ true → ⊥
  pub between : (rank m.level ≤ 9) × (m.is_formed true ≡ true)
  pub last : (rank l.level ≤ 9) × (l.is_formed middle ≡ true)
  pub no_name : m.end.in_int ≡ true → l.begins_with_word ≡ false

-- the colon behind the middle
colon-ends : (in_int : Bool) (ks : Kinds) → (in_int ≡ true → take_word ks ≡ None) → TypeEnds true in_int (SignKind Colon ∷ ks)
colon-ends in_int ks h = (record { less = refl; paren = refl; returns = refl; colon = λ e. cc e; int_colon = h }, record { no_suffix = refl; no_ampersand = refl; no_bar = refl })

colon-quiet : (ks : Kinds) → Quiet 9 (SignKind Colon ∷ ks)
colon-quiet ks = record {
  no_op = λ j pos le. ap (λ b. if b then Some ks else None) (differs 0 j (λ same. omega arith));
  no_is = λ le. refl;
  no_question = λ le. refl;
}

no-word : (o : Option Kinds) → is_some o ≡ false → o ≡ None
no-word None e = refl
no-word (Some a) e = cc e

pub conditional-known : (at : Place) (p q r : Pieces) (c m l h : ExprFacts) → ExprLaw p c → ExprLaw q m → ExprLaw r l → ((ks : Kinds) → is_some (take_word (onto r ks)) ≡ l.begins_with_word) → rank h.level ≡ 9 → SameEnd h l → ((middle : Bool) → h.is_formed middle ≡ true → Conditional c m l middle) → ExprLaw (starts at & p & sign Question & q & sign Colon & r) h
conditional-known at p q r c m l h law1 law2 law3 begins level same fits_in n middle formed =
    let part = fits_in middle formed in
    record {
      levels = λ _ k ks le fits.
          let zs = onto r ks in
          let longer = onto-longer p (SignKind Question ∷ onto q (SignKind Colon ∷ zs)) in
          let longer2 = onto-longer q (SignKind Colon ∷ zs) in
          let inner = inside-level q m law2 n 9 true (SignKind Colon ∷ zs) part.between.1 part.between.0 (omega arith) (omega arith) (omega arith) in
          let exact = inner.just record { no_call = refl; no_index = refl; no_dot = refl; no_question_dot = refl; no_name = λ e. cc e }
          (λ _. colon-ends m.end.in_int zs (λ i. no-word (take_word zs) (begins ks ∙ part.no_name i))) (colon-quiet zs) in
          let last = inside-level r l law3 n 9 middle ks part.last.1 part.last.0 (omega arith) (omega arith) (omega arith) in
          let it = conditional-law _ _ _ _ _ middle n (operand p c) (operand q m) (operand r l) at k ks ((law1 n middle part.condition.1).levels (omega (arith, part.condition.0))) part.no_type part.condition.0 (omega arith) (inner.is ∙ ap Some exact) last fits in
          recast k ks it;
      loose = λ high. absurd (omega arith);
      no_type = λ low. absurd (omega arith);
    }
  where
    recast : (k : ℕ) (ks : Kinds) → LevelAt n middle k record { pieces = starts at & p & sign Question & q & sign Colon & r; rank = 9; in_type = l.end.in_type; in_int = l.end.in_int } ks → LevelAt n middle k (operand (starts at & p & sign Question & q & sign Colon & r) h) ks
    recast k ks it =
        subst (λ (e : ExprEnd). LevelAt n middle k record { pieces = starts at & p & sign Question & q & sign Colon & r; rank = rank h.level; in_type = e.in_type; in_int = e.in_int } ks) (sym same)
        (subst (λ (i : ℕ). LevelAt n middle k record { pieces = starts at & p & sign Question & q & sign Colon & r; rank = i; in_type = l.end.in_type; in_int = l.end.in_int } ks) (sym level) it)

-- ---- the loosest

module _ (q : Pieces) (f g : ExprFacts) (law : ExprLaw q g) (level : rank f.level ≡ 10) (same : SameEnd f g) (fits_in : (middle : Bool) → f.is_formed middle ≡ true → g.is_formed middle ≡ true) where
  -- what reaches as far as its last part does
  loosest-known : (p : Pieces) → ((n : ℕ) (middle : Bool) (ks : Kinds) → f.is_formed middle ≡ true → length (onto p ks) ≤ n → (length (onto q ks) < n) × (loosest (inside n) middle (onto p ks) ≡ inside n 10 middle (onto q ks))) → ExprLaw p f
  loosest-known p reads n middle formed = record {
    levels = λ low. absurd (omega arith);
    loose = λ _ ks fits.
        let here = reads n middle ks formed fits in
        let r = inside-loosest q g law n middle ks (fits_in middle formed) here.0 in
        record { rest = r.rest; is = here.1 ∙ r.is; no_more = r.no_more; just = λ ends type_ends calm. r.just ends (type-ends middle f.end g.end ks same type_ends) calm };
    no_type = λ low. absurd (omega arith);
  }

  pub trap-known : (at : Place) → ExprLaw (starts at & key TrapKey & q) f
  trap-known at = loosest-known (starts at & key TrapKey & q) (λ n middle ks formed fits. (omega arith, refl))

  pub function-known : (at : Place) (isolated : Bool) (params : Params) (t : TypeTree) → ((middle : Bool) → f.is_formed middle ≡ true → (params_are_formed params ≡ true) × (type_is_formed t middle ≡ true)) → ExprLaw (starts at & head_pieces isolated params t & sign FatArrow & q) f
  function-known at isolated params t head_fits =
      loosest-known (starts at & head_pieces isolated params t & sign FatArrow & q)
      (λ n middle ks formed fits.
      let head = head_fits middle formed in
      let xs = onto q ks in
      let longer = onto-longer (head_pieces isolated params t) (SignKind FatArrow ∷ xs) in
      (omega arith, begins isolated n middle xs ∙ ap (λ o. o >>= take_sign FatArrow >>= inside n 10 middle) (head-law isolated params t middle xs head.0 head.1)))
    where
      begins : (b : Bool) (n : ℕ) (middle : Bool) (xs : Kinds) → loosest (inside n) middle (onto (head_pieces b params t) (SignKind FatArrow ∷ xs)) ≡ (function_head middle (onto (head_pieces b params t) (SignKind FatArrow ∷ xs)) >>= take_sign FatArrow >>= inside n 10 middle)
      begins true n middle xs = refl
      begins false n middle xs = refl
