-- Their tokens tell expressions.
use Rattle.std.proofs.Common.{◌≡◌, ℕ, zero, suc, ◌-◌, ◌<◌, ◌≤◌, Bool, true, false, ◌&&◌, [], ◌∷◌, ◌++◌, length, Option, None, Some, refl, sym, ap, ◌∙◌, subst, eq-eqb, arith, inl, inr}
use Rattle.std.specs.Prelude.{◌==◌, is_some, nat_le, if◌then◌else◌}
use Rattle.std.proofs.lemmas.Bool.{cases_Bool, false≢true, leb-false, leb-true}
use Rattle.bal_base.specs.declared.token.TokenKind.TheVariants.{Keyword as KeywordKind, Sign as SignKind}
use Rattle.bal_base.specs.declared.token.Keyword.TheVariants.{Check as CheckKey, CheckPanic as CheckPanicKey, Trap as TrapKey, Function as FunctionKey, Isolated as IsolatedKey}
use Rattle.bal_base.specs.declared.token.Sign.TheVariants.{Minus, Not, Less, Greater, Comma, Colon, Question, FatArrow}
use Rattle.bal_tree.specs.declared.expr.BinaryOp.{BinaryOp}
use Rattle.bal_tree.specs.declared.expr.BinaryOp.TheVariants.{Multiply, Divide, Remainder, Add, Subtract, Less as LessOp, LessEqual, Greater as GreaterOp, GreaterEqual, Equal as EqualOp, NotEqual, Same as SameOp, NotSame, And, Or, Elvis}
use Rattle.bal_tree.specs.declared.expr.Call.{Call}
use Rattle.bal_tree.specs.declared.expr.Call.TheOpen as layer
use Rattle.bal_tree.specs.declared.expr.Detail.{Detail}
use Rattle.bal_tree.specs.declared.expr.Expr.{Expr, Expr-F, out-Expr, roll-out-Expr}
use Rattle.bal_tree.specs.declared.expr.Key.{Key}
use Rattle.bal_tree.specs.declared.expr.Member.{Member}
use Rattle.bal_tree.specs.declared.expr.Postfix.{Postfix}
use Rattle.bal_tree.specs.declared.expr.PrefixOp.{PrefixOp}
use Rattle.bal_tree.specs.declared.expr.PrefixOp.TheVariants.{Negate, Not as NotOp, Check, CheckPanic}
use Rattle.bal_tree.specs.declared.expr.Primary.{Primary, Primary-F, out-Primary, roll-out-Primary}
use Rattle.bal_tree.specs.declared.level.Level.TheVariants.{Prefix as PrefixLevel}
use Rattle.bal_tree.specs.declared.name.Literal.TheVariants.{Int as IntLiteral, Str as StrLiteral, True as TrueLiteral, False as FalseLiteral, Nil as NilLiteral}
use Rattle.bal_tree.specs.declared.name.Word.{Word}
use Rattle.bal_tree.specs.ExprPieces.{binary_sign, expr_pieces, prefix_op, writing}
use Rattle.bal_tree.specs.ExprRules.{expr_is_formed}
use Rattle.bal_tree.specs.Levels.{is_no_looser}
use Rattle.bal_tree.specs.NamePieces.{word_pieces}
use Rattle.bal_tree.specs.Pieces.{◌&◌, if_there, kinds, sign}
use Rattle.bal_tree.specs.Spells.{onto}
use Rattle.bal_tree.specs.TypePieces.{type_pieces}
use Rattle.bal_tree.specs.TypeRules.{type_end, type_is_formed}
use Rattle.bal_tree.proofs.Spelling.{onto-kinds}
use Rattle.token_steps.specs.Tokens.{Kinds, take_word}
use Rattle.parse_types.proofs.Law.{both_pass}
use Rattle.parse_types.proofs.Onto.{onto-longer}
use Rattle.parse_types.proofs.PrimaryLaw.{greater-closes}
use Rattle.parse_expr.specs.Ranks.{op_rank, sign_level, take_op}
use Rattle.parse_expr.proofs.ExprRolls.{parts_of_primary, rolled-primary}
use Rattle.parse_expr.proofs.Follows.{Quiet, closes, differs, done, done-below}
use Rattle.parse_expr.proofs.Shapes.{no_looser, op-sign}
use Rattle.parse_expr.proofs.WholeLaw.{expr-begins}
use Rattle.parse_stmt.proofs.Alike.{Alike, Same, behind_first, first-token}
use Rattle.parse_stmt.proofs.ExprSpines.{base_pieces, operand_pieces, AfterExpr, AfterLevel, Tail, Told, binary, branches, expr-spine, layer_expr, postfix-spine, rank_of, right_of, suffix_pieces, tail_end, tail_pieces, tail_rank, test, tighter-after, told-expr, told_expr, told_postfix, told_primary}
use Rattle.parse_stmt.proofs.Spines.{after, onto-spun, spines-same}
use Rattle.parse_stmt.proofs.TypeForms.{after-result, type-one}
use Rattle.parse_stmt.proofs.TypeSpines.{closes-after as type-closes-after}
use Rattle.bal_tree.specs.declared.name.Prefix.{Prefix}
use Rattle.bal_tree.specs.declared.name.Prefix.TheVariants.{Word as WordPrefix, Int as IntPrefix}
use Rattle.bal_tree.specs.NamePieces.{prefix_pieces}
use Rattle.parse_stmt.proofs.ExprTrees.{AllBelow, OneAt, before-end}
use Rattle.bal_tree.specs.TypePieces.{function_word, params_pieces, returning}
use Rattle.bal_tree.specs.TypeRules.{params_are_formed}
use Rattle.parse_stmt.proofs.ExprForms.{postfix-same}
use Rattle.parse_stmt.proofs.ParamsTree.{params-same}

-- ---- how expressions begin

abbrev class_of : Kinds → ℕ
class_of [] = 0
class_of (SignKind Minus ∷ ks) = 1
class_of (SignKind Not ∷ ks) = 1
class_of (SignKind Less ∷ ks) = 2
class_of (SignKind s ∷ ks) = 0
class_of (KeywordKind CheckKey ∷ ks) = 1
class_of (KeywordKind CheckPanicKey ∷ ks) = 1
class_of (KeywordKind TrapKey ∷ ks) = 3
class_of (KeywordKind FunctionKey ∷ ks) = 4
class_of (KeywordKind IsolatedKey ∷ ks) = 4
class_of (KeywordKind k ∷ ks) = 0
class_of (k ∷ ks) = 0

op-range : (op : BinaryOp) → (2 ≤ op_rank op) × (op_rank op ≤ 8)
op-range Multiply = (omega arith, omega arith)
op-range Divide = (omega arith, omega arith)
op-range Remainder = (omega arith, omega arith)
op-range Add = (omega arith, omega arith)
op-range Subtract = (omega arith, omega arith)
op-range LessOp = (omega arith, omega arith)
op-range LessEqual = (omega arith, omega arith)
op-range GreaterOp = (omega arith, omega arith)
op-range GreaterEqual = (omega arith, omega arith)
op-range EqualOp = (omega arith, omega arith)
op-range NotEqual = (omega arith, omega arith)
op-range SameOp = (omega arith, omega arith)
op-range NotSame = (omega arith, omega arith)
op-range And = (omega arith, omega arith)
op-range Or = (omega arith, omega arith)
op-range Elvis = (omega arith, omega arith)

abbrev LayerOfExpr : Type 0
LayerOfExpr = Expr-F Call Expr Key Postfix Primary Detail Member

name-class : (p : Option Prefix) (w : Word) (ks : Kinds) → class_of (onto (if_there prefix_pieces p & word_pieces w) ks) ≡ 0
name-class None w ks = refl
name-class (Some (WordPrefix v)) w ks = refl
name-class (Some (IntPrefix at)) w ks = refl

primary-class : (p : Primary) (ks : Kinds) → class_of (onto (told_primary p).pieces ks) ≡ 0
primary-class p ks = subst (λ v. class_of (onto (told_primary v).pieces ks) ≡ 0) (roll-out-Primary p) (ap (λ r. class_of (onto r ks)) (rolled-primary writing (out-Primary p)) ∙ by (out-Primary p))
  where
    by : (x : Primary-F Call Expr Key Postfix Primary Detail Member) → class_of (onto (writing.primary (parts_of_primary writing x)) ks) ≡ 0
    by (layer.Literal (IntLiteral i at)) = refl
    by (layer.Literal (StrLiteral t at)) = refl
    by (layer.Literal (TrueLiteral at)) = refl
    by (layer.Literal (FalseLiteral at)) = refl
    by (layer.Literal (NilLiteral at)) = refl
    by (layer.Name m) = name-class m.prefix m.word ks
    by (layer.Parens inner at) = refl
    by (layer.List items at) = refl
    by (layer.Mapping members at) = refl
    by (layer.Error message cause details at) = refl

postfix-class : (p : Postfix) (middle : Bool) (ks : Kinds) → (told_postfix p).facts.is_formed middle ≡ true → class_of (onto (told_postfix p).pieces ks) ≡ 0
postfix-class p middle ks f =
    let sp = postfix-spine p middle 0 f in
    ap (λ r. class_of (onto r ks)) sp.written ∙ ap class_of (onto-spun (base_pieces middle 0) suffix_pieces (base_pieces middle 0 sp.base) sp.steps ks) ∙ primary-class sp.base.0 (after (base_pieces middle 0) suffix_pieces sp.steps ks)

prefix-class : (op : PrefixOp) (ks : Kinds) → class_of (onto (prefix_op op) ks) ≡ 1
prefix-class Negate ks = refl
prefix-class NotOp ks = refl
prefix-class Check ks = refl
prefix-class CheckPanic ks = refl

function-class : (isolated : Bool) (ks : Kinds) → class_of (onto (function_word isolated) ks) ≡ 4
function-class true ks = refl
function-class false ks = refl

abbrev class : LayerOfExpr → ℕ
class (layer.Postfix e) = 0
class (layer.Prefix op operand at) = 1
class (layer.Cast t operand at) = 2
class (layer.Trap operand at) = 3
class (layer.«Expr::Function» isolated params result value at) = 4
class (layer.Binary left op right at) = 5
class (layer.TypeTest operand t at) = 5
class (layer.Conditional condition middle last at) = 5

-- of those without operators between operands
first-class : (x : LayerOfExpr) (middle : Bool) (ks : Kinds) → rank_of (layer_expr x) ≤ 1 → (layer_expr x).facts.is_formed middle ≡ true → class_of (onto (layer_expr x).pieces ks) ≡ class x
first-class (layer.Postfix e) middle ks le f = postfix-class e middle ks (both_pass ((told_postfix e).facts.is_formed middle) true f).0
first-class (layer.Prefix op operand at) middle ks le f = prefix-class op (onto (told_expr operand.value).pieces ks)
first-class (layer.Cast t operand at) middle ks le f = refl
first-class (layer.Trap operand at) middle ks le f = absurd (omega arith)
first-class (layer.«Expr::Function» isolated params result value at) middle ks le f = absurd (omega arith)
first-class (layer.Binary left op right at) middle ks le f = absurd (let r = (op-range op).0 in omega arith)
first-class (layer.TypeTest operand t at) middle ks le f = absurd (omega arith)
first-class (layer.Conditional condition m last at) middle ks le f = absurd (omega arith)

below-three : (x : LayerOfExpr) → rank_of (layer_expr x) ≤ 1 → class x < 3
below-three (layer.Postfix e) le = omega arith
below-three (layer.Prefix op operand at) le = omega arith
below-three (layer.Cast t operand at) le = omega arith
below-three (layer.Trap operand at) le = absurd (omega arith)
below-three (layer.«Expr::Function» isolated params result value at) le = absurd (omega arith)
below-three (layer.Binary left op right at) le = absurd (let r = (op-range op).0 in omega arith)
below-three (layer.TypeTest operand t at) le = absurd (omega arith)
below-three (layer.Conditional condition m last at) le = absurd (omega arith)

tight-class : (e : Expr) (middle : Bool) (ks : Kinds) → rank_of (told_expr e) ≤ 1 → (told_expr e).facts.is_formed middle ≡ true → class_of (onto (told_expr e).pieces ks) < 3
tight-class e middle ks le f =
    let x = out-Expr e in
    let path : told_expr e ≡ layer_expr x = sym (ap told_expr (roll-out-Expr e)) ∙ told-expr x in
    let le2 : rank_of (layer_expr x) ≤ 1 = subst (λ (a : Told). rank_of a ≤ 1) path le in
    let c = first-class x middle ks le2 (sym (ap (λ (a : Told). a.facts.is_formed middle) path) ∙ f) in
    let same = ap (λ (a : Told). class_of (onto a.pieces ks)) path in
    let b = below-three x le2 in
    omega arith

-- of those that are no `trap` and no function
expr-class : (k : ℕ) (e : Expr) (middle : Bool) (ks : Kinds) → k ≤ 9 → rank_of (told_expr e) ≤ k → (told_expr e).facts.is_formed middle ≡ true → class_of (onto (told_expr e).pieces ks) < 3
expr-class zero e middle ks top le f = tight-class e middle ks (omega arith) f
expr-class (suc zero) e middle ks top le f = tight-class e middle ks le f
expr-class (suc (suc k)) e middle ks top le f =
    let sp = expr-spine e (suc (suc k)) middle 0 (omega arith) top le f in
    let b = operand_pieces (suc (suc k)) middle 0 in
    let zs = after b tail_pieces sp.steps ks in
    let whole = ap (λ r. class_of (onto r ks)) sp.written ∙ ap class_of (onto-spun b tail_pieces (b sp.base) sp.steps ks) in
    let lt = sp.base.2 in
    let c = expr-class (suc k) sp.base.0 middle zs (omega arith) (omega arith) sp.base.1 in
    omega arith

-- ---- without operators between operands

prefix-longer : (op : PrefixOp) (ks : Kinds) → length ks < length (onto (prefix_op op) ks)
prefix-longer Negate ks = omega arith
prefix-longer NotOp ks = omega arith
prefix-longer Check ks = omega arith
prefix-longer CheckPanic ks = omega arith

prefix-same : (o p : PrefixOp) (zs ws : Kinds) → onto (prefix_op o) zs ≡ onto (prefix_op p) ws → Same (prefix_op o) (prefix_op p) zs ws
prefix-same Negate Negate zs ws e = (refl, cc e)
prefix-same NotOp NotOp zs ws e = (refl, cc e)
prefix-same Check Check zs ws e = (refl, cc e)
prefix-same CheckPanic CheckPanic zs ws e = (refl, cc e)
prefix-same Negate NotOp zs ws e = cc e
prefix-same Negate Check zs ws e = cc e
prefix-same Negate CheckPanic zs ws e = cc e
prefix-same NotOp Negate zs ws e = cc e
prefix-same NotOp Check zs ws e = cc e
prefix-same NotOp CheckPanic zs ws e = cc e
prefix-same Check Negate zs ws e = cc e
prefix-same Check NotOp zs ws e = cc e
prefix-same Check CheckPanic zs ws e = cc e
prefix-same CheckPanic Negate zs ws e = cc e
prefix-same CheckPanic NotOp zs ws e = cc e
prefix-same CheckPanic Check zs ws e = cc e

word-same : (p q : Bool) (ks ls : Kinds) → onto (function_word p) ks ≡ onto (function_word q) ls → Same (function_word p) (function_word q) ks ls
word-same true true ks ls e = ((refl, refl), cc e)
word-same false false ks ls e = ((tt, refl), cc e)
word-same true false ks ls e = cc e
word-same false true ks ls e = cc e

one-code : (a b : ℕ) → a ≡ b → (a == b) ≡ true
one-code a b e = subst (λ c. (a == c) ≡ true) e (eq-eqb a a refl)

expr-path : (e : Expr) → told_expr e ≡ layer_expr (out-Expr e)
expr-path e = sym (ap told_expr (roll-out-Expr e)) ∙ told-expr (out-Expr e)

module _ (n : ℕ) (all : AllBelow n) where
  abbrev LevelPair : ℕ → Told → Told → Type 0
  LevelPair k a b = (middle : Bool) (ks ls : Kinds) → length (onto a.pieces ks) < suc n → rank_of a ≤ k → rank_of b ≤ k → a.facts.is_formed middle ≡ true → b.facts.is_formed middle ≡ true → AfterExpr k middle a.facts.end ks → AfterExpr k middle b.facts.end ls → onto a.pieces ks ≡ onto b.pieces ls → Same a.pieces b.pieces ks ls

  one-class : (x y : LayerOfExpr) → class x ≡ class y → LevelPair 1 (layer_expr x) (layer_expr y)
  one-class (layer.Postfix p) (layer.Postfix q) same middle ks ls fits r s f g h k e =
      postfix-same n all p q middle ks ls (omega arith) (both_pass ((told_postfix p).facts.is_formed middle) true f).0 (both_pass ((told_postfix q).facts.is_formed middle) true g).0 h.ends k.ends h.colon k.colon e
  one-class (layer.Prefix o v at) (layer.Prefix p w other) same middle ks ls fits r s f g h k e =
      let a = both_pass (is_no_looser (told_expr v.value).facts.level PrefixLevel) ((told_expr v.value).facts.is_formed middle && true) f in
      let b = both_pass (is_no_looser (told_expr w.value).facts.level PrefixLevel) ((told_expr w.value).facts.is_formed middle && true) g in
      let l = prefix-longer o (onto (told_expr v.value).pieces ks) in
      let t = prefix-same o p (onto (told_expr v.value).pieces ks) (onto (told_expr w.value).pieces ls) e in
      let u = all.levels 1 (omega arith) v.value w.value middle ks ls (omega arith) (no_looser (told_expr v.value).facts.level PrefixLevel a.0) (no_looser (told_expr w.value).facts.level PrefixLevel b.0) (both_pass ((told_expr v.value).facts.is_formed middle) true a.1).0 (both_pass ((told_expr w.value).facts.is_formed middle) true b.1).0 h k t.1 in
      ((tt, (t.0, u.0)), u.1)
  one-class (layer.Cast t v at) (layer.Cast u w other) same middle ks ls fits r s f g h k e =
      let a = both_pass (type_is_formed t.value middle && is_no_looser (told_expr v.value).facts.level PrefixLevel) ((told_expr v.value).facts.is_formed middle && true) f in
      let a2 = both_pass (type_is_formed t.value middle) (is_no_looser (told_expr v.value).facts.level PrefixLevel) a.0 in
      let b = both_pass (type_is_formed u.value middle && is_no_looser (told_expr w.value).facts.level PrefixLevel) ((told_expr w.value).facts.is_formed middle && true) g in
      let b2 = both_pass (type_is_formed u.value middle) (is_no_looser (told_expr w.value).facts.level PrefixLevel) b.0 in
      let zs = onto (told_expr v.value).pieces ks in
      let ws = onto (told_expr w.value).pieces ls in
      let l = onto-longer (type_pieces t.value) (SignKind Greater ∷ zs) in
      let c = type-one t.value u.value middle (SignKind Greater ∷ zs) (SignKind Greater ∷ ws) a2.0 b2.0 (type-closes-after middle (type_end t.value) (SignKind Greater ∷ zs) (greater-closes zs)) (type-closes-after middle (type_end u.value) (SignKind Greater ∷ ws) (greater-closes ws)) (ap behind_first e) in
      let d = all.levels 1 (omega arith) v.value w.value middle ks ls (omega arith) (no_looser (told_expr v.value).facts.level PrefixLevel a2.1) (no_looser (told_expr w.value).facts.level PrefixLevel b2.1) (both_pass ((told_expr v.value).facts.is_formed middle) true a.1).0 (both_pass ((told_expr w.value).facts.is_formed middle) true b.1).0 h k (ap behind_first c.1) in
      ((tt, ((refl, (c.0, refl)), d.0)), d.1)
  one-class (layer.Binary l op r at) y same middle ks ls fits i s f g h k e = absurd (let m = (op-range op).0 in omega arith)
  one-class (layer.TypeTest v t at) y same middle ks ls fits i s f g h k e = absurd (omega arith)
  one-class (layer.Conditional c m l at) y same middle ks ls fits i s f g h k e = absurd (omega arith)
  one-class (layer.Trap v at) y same middle ks ls fits i s f g h k e = absurd (omega arith)
  one-class (layer.«Expr::Function» isolated params result v at) y same middle ks ls fits i s f g h k e = absurd (omega arith)
  one-class x y same middle ks ls fits i s f g h k e = absurd (false≢true (one-code (class x) (class y) same))

  tight-pair : (x y : LayerOfExpr) → LevelPair 1 (layer_expr x) (layer_expr y)
  tight-pair x y middle ks ls fits r s f g h k e =
      one-class x y (sym (first-class x middle ks r f) ∙ ap class_of e ∙ first-class y middle ls s g) middle ks ls fits r s f g h k e

  tight-one : (t u : Expr) → LevelPair 1 (told_expr t) (told_expr u)
  tight-one t u = subst (λ a. LevelPair 1 a (told_expr u)) (sym (expr-path t)) (subst (λ a. LevelPair 1 (layer_expr (out-Expr t)) a) (sym (expr-path u)) (tight-pair (out-Expr t) (out-Expr u)))

  -- ---- with an operator of a level

  op-here : (op : BinaryOp) (k : ℕ) (ks : Kinds) → op_rank op ≡ k → take_op k (SignKind (binary_sign op) ∷ ks) ≡ Some ks
  op-here op k ks is = ap (λ b. if b then Some ks else None) (eq-eqb (sign_level (binary_sign op)) k (op-sign op ∙ is))

  no-tail : (k : ℕ) (middle : Bool) (x : Tail k middle) (zs : Kinds) → Quiet k (onto (tail_pieces x) zs) → ⊥
  no-tail k middle (binary op r is f le) zs q =
      let m = (op-range op).0 in
      let bad : None ≡ Some (onto (told_expr r).pieces zs) = sym (q.no_op k (omega arith) (omega arith)) ∙ op-here op k (onto (told_expr r).pieces zs) is in cc bad
  no-tail k middle (test t is f) zs q = let bad : None ≡ Some (onto (type_pieces t) zs) = sym (q.no_is (omega arith)) in cc bad
  no-tail k middle (branches m l is f g a b c) zs q = let bad : None ≡ Some _ = sym (q.no_question (omega arith)) in cc bad

  right-level : (o p : BinaryOp) → op_rank o ≡ op_rank p → right_of o ≡ right_of p
  right-level o p e = sym (by o) ∙ ap of-rank e ∙ by p
    where
      of-rank : ℕ → ℕ
      of-rank k = if k == 8 then 8 else k - 1

      by : (o : BinaryOp) → of-rank (op_rank o) ≡ right_of o
      by Multiply = refl
      by Divide = refl
      by Remainder = refl
      by Add = refl
      by Subtract = refl
      by LessOp = refl
      by LessEqual = refl
      by GreaterOp = refl
      by GreaterEqual = refl
      by EqualOp = refl
      by NotEqual = refl
      by SameOp = refl
      by NotSame = refl
      by And = refl
      by Or = refl
      by Elvis = refl

  right-range : (op : BinaryOp) → right_of op ≤ 9
  right-range Multiply = omega arith
  right-range Divide = omega arith
  right-range Remainder = omega arith
  right-range Add = omega arith
  right-range Subtract = omega arith
  right-range LessOp = omega arith
  right-range LessEqual = omega arith
  right-range GreaterOp = omega arith
  right-range GreaterEqual = omega arith
  right-range EqualOp = omega arith
  right-range NotEqual = omega arith
  right-range SameOp = omega arith
  right-range NotSame = omega arith
  right-range And = omega arith
  right-range Or = omega arith
  right-range Elvis = omega arith

  no-question : (op : BinaryOp) (zs ws : Kinds) → SignKind (binary_sign op) ∷ zs ≡ SignKind Question ∷ ws → ⊥
  no-question op zs ws e =
      let m = (op-range op).0 in
      let bad : Some zs ≡ None = sym (op-here op (op_rank op) zs refl) ∙ ap (take_op (op_rank op)) e ∙ ap (λ b. if b then Some ws else None) (differs 0 (op_rank op) (λ same. omega arith)) in cc bad

  no-word-of : (o : Option Kinds) → is_some o ≡ false → o ≡ None
  no-word-of None h = refl
  no-word-of (Some x) h = cc h

  -- the middle part before its colon
  colon-after : (m l : Expr) (zs : Kinds) → ((told_expr m).facts.end.in_int ≡ true → (told_expr l).facts.begins_with_word ≡ false) → AfterExpr 9 true (told_expr m).facts.end (SignKind Colon ∷ onto (told_expr l).pieces zs)
  colon-after m l zs c =
      let ws = onto (told_expr l).pieces zs in
      record {
        ends = record { no_call = refl; no_index = refl; no_dot = refl; no_question_dot = refl; no_name = λ h. absurd (false≢true (sym h)) };
        colon = λ h. absurd (false≢true (sym h));
        types = λ _. (record { less = refl; paren = refl; returns = refl; colon = λ h. absurd (false≢true (sym h)); int_colon = λ h. no-word-of (take_word ws) (expr-begins l zs ∙ c h) }, record { no_suffix = refl; no_ampersand = refl; no_bar = refl });
        quiet = record { no_op = λ j pos le. ap (λ b. if b then Some ws else None) (differs 0 j (λ same. omega arith)); no_is = λ le. refl; no_question = λ le. refl };
      }

  tails-same : (k : ℕ) (middle : Bool) (x y : Tail k middle) (zs ws : Kinds) → AfterLevel (tail_rank x) middle n (tail_end x) (tail_pieces x) zs → AfterLevel (tail_rank y) middle n (tail_end y) (tail_pieces y) ws → onto (tail_pieces x) zs ≡ onto (tail_pieces y) ws → Same (tail_pieces x) (tail_pieces y) zs ws
  tails-same k middle (binary o r is f le) (binary p q js g mo) zs ws h j e =
      let fits = h.fits in
      let same = right-level o p (is ∙ sym js) in
      let s = all.levels (right_of o) (right-range o) r q middle zs ws (omega arith) le (omega arith) f g h.after (subst (λ i. AfterExpr i middle (told_expr q).facts.end ws) (sym same) j.after) (ap behind_first e) in
      ((first-token (SignKind (binary_sign o)) (SignKind (binary_sign p)) _ _ e, s.0), s.1)
  tails-same k middle (test t is f) (test u js g) zs ws h j e =
      let x = h.after.types refl in
      let y = j.after.types refl in
      let s = type-one t u middle zs ws f g (after-result middle (type_end t) zs x.0 x.1) (after-result middle (type_end u) ws y.0 y.1) (ap behind_first e) in
      ((refl, s.0), s.1)
  tails-same k middle (branches m l is f g a b c) (branches p q js f2 g2 a2 b2 c2) zs ws h j e =
      let fits = h.fits in
      let xs = SignKind Colon ∷ onto (told_expr l).pieces zs in
      let ys = SignKind Colon ∷ onto (told_expr q).pieces ws in
      let s = all.levels 9 (omega arith) m p true xs ys (omega arith) a a2 f f2 (colon-after m l zs c) (colon-after p q ws c2) (ap behind_first e) in
      let d = onto-longer (told_expr m).pieces xs in
      let t = all.levels 9 (omega arith) l q middle zs ws (omega arith) b b2 g g2 h.after j.after (ap behind_first s.1) in
      ((refl, (s.0, (refl, t.0))), t.1)
  tails-same k middle (binary o r is f le) (test u js g) zs ws h j e = cc e
  tails-same k middle (test t is f) (binary p q js g mo) zs ws h j e = cc e
  tails-same k middle (binary o r is f le) (branches p q js f2 g2 a2 b2 c2) zs ws h j e = absurd (no-question o _ _ e)
  tails-same k middle (branches m l is f g a b c) (binary p q js g2 mo) zs ws h j e = absurd (no-question p _ _ (sym e))
  tails-same k middle (test t is f) (branches p q js f2 g2 a2 b2 c2) zs ws h j e = cc e
  tails-same k middle (branches m l is f g a b c) (test u js g2) zs ws h j e = cc e

  zero-pair : (x y : LayerOfExpr) → LevelPair 0 (layer_expr x) (layer_expr y)
  zero-pair (layer.Postfix p) (layer.Postfix q) middle ks ls fits r s f g h k e =
      postfix-same n all p q middle ks ls (omega arith) (both_pass ((told_postfix p).facts.is_formed middle) true f).0 (both_pass ((told_postfix q).facts.is_formed middle) true g).0 h.ends k.ends h.colon k.colon e
  zero-pair (layer.Postfix p) (layer.Prefix o v at) middle ks ls fits r s f g h k e = absurd (omega arith)
  zero-pair (layer.Postfix p) (layer.Cast t v at) middle ks ls fits r s f g h k e = absurd (omega arith)
  zero-pair (layer.Postfix p) (layer.Binary l op q at) middle ks ls fits r s f g h k e = absurd (let m = (op-range op).0 in omega arith)
  zero-pair (layer.Postfix p) (layer.TypeTest v t at) middle ks ls fits r s f g h k e = absurd (omega arith)
  zero-pair (layer.Postfix p) (layer.Conditional c m l at) middle ks ls fits r s f g h k e = absurd (omega arith)
  zero-pair (layer.Postfix p) (layer.Trap v at) middle ks ls fits r s f g h k e = absurd (omega arith)
  zero-pair (layer.Postfix p) (layer.«Expr::Function» isolated params result v at) middle ks ls fits r s f g h k e = absurd (omega arith)
  zero-pair (layer.Prefix o v at) y middle ks ls fits r s f g h k e = absurd (omega arith)
  zero-pair (layer.Cast t v at) y middle ks ls fits r s f g h k e = absurd (omega arith)
  zero-pair (layer.Binary l op q at) y middle ks ls fits r s f g h k e = absurd (let m = (op-range op).0 in omega arith)
  zero-pair (layer.TypeTest v t at) y middle ks ls fits r s f g h k e = absurd (omega arith)
  zero-pair (layer.Conditional c m l at) y middle ks ls fits r s f g h k e = absurd (omega arith)
  zero-pair (layer.Trap v at) y middle ks ls fits r s f g h k e = absurd (omega arith)
  zero-pair (layer.«Expr::Function» isolated params result v at) y middle ks ls fits r s f g h k e = absurd (omega arith)

  levels : (k : ℕ) → k ≤ 9 → OneAt k (suc n)
  levels zero top t u middle ks ls fits r s f g h k e =
      tight-zero t u middle ks ls fits (omega arith) (omega arith) f g h k e
    where
      tight-zero : (t u : Expr) (middle : Bool) (ks ls : Kinds) → length (onto (told_expr t).pieces ks) < suc n → rank_of (told_expr t) ≤ 0 → rank_of (told_expr u) ≤ 0 → (told_expr t).facts.is_formed middle ≡ true → (told_expr u).facts.is_formed middle ≡ true → AfterExpr 0 middle (told_expr t).facts.end ks → AfterExpr 0 middle (told_expr u).facts.end ls → onto (told_expr t).pieces ks ≡ onto (told_expr u).pieces ls → Same (told_expr t).pieces (told_expr u).pieces ks ls
      tight-zero t u = subst (λ a. LevelPair 0 a (told_expr u)) (sym (expr-path t)) (subst (λ a. LevelPair 0 (layer_expr (out-Expr t)) a) (sym (expr-path u)) (zero-pair (out-Expr t) (out-Expr u)))
  levels (suc zero) top t u middle ks ls fits r s f g h k e = tight-one t u middle ks ls fits r s f g h k e
  levels (suc (suc j)) top t u middle ks ls fits r s f g h k e =
      let m = suc (suc j) in
      let size = ap length e in
      spines-same _ _ _ _ _ _ _ _ (Quiet m) (λ x zs q. no-tail m middle x zs q) (λ x zs q. no-tail m middle x zs q)
      (λ b c zs ws i i2 q. let v = i.fits in let a = b.2 in let d = c.2 in levels (suc j) (omega arith) b.0 c.0 middle zs ws (omega arith) (omega arith) (omega arith) b.1 c.1 (tighter-after (suc j) (suc (suc j) - 1) middle (told_expr b.0).facts.end zs (omega arith) i.after) (tighter-after (suc j) (suc (suc j) - 1) middle (told_expr c.0).facts.end ws (omega arith) i2.after) q)
      (λ x y zs ws i i2 q. tails-same m middle x y zs ws i i2 q)
      (told_expr t).pieces (told_expr u).pieces _ _ (expr-spine t m middle n (omega arith) top r f) (expr-spine u m middle n (omega arith) top s g) ks ls
      record { after = tighter-after (done m) m middle (told_expr t).facts.end ks (done-below m) h; fits = omega arith } record { after = tighter-after (done m) m middle (told_expr u).facts.end ls (done-below m) k; fits = omega arith } h.quiet k.quiet e

  -- ---- `trap` and functions

  LoosePair : Told → Told → Type 0
  LoosePair a b = (middle : Bool) (ks ls : Kinds) → length (onto a.pieces ks) < suc n → 9 < rank_of a → 9 < rank_of b → a.facts.is_formed middle ≡ true → b.facts.is_formed middle ≡ true → AfterExpr 9 middle a.facts.end ks → AfterExpr 9 middle b.facts.end ls → onto a.pieces ks ≡ onto b.pieces ls → Same a.pieces b.pieces ks ls

  loose-pair : (x y : LayerOfExpr) → LoosePair (layer_expr x) (layer_expr y)
  unfolding LoosePair
  loose-pair (layer.Trap v at) (layer.Trap w other) middle ks ls fits r s f g h k e =
      let t = all.loose v.value w.value middle ks ls (omega arith) (both_pass ((told_expr v.value).facts.is_formed middle) true f).0 (both_pass ((told_expr w.value).facts.is_formed middle) true g).0 h k (ap behind_first e) in
      ((tt, (refl, t.0)), t.1)
  loose-pair (layer.«Expr::Function» p ps t v at) (layer.«Expr::Function» q qs u w other) middle ks ls fits r s f g h k e =
      let a = both_pass (params_are_formed ps && type_is_formed t.value middle) ((told_expr v.value).facts.is_formed middle && true) f in
      let a2 = both_pass (params_are_formed ps) (type_is_formed t.value middle) a.0 in
      let b = both_pass (params_are_formed qs && type_is_formed u.value middle) ((told_expr w.value).facts.is_formed middle && true) g in
      let b2 = both_pass (params_are_formed qs) (type_is_formed u.value middle) b.0 in
      let vs = onto (told_expr v.value).pieces ks in
      let ws = onto (told_expr w.value).pieces ls in
      let xs = SignKind FatArrow ∷ vs in
      let ys = SignKind FatArrow ∷ ws in
      let i = word-same p q (onto (params_pieces ps & returning (type_pieces t.value)) xs) (onto (params_pieces qs & returning (type_pieces u.value)) ys) e in
      let j = params-same ps qs (onto (returning (type_pieces t.value)) xs) (onto (returning (type_pieces u.value)) ys) a2.0 b2.0 i.1 in
      let c = type-one t.value u.value middle xs ys a2.1 b2.1 (type-closes-after middle (type_end t.value) xs (closes FatArrow vs refl).type_closes) (type-closes-after middle (type_end u.value) ys (closes FatArrow ws refl).type_closes) (ap behind_first j.1) in
      let l1 = onto-longer (function_word p) (onto (params_pieces ps & returning (type_pieces t.value)) xs) in
      let l2 = onto-longer (params_pieces ps) (onto (returning (type_pieces t.value)) xs) in
      let l3 = onto-longer (type_pieces t.value) xs in
      let d = all.loose v.value w.value middle ks ls (omega arith) (both_pass ((told_expr v.value).facts.is_formed middle) true a.1).0 (both_pass ((told_expr w.value).facts.is_formed middle) true b.1).0 h k (ap behind_first c.1) in
      ((tt, ((i.0, (j.0, (refl, c.0))), (refl, d.0))), d.1)
  loose-pair (layer.Trap v at) (layer.«Expr::Function» q qs u w other) middle ks ls fits r s f g h k e =
      absurd (false≢true (one-code 3 4 (ap class_of e ∙ function-class q _)))
  loose-pair (layer.«Expr::Function» p ps t v at) (layer.Trap w other) middle ks ls fits r s f g h k e =
      absurd (false≢true (one-code 3 4 (ap class_of (sym e) ∙ function-class p _)))
  loose-pair (layer.Postfix p) y middle ks ls fits r s f g h k e = absurd (omega arith)
  loose-pair (layer.Prefix o v at) y middle ks ls fits r s f g h k e = absurd (omega arith)
  loose-pair (layer.Cast t v at) y middle ks ls fits r s f g h k e = absurd (omega arith)
  loose-pair (layer.Binary l op q at) y middle ks ls fits r s f g h k e = absurd (let m = (op-range op).1 in omega arith)
  loose-pair (layer.TypeTest v t at) y middle ks ls fits r s f g h k e = absurd (omega arith)
  loose-pair (layer.Conditional c m l at) y middle ks ls fits r s f g h k e = absurd (omega arith)
  loose-pair x (layer.Postfix p) middle ks ls fits r s f g h k e = absurd (omega arith)
  loose-pair x (layer.Prefix o v at) middle ks ls fits r s f g h k e = absurd (omega arith)
  loose-pair x (layer.Cast t v at) middle ks ls fits r s f g h k e = absurd (omega arith)
  loose-pair x (layer.Binary l op q at) middle ks ls fits r s f g h k e = absurd (let m = (op-range op).1 in omega arith)
  loose-pair x (layer.TypeTest v t at) middle ks ls fits r s f g h k e = absurd (omega arith)
  loose-pair x (layer.Conditional c m l at) middle ks ls fits r s f g h k e = absurd (omega arith)

  loose-one : (t u : Expr) → LoosePair (told_expr t) (told_expr u)
  loose-one t u = subst (λ a. LoosePair a (told_expr u)) (sym (expr-path t)) (subst (λ a. LoosePair (layer_expr (out-Expr t)) a) (sym (expr-path u)) (loose-pair (out-Expr t) (out-Expr u)))

  -- what is loosest begins so
  loose-first : (t : Expr) (ks : Kinds) → 9 < rank_of (told_expr t) → 3 ≤ class_of (onto (told_expr t).pieces ks)
  loose-first t ks = subst (λ (a : Told). 9 < rank_of a → 3 ≤ class_of (onto a.pieces ks)) (sym (expr-path t)) (by (out-Expr t))
    where
      by : (x : LayerOfExpr) → 9 < rank_of (layer_expr x) → 3 ≤ class_of (onto (layer_expr x).pieces ks)
      by (layer.Trap v at) r = omega arith
      by (layer.«Expr::Function» p ps t v at) r = let c = function-class p (onto (params_pieces ps & returning (type_pieces t.value) & sign FatArrow & (told_expr v.value).pieces) ks) in omega arith
      by (layer.Postfix p) r = absurd (omega arith)
      by (layer.Prefix o v at) r = absurd (omega arith)
      by (layer.Cast t v at) r = absurd (omega arith)
      by (layer.Binary l op q at) r = absurd (let m = (op-range op).1 in omega arith)
      by (layer.TypeTest v t at) r = absurd (omega arith)
      by (layer.Conditional c m l at) r = absurd (omega arith)

  loose : (t u : Expr) (middle : Bool) (ks ls : Kinds) → length (onto (told_expr t).pieces ks) < suc n → (told_expr t).facts.is_formed middle ≡ true → (told_expr u).facts.is_formed middle ≡ true → AfterExpr 9 middle (told_expr t).facts.end ks → AfterExpr 9 middle (told_expr u).facts.end ls → onto (told_expr t).pieces ks ≡ onto (told_expr u).pieces ls → Same (told_expr t).pieces (told_expr u).pieces ks ls
  unfolding LoosePair
  loose t u middle ks ls fits f g h k e =
      elim (cases_Bool (nat_le (rank_of (told_expr t)) 9)) [
        | inl low ↦ elim (cases_Bool (nat_le (rank_of (told_expr u)) 9)) [
          | inl low2 ↦ levels 9 (omega arith) t u middle ks ls fits (leb-true (rank_of (told_expr t)) 9 low) (leb-true (rank_of (told_expr u)) 9 low2) f g h k e
          | inr high2 ↦
              let c = expr-class 9 t middle ks (omega arith) (leb-true (rank_of (told_expr t)) 9 low) f in
              let d = loose-first u ls (leb-false (rank_of (told_expr u)) 9 high2) in
              let same = ap class_of e in
              absurd (omega arith)
        ]
        | inr high ↦ elim (cases_Bool (nat_le (rank_of (told_expr u)) 9)) [
          | inl low2 ↦
              let c = expr-class 9 u middle ls (omega arith) (leb-true (rank_of (told_expr u)) 9 low2) g in
              let d = loose-first t ks (leb-false (rank_of (told_expr t)) 9 high) in
              let same = ap class_of e in
              absurd (omega arith)
          | inr high2 ↦ loose-one t u middle ks ls fits (leb-false (rank_of (told_expr t)) 9 high) (leb-false (rank_of (told_expr u)) 9 high2) f g h k e
        ]
      ]

-- ---- the whole, by how many tokens there are

all-below : (n : ℕ) → AllBelow n
all-below zero = record { levels = λ k top t u middle ks ls fits r s f g h j e. absurd (omega arith); loose = λ t u middle ks ls fits f g h j e. absurd (omega arith) }
all-below (suc n) = let all = all-below n in record { levels = levels n all; loose = loose n all }

pub exprs-one : (e f : Expr) → expr_is_formed e false ≡ true → expr_is_formed f false ≡ true → kinds (expr_pieces e) ≡ kinds (expr_pieces f) → Alike (expr_pieces e) (expr_pieces f)
exprs-one e f fe ff q =
    let ks = SignKind Comma ∷ [] in
    let n = suc (length (onto (expr_pieces e) ks)) in
    (before-end n (all-below n) e f ks ks (omega arith) fe ff (closes Comma [] refl) (closes Comma [] refl) (onto-kinds (expr_pieces e) ks ∙ ap (λ xs. xs ++ ks) q ∙ sym (onto-kinds (expr_pieces f) ks))).0
