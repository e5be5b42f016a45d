-- Expressions that are put together by suffixes and operators, as spines.
use Rattle.std.proofs.Common.{◌≡◌, ℕ, ◌-◌, ◌<◌, ◌≤◌, Bool, true, false, ◌&&◌, List, [], ◌∷◌, map, length, None, Some, refl, sym, ap, ◌∙◌, subst, arith, inl, inr}
use Rattle.std.specs.List.{list_all}
use Rattle.std.specs.Prelude.{not, nat_lt, if◌then◌else◌}
use Rattle.std.proofs.lemmas.Bool.{cases_Bool, false≢true, ltb-true, ltb-false}
use Rattle.bal_base.specs.declared.token.TokenKind.TheVariants.{Keyword as KeywordKind, Sign as SignKind}
use Rattle.bal_base.specs.declared.token.Keyword.TheVariants.{Is}
use Rattle.bal_base.specs.declared.token.Sign.TheVariants.{OpenParen, OpenBracket, CloseBracket, Dot, QuestionDot, Colon, Question}
use Rattle.bal_tree.specs.declared.expr.BinaryOp.{BinaryOp}
use Rattle.bal_tree.specs.declared.expr.BinaryOp.TheVariants.{Multiply, Divide, Remainder, Add, Subtract, Less, LessEqual, Greater, GreaterEqual, Equal, NotEqual, Same as SameOp, NotSame, And, Or, Elvis}
use Rattle.bal_tree.specs.declared.expr.Call.{Call, Call-F, roll-Call, map-Call}
use Rattle.bal_tree.specs.declared.expr.Call.TheOpen as layer
use Rattle.bal_tree.specs.declared.expr.Detail.{Detail}
use Rattle.bal_tree.specs.declared.expr.Expr.{Expr, Expr-F, roll-Expr, map-Expr, ind-Expr}
use Rattle.bal_tree.specs.declared.expr.Key.{Key}
use Rattle.bal_tree.specs.declared.expr.Member.{Member}
use Rattle.bal_tree.specs.declared.expr.Postfix.{Postfix, Postfix-F, roll-Postfix, map-Postfix, ind-Postfix}
use Rattle.bal_tree.specs.declared.expr.Primary.{Primary}
use Rattle.bal_tree.specs.declared.level.Level.{Level}
use Rattle.bal_tree.specs.declared.level.Level.TheVariants.{Comparison, Conditional as ConditionalLevel}
use Rattle.bal_base.specs.declared.place.Place.{Place}
use Rattle.bal_tree.specs.declared.name.Word.{Word}
use Rattle.bal_tree.specs.declared.types.TypeTree.{TypeTree}
use Rattle.bal_tree.specs.ExprLayers.{of_call, of_expr, of_postfix, of_primary}
use Rattle.bal_tree.specs.ExprPieces.{arguments, binary_sign, type_test, writing}
use Rattle.bal_tree.specs.ExprRules.{ExprEnd, ExprFacts, facts, make_conditional, part_is_formed}
use Rattle.bal_tree.specs.Levels.{is_no_looser, is_tighter, rank, takes}
use Rattle.bal_tree.specs.NamePieces.{word_pieces}
use Rattle.bal_tree.specs.Parts.{each_inside}
use Rattle.bal_tree.specs.Pieces.{Pieces, ◌&◌, sign, starts}
use Rattle.bal_tree.specs.Spells.{onto}
use Rattle.bal_tree.specs.TypePieces.{type_pieces}
use Rattle.bal_tree.specs.TypeRules.{type_end, type_is_formed}
use Rattle.token_steps.specs.Tokens.{Kinds, take_sign}
use Rattle.parse_types.proofs.Law.{both_pass, not_true}
use Rattle.parse_types.proofs.Onto.{onto-longer}
use Rattle.parse_expr.specs.Operators.{is_chain}
use Rattle.parse_expr.specs.Ranks.{op_rank}
use Rattle.parse_expr.proofs.ExprRolls.{parts_of_call, parts_of_expr, parts_of_postfix, rolled-call, rolled-expr, rolled-postfix}
use Rattle.parse_expr.proofs.Follows.{Ends, Quiet, Quiet-tighter, differs, done, TypeEnds, is-ends, op-ends, op-quiet, op-type-ends, question-ends}
use Rattle.parse_expr.proofs.Shapes.{op-sign, sides, tighter, no_looser}
use Rattle.parse_expr.proofs.WholeLaw.{expr-law}
use Rattle.parse_stmt.proofs.Spines.{Spine, more-spine, one-spine}

pub record Told : Type 0 where
  pub facts : ExprFacts
  pub pieces : Pieces

abbrev pub told_expr : Expr → Told
told_expr e = record { facts = of_expr facts e; pieces = of_expr writing e }

abbrev pub told_postfix : Postfix → Told
told_postfix e = record { facts = of_postfix facts e; pieces = of_postfix writing e }

abbrev pub told_call : Call → Told
told_call e = record { facts = of_call facts e; pieces = of_call writing e }

abbrev pub told_primary : Primary → Told
told_primary e = record { facts = of_primary facts e; pieces = of_primary writing e }

abbrev pub rank_of : Told → ℕ
rank_of a = rank a.facts.level

-- ---- suffixes

abbrev pub AnArgument : Type 0
AnArgument = (e : Expr) × ((told_expr e).facts.is_formed false ≡ true)

abbrev pub argument_pieces : AnArgument → Pieces
argument_pieces x = (told_expr x.0).pieces

pub data Suffix : Type 0 where
  field : Word → Suffix
  optional : Word → Suffix
  index : AnArgument → Suffix
  args : List AnArgument → Suffix
  method : Word → List AnArgument → Suffix

abbrev pub suffix_pieces : Suffix → Pieces
suffix_pieces (field w) = sign Dot & word_pieces w
suffix_pieces (optional w) = sign QuestionDot & word_pieces w
suffix_pieces (index x) = sign OpenBracket & argument_pieces x & sign CloseBracket
suffix_pieces (args xs) = arguments (map argument_pieces xs)
suffix_pieces (method w xs) = sign Dot & word_pieces w & arguments (map argument_pieces xs)

abbrev pub is_field : Suffix → Bool
is_field (field w) = true
is_field (optional w) = false
is_field (index x) = false
is_field (args xs) = false
is_field (method w xs) = false

-- well-formed arguments, one by one
pub with-forms : (middle : Bool) (es : List Expr) → list_all (part_is_formed middle) (each_inside (map (of_expr facts) es)) ≡ true → List AnArgument
with-forms middle [] h = []
with-forms middle (e ∷ es) h = let b = both_pass ((told_expr e).facts.is_formed false) (list_all (part_is_formed middle) (each_inside (map (of_expr facts) es))) h in (e, b.0) ∷ with-forms middle es b.1

pub forms-are : (middle : Bool) (es : List Expr) (h : list_all (part_is_formed middle) (each_inside (map (of_expr facts) es)) ≡ true) → map argument_pieces (with-forms middle es h) ≡ map (of_expr writing) es
unfolding with-forms
forms-are middle [] h = refl
forms-are middle (e ∷ es) h = ap (λ ps. (told_expr e).pieces ∷ ps) (forms-are middle es (both_pass ((told_expr e).facts.is_formed false) (list_all (part_is_formed middle) (each_inside (map (of_expr facts) es))) h).1)

-- what may stand behind: in a middle a colon, and behind a field no arguments; and no more than so many tokens in all
pub record AfterTight (middle is_field : Bool) (n : ℕ) (p : Pieces) (ks : Kinds) : Type 0 where
  pub colon : middle ≡ false → take_sign Colon ks ≡ None
  pub no_call : is_field ≡ true → take_sign OpenParen ks ≡ None
  pub fits : length (onto p ks) ≤ n

abbrev pub ABase : Bool → Type 0
ABase middle = (e : Primary) × ((told_primary e).facts.is_formed middle ≡ true)

module _ (middle : Bool) (n : ℕ) where
  abbrev pub base_pieces : ABase middle → Pieces
  base_pieces b = (told_primary b.0).pieces

  abbrev pub AfterBase : ABase middle → Kinds → Type 0
  AfterBase b ks = AfterTight middle false n (told_primary b.0).pieces ks

  abbrev pub AfterSuffix : Suffix → Kinds → Type 0
  AfterSuffix x ks = AfterTight true (is_field x) n (suffix_pieces x) ks

  abbrev pub PostfixSpine : Bool → Told → Type 0
  PostfixSpine is_field a = Spine base_pieces suffix_pieces AfterBase AfterSuffix a.pieces (AfterTight middle is_field n a.pieces)

-- where arguments may not stand behind it, if it is a field
abbrev pub IsTightAs : Bool → Told → Type 0
IsTightAs is_field a = (middle : Bool) (n : ℕ) → a.facts.is_formed middle ≡ true → PostfixSpine middle n is_field a

abbrev pub IsTight : Told → Type 0
IsTight a = IsTightAs a.facts.is_field a

not_both : (a b : Bool) → not (a && b) ≡ true → a ≡ true → b ≡ false
not_both true b h k = not_true b h
not_both false b h k = cc k

-- ---- what is behind an operand, at its level

-- how loose the right operand may be, and what is to be shown of the left one
abbrev pub right_of : BinaryOp → ℕ
right_of Elvis = 8
right_of op = op_rank op - 1

right-side : (op : BinaryOp) (a b : Level) → takes op a b ≡ true → rank b ≤ right_of op
right-side Multiply a b h = let s = (sides Multiply a b h).1 in omega arith
right-side Divide a b h = let s = (sides Divide a b h).1 in omega arith
right-side Remainder a b h = let s = (sides Remainder a b h).1 in omega arith
right-side Add a b h = let s = (sides Add a b h).1 in omega arith
right-side Subtract a b h = let s = (sides Subtract a b h).1 in omega arith
right-side Less a b h = let s = (sides Less a b h).1 in omega arith
right-side LessEqual a b h = let s = (sides LessEqual a b h).1 in omega arith
right-side Greater a b h = let s = (sides Greater a b h).1 in omega arith
right-side GreaterEqual a b h = let s = (sides GreaterEqual a b h).1 in omega arith
right-side Equal a b h = let s = (sides Equal a b h).1 in omega arith
right-side NotEqual a b h = let s = (sides NotEqual a b h).1 in omega arith
right-side SameOp a b h = let s = (sides SameOp a b h).1 in omega arith
right-side NotSame a b h = let s = (sides NotSame a b h).1 in omega arith
right-side And a b h = let s = (sides And a b h).1 in omega arith
right-side Or a b h = let s = (sides Or a b h).1 in omega arith
right-side Elvis a b h = (sides Elvis a b h).1

-- it is of the level at most, and below it where operators of it stand once; and it is tight where no type may stand
-- before the operator
record LeftSide (op : BinaryOp) (a : Level) : Type 0 where
  within : rank a ≤ op_rank op
  once : is_chain (op_rank op) ≡ false → rank a < op_rank op
  tight : op_rank op ≤ 4 → rank a < 4

left-side : (op : BinaryOp) (a b : Level) → takes op a b ≡ true → LeftSide op a
left-side Multiply a b h = let s = (sides Multiply a b h).0 in record { within = s; once = λ c. cc c; tight = λ _. omega arith }
left-side Divide a b h = let s = (sides Divide a b h).0 in record { within = s; once = λ c. cc c; tight = λ _. omega arith }
left-side Remainder a b h = let s = (sides Remainder a b h).0 in record { within = s; once = λ c. cc c; tight = λ _. omega arith }
left-side Add a b h = let s = (sides Add a b h).0 in record { within = s; once = λ c. cc c; tight = λ _. omega arith }
left-side Subtract a b h = let s = (sides Subtract a b h).0 in record { within = s; once = λ c. cc c; tight = λ _. omega arith }
left-side Less a b h = let s = (sides Less a b h).0 in record { within = omega arith; once = λ c. s; tight = λ _. s }
left-side LessEqual a b h = let s = (sides LessEqual a b h).0 in record { within = omega arith; once = λ c. s; tight = λ _. s }
left-side Greater a b h = let s = (sides Greater a b h).0 in record { within = omega arith; once = λ c. s; tight = λ _. s }
left-side GreaterEqual a b h = let s = (sides GreaterEqual a b h).0 in record { within = omega arith; once = λ c. s; tight = λ _. s }
left-side Equal a b h = let s = (sides Equal a b h).0 in record { within = s; once = λ c. cc c; tight = λ l. absurd (omega arith) }
left-side NotEqual a b h = let s = (sides NotEqual a b h).0 in record { within = s; once = λ c. cc c; tight = λ l. absurd (omega arith) }
left-side SameOp a b h = let s = (sides SameOp a b h).0 in record { within = s; once = λ c. cc c; tight = λ l. absurd (omega arith) }
left-side NotSame a b h = let s = (sides NotSame a b h).0 in record { within = s; once = λ c. cc c; tight = λ l. absurd (omega arith) }
left-side And a b h = let s = (sides And a b h).0 in record { within = s; once = λ c. cc c; tight = λ l. absurd (omega arith) }
left-side Or a b h = let s = (sides Or a b h).0 in record { within = s; once = λ c. cc c; tight = λ l. absurd (omega arith) }
left-side Elvis a b h = let s = (sides Elvis a b h).0 in record { within = omega arith; once = λ c. s; tight = λ l. absurd (omega arith) }

op-colon : (op : BinaryOp) (ks : Kinds) → take_sign Colon (SignKind (binary_sign op) ∷ ks) ≡ None
op-colon Multiply ks = refl
op-colon Divide ks = refl
op-colon Remainder ks = refl
op-colon Add ks = refl
op-colon Subtract ks = refl
op-colon Less ks = refl
op-colon LessEqual ks = refl
op-colon Greater ks = refl
op-colon GreaterEqual ks = refl
op-colon Equal ks = refl
op-colon NotEqual ks = refl
op-colon SameOp ks = refl
op-colon NotSame ks = refl
op-colon And ks = refl
op-colon Or ks = refl
op-colon Elvis ks = refl

-- what may stand behind an expression, up to a level
pub record AfterExpr (k : ℕ) (middle : Bool) (end : ExprEnd) (ks : Kinds) : Type 0 where
  pub ends : Ends middle ks
  pub colon : middle ≡ false → take_sign Colon ks ≡ None
  pub types : end.in_type ≡ true → TypeEnds middle end.in_int ks
  pub quiet : Quiet k ks

pub record AfterLevel (k : ℕ) (middle : Bool) (n : ℕ) (end : ExprEnd) (p : Pieces) (ks : Kinds) : Type 0 where
  pub after : AfterExpr k middle end ks
  pub fits : length (onto p ks) ≤ n

pub tighter-after : (j k : ℕ) (middle : Bool) (end : ExprEnd) (ks : Kinds) → j ≤ k → AfterExpr k middle end ks → AfterExpr j middle end ks
tighter-after j k middle end ks le a = record { ends = a.ends; colon = a.colon; types = a.types; quiet = Quiet-tighter j k ks le a.quiet }

-- an operator with its right operand, `is T`, or `? a : b`
pub data Tail (k : ℕ) (middle : Bool) : Type 0 where
  binary : (op : BinaryOp) (r : Expr) → op_rank op ≡ k → (told_expr r).facts.is_formed middle ≡ true → rank_of (told_expr r) ≤ right_of op → Tail k middle
  test : (t : TypeTree) → k ≡ 4 → type_is_formed t middle ≡ true → Tail k middle
  branches : (m l : Expr) → k ≡ 9 → (told_expr m).facts.is_formed true ≡ true → (told_expr l).facts.is_formed middle ≡ true → rank_of (told_expr m) ≤ 9 → rank_of (told_expr l) ≤ 9 → ((told_expr m).facts.end.in_int ≡ true → (told_expr l).facts.begins_with_word ≡ false) → Tail k middle

module _ {k : ℕ} {middle : Bool} where
  abbrev pub tail_pieces : Tail k middle → Pieces
  tail_pieces (binary op r is f le) = sign (binary_sign op) & (told_expr r).pieces
  tail_pieces (test t is f) = type_test t
  tail_pieces (branches m l is f g a b c) = sign Question & (told_expr m).pieces & sign Colon & (told_expr l).pieces

  abbrev pub tail_end : Tail k middle → ExprEnd
  tail_end (binary op r is f le) = (told_expr r).facts.end
  tail_end (test t is f) = record { in_type = true; in_int = (type_end t).in_int }
  tail_end (branches m l is f g a b c) = (told_expr l).facts.end

  abbrev pub tail_rank : Tail k middle → ℕ
  tail_rank (binary op r is f le) = right_of op
  tail_rank (test t is f) = 4
  tail_rank (branches m l is f g a b c) = 9

module _ (k : ℕ) (middle : Bool) (n : ℕ) where
  abbrev pub AnOperand : Type 0
  AnOperand = (e : Expr) × ((told_expr e).facts.is_formed middle ≡ true) × (rank_of (told_expr e) < k)

  abbrev pub operand_pieces : AnOperand → Pieces
  operand_pieces b = (told_expr b.0).pieces

  abbrev pub AfterOperand : AnOperand → Kinds → Type 0
  AfterOperand b ks = AfterLevel (k - 1) middle n (told_expr b.0).facts.end (told_expr b.0).pieces ks

  abbrev pub AfterTail : Tail k middle → Kinds → Type 0
  AfterTail x ks = AfterLevel (tail_rank x) middle n (tail_end x) (tail_pieces x) ks

  -- up to which level nothing may stand behind it
  abbrev pub SpineUpTo : ℕ → ExprEnd → Pieces → Type 0
  SpineUpTo j end p = Spine operand_pieces (tail_pieces {k = k} {middle = middle}) AfterOperand AfterTail p (AfterLevel j middle n end p)

  pub operand-spine : (e : Expr) (j : ℕ) → k - 1 ≤ j → (told_expr e).facts.is_formed middle ≡ true → rank_of (told_expr e) < k → SpineUpTo j (told_expr e).facts.end (told_expr e).pieces
  operand-spine e j le f lt =
      one-spine operand_pieces (tail_pieces {k = k} {middle = middle}) AfterOperand AfterTail (e, f, lt) (AfterLevel j middle n (told_expr e).facts.end (told_expr e).pieces)
      (λ ks a. record { after = tighter-after (k - 1) j middle (told_expr e).facts.end ks le a.after; fits = a.fits })

abbrev pub LevelSpine : ℕ → Bool → ℕ → Told → Type 0
LevelSpine k middle n a = SpineUpTo k middle n (done k) a.facts.end a.pieces

abbrev pub IsLoose : Expr → Type 0
IsLoose e = (k : ℕ) (middle : Bool) (n : ℕ) → 2 ≤ k → k ≤ 9 → rank_of (told_expr e) ≤ k → (told_expr e).facts.is_formed middle ≡ true → LevelSpine k middle n (told_expr e)

done-least : (k : ℕ) → k - 1 ≤ done k
done-least k = elim (cases_Bool (is_chain k)) [ inl c ↦ rw c (omega arith) | inr c ↦ rw c (omega arith) ]

done-chain : (k : ℕ) → is_chain k ≡ true → done k ≡ k - 1
done-chain k c = ap (λ b. if b then k - 1 else k) c

-- ---- one layer

abbrev LayerOfExpr : Type 0
LayerOfExpr = Expr-F Call Expr Key Postfix Primary Detail Member

abbrev LayerOfPostfix : Type 0
LayerOfPostfix = Postfix-F Call Expr Key Postfix Primary Detail Member

abbrev LayerOfCall : Type 0
LayerOfCall = Call-F Call Expr Key Postfix Primary Detail Member

abbrev pub layer_expr : LayerOfExpr → Told
layer_expr x = record { facts = facts.expr (parts_of_expr facts x); pieces = writing.expr (parts_of_expr writing x) }

abbrev pub layer_postfix : LayerOfPostfix → Told
layer_postfix x = record { facts = facts.postfix (parts_of_postfix facts x); pieces = writing.postfix (parts_of_postfix writing x) }

abbrev pub layer_call : LayerOfCall → Told
layer_call x = record { facts = facts.call (parts_of_call facts x); pieces = writing.call (parts_of_call writing x) }

pub told-expr : (x : LayerOfExpr) → told_expr (roll-Expr x) ≡ layer_expr x
told-expr x = λ i. record { facts = rolled-expr facts x i; pieces = rolled-expr writing x i }

pub told-postfix : (x : LayerOfPostfix) → told_postfix (roll-Postfix x) ≡ layer_postfix x
told-postfix x = λ i. record { facts = rolled-postfix facts x i; pieces = rolled-postfix writing x i }

pub told-call : (x : LayerOfCall) → told_call (roll-Call x) ≡ layer_call x
told-call x = λ i. record { facts = rolled-call facts x i; pieces = rolled-call writing x i }

abbrev ACall : Type 0
ACall = (e : Call) × IsTightAs false (told_call e)

abbrev AnExpr : Type 0
AnExpr = (e : Expr) × IsLoose e

abbrev APostfix : Type 0
APostfix = (e : Postfix) × IsTight (told_postfix e)

abbrev Nothing : {T : Type 0} → T → Type 0
Nothing t = Unit {0}

abbrev firsts_of_expr : Expr-F ACall AnExpr ((e : Key) × Nothing e) APostfix ((e : Primary) × Nothing e) ((e : Detail) × Nothing e) ((e : Member) × Nothing e) → LayerOfExpr
firsts_of_expr = map-Expr ACall AnExpr ((e : Key) × Nothing e) APostfix ((e : Primary) × Nothing e) ((e : Detail) × Nothing e) ((e : Member) × Nothing e) Call Expr Key Postfix Primary Detail Member (λ e. e.0) (λ e. e.0) (λ e. e.0) (λ e. e.0) (λ e. e.0) (λ e. e.0) (λ e. e.0)

abbrev firsts_of_postfix : Postfix-F ACall AnExpr ((e : Key) × Nothing e) APostfix ((e : Primary) × Nothing e) ((e : Detail) × Nothing e) ((e : Member) × Nothing e) → LayerOfPostfix
firsts_of_postfix = map-Postfix ACall AnExpr ((e : Key) × Nothing e) APostfix ((e : Primary) × Nothing e) ((e : Detail) × Nothing e) ((e : Member) × Nothing e) Call Expr Key Postfix Primary Detail Member (λ e. e.0) (λ e. e.0) (λ e. e.0) (λ e. e.0) (λ e. e.0) (λ e. e.0) (λ e. e.0)

abbrev firsts_of_call : Call-F ACall AnExpr ((e : Key) × Nothing e) APostfix ((e : Primary) × Nothing e) ((e : Detail) × Nothing e) ((e : Member) × Nothing e) → LayerOfCall
firsts_of_call = map-Call ACall AnExpr ((e : Key) × Nothing e) APostfix ((e : Primary) × Nothing e) ((e : Detail) × Nothing e) ((e : Member) × Nothing e) Call Expr Key Postfix Primary Detail Member (λ e. e.0) (λ e. e.0) (λ e. e.0) (λ e. e.0) (λ e. e.0) (λ e. e.0) (λ e. e.0)

-- one suffix more
suffixed : (middle b c : Bool) (n : ℕ) (p : Pieces) (at : Place) (x : Suffix) → Spine (base_pieces middle n) suffix_pieces (AfterBase middle n) (AfterSuffix middle n) p (AfterTight middle b n p) → ((ks : Kinds) → (middle ≡ false → take_sign Colon (onto (suffix_pieces x) ks) ≡ None) × (b ≡ true → take_sign OpenParen (onto (suffix_pieces x) ks) ≡ None)) → (is_field x ≡ true → c ≡ true) → Spine (base_pieces middle n) suffix_pieces (AfterBase middle n) (AfterSuffix middle n) (starts at & p & suffix_pieces x) (AfterTight middle c n (starts at & p & suffix_pieces x))
suffixed middle b c n p at x sp here last =
    more-spine (base_pieces middle n) suffix_pieces (AfterBase middle n) (AfterSuffix middle n) p (AfterTight middle b n p) (AfterTight middle c n (starts at & p & suffix_pieces x)) record { at = at; is = x } sp
    (λ ks f. record { colon = (here ks).0; no_call = (here ks).1; fits = f.fits })
    (λ ks f. record { colon = λ h. absurd (false≢true (sym h)); no_call = λ h. f.no_call (last h); fits = let l = onto-longer p (onto (suffix_pieces x) ks) in let m = f.fits in omega arith })

postfix-layer : (y : Postfix-F ACall AnExpr ((e : Key) × Nothing e) APostfix ((e : Primary) × Nothing e) ((e : Detail) × Nothing e) ((e : Member) × Nothing e)) → IsTight (layer_postfix (firsts_of_postfix y))
postfix-layer (layer.Primary e) middle n h =
    one-spine (base_pieces middle n) suffix_pieces (AfterBase middle n) (AfterSuffix middle n) (e.0, (both_pass ((told_primary e.0).facts.is_formed middle) true h).0) (AfterTight middle false n (told_primary e.0).pieces) (λ ks f. f)
postfix-layer (layer.Call e) middle n h = e.1 middle n (both_pass ((told_call e.0).facts.is_formed middle) true h).0
postfix-layer (layer.Field base w at) middle n h =
    let f = (told_postfix base.value.0).facts in
    suffixed middle f.is_field true n (told_postfix base.value.0).pieces at (field w) (base.value.1 middle n (both_pass (f.is_formed middle) true h).0) (λ ks. (λ _. refl, λ _. refl)) (λ k. refl)
postfix-layer (layer.OptionalField base w at) middle n h =
    let f = (told_postfix base.value.0).facts in
    suffixed middle f.is_field false n (told_postfix base.value.0).pieces at (optional w) (base.value.1 middle n (both_pass (f.is_formed middle) true h).0) (λ ks. (λ _. refl, λ _. refl)) (λ k. k)
postfix-layer (layer.Index base e at) middle n h =
    let f = (told_postfix base.value.0).facts in
    let g = (told_expr e.value.0).facts in
    let b = both_pass (f.is_formed middle) (g.is_formed false && true) h in
    suffixed middle f.is_field false n (told_postfix base.value.0).pieces at (index (e.value.0, (both_pass (g.is_formed false) true b.1).0)) (base.value.1 middle n b.0) (λ ks. (λ _. refl, λ _. refl)) (λ k. k)

call-layer : (y : Call-F ACall AnExpr ((e : Key) × Nothing e) APostfix ((e : Primary) × Nothing e) ((e : Detail) × Nothing e) ((e : Member) × Nothing e)) → IsTightAs false (layer_call (firsts_of_call y))
call-layer (layer.«Call::Function» base es at) middle n h =
    let f = (told_postfix base.value.0).facts in
    let all = map (λ e. e.0) es.items in
    let a = both_pass (not f.is_field) (f.is_formed middle && list_all (part_is_formed middle) (each_inside (map (of_expr facts) all))) h in
    let b = both_pass (f.is_formed middle) (list_all (part_is_formed middle) (each_inside (map (of_expr facts) all))) a.1 in
    subst (λ ps. Spine (base_pieces middle n) suffix_pieces (AfterBase middle n) (AfterSuffix middle n) (starts at & (told_postfix base.value.0).pieces & arguments ps) (AfterTight middle false n (starts at & (told_postfix base.value.0).pieces & arguments ps))) (forms-are middle all b.1)
    (suffixed middle f.is_field false n (told_postfix base.value.0).pieces at (args (with-forms middle all b.1)) (base.value.1 middle n b.0) (λ ks. (λ _. refl, λ k. absurd (false≢true (sym (not_true f.is_field a.0) ∙ k)))) (λ k. k))
call-layer (layer.Method base w es at) middle n h =
    let f = (told_postfix base.value.0).facts in
    let all = map (λ e. e.0) es.items in
    let b = both_pass (f.is_formed middle) (list_all (part_is_formed middle) (each_inside (map (of_expr facts) all))) h in
    subst (λ ps. Spine (base_pieces middle n) suffix_pieces (AfterBase middle n) (AfterSuffix middle n) (starts at & (told_postfix base.value.0).pieces & sign Dot & word_pieces w & arguments ps) (AfterTight middle false n (starts at & (told_postfix base.value.0).pieces & sign Dot & word_pieces w & arguments ps))) (forms-are middle all b.1)
    (suffixed middle f.is_field false n (told_postfix base.value.0).pieces at (method w (with-forms middle all b.1)) (base.value.1 middle n b.0) (λ ks. (λ _. refl, λ _. refl)) (λ k. k))

-- what is known where a type may not stand in front
no-type-before : (e : Expr) (middle : Bool) (ks : Kinds) → (told_expr e).facts.is_formed middle ≡ true → rank_of (told_expr e) < 4 → (told_expr e).facts.end.in_type ≡ true → TypeEnds middle (told_expr e).facts.end.in_int ks
no-type-before e middle ks f lt h = absurd ((expr-law e 0 middle f).no_type lt h)

op-after : (op : BinaryOp) (e : Expr) (r : Level) (middle : Bool) (ks : Kinds) → takes op (told_expr e).facts.level r ≡ true → (told_expr e).facts.is_formed middle ≡ true → 1 < op_rank op → AfterExpr (op_rank op - 1) middle (told_expr e).facts.end (SignKind (binary_sign op) ∷ ks)
op-after op e r middle ks t f pos =
    let s = left-side op (told_expr e).facts.level r t in
    let same = op-sign op in
    record {
      ends = op-ends middle (binary_sign op) ks (omega arith);
      colon = λ _. op-colon op ks;
      types = λ h. elim (cases_Bool (nat_lt 4 (op_rank op))) [
        | inl above ↦ let lt = ltb-true 4 (op_rank op) above in op-type-ends middle (told_expr e).facts.end.in_int (binary_sign op) ks (omega arith)
        | inr below ↦ no-type-before e middle (SignKind (binary_sign op) ∷ ks) f (s.tight (ltb-false 4 (op_rank op) below)) h
      ];
      quiet = op-quiet (op_rank op - 1) (binary_sign op) ks (omega arith);
    }

is-after : (e : Expr) (middle : Bool) (ks : Kinds) → (told_expr e).facts.is_formed middle ≡ true → rank_of (told_expr e) < 4 → AfterExpr 3 middle (told_expr e).facts.end (KeywordKind Is ∷ ks)
is-after e middle ks f lt = record {
  ends = is-ends middle ks;
  colon = λ _. refl;
  types = no-type-before e middle (KeywordKind Is ∷ ks) f lt;
  quiet = record { no_op = λ j pos le. refl; no_is = λ le. absurd (omega arith); no_question = λ le. refl };
}

question-after : (middle : Bool) (end : ExprEnd) (ks : Kinds) → end.in_type ≡ false → AfterExpr 8 middle end (SignKind Question ∷ ks)
question-after middle end ks no_type = record {
  ends = question-ends middle ks;
  colon = λ _. refl;
  types = λ h. absurd (false≢true (sym no_type ∙ h));
  quiet = record { no_op = λ j pos le. ap (λ b. if b then Some ks else None) (differs 0 j (λ same. omega arith)); no_is = λ le. refl; no_question = λ le. absurd (omega arith) };
}

-- one tail more, behind an operand of the level or below it
tailed : (k : ℕ) (middle : Bool) (n j i : ℕ) (end : ExprEnd) (p : Pieces) (at : Place) (x : Tail k middle) → SpineUpTo k middle n j end p → tail_rank x ≤ i → ((ks : Kinds) → AfterExpr j middle end (onto (tail_pieces x) ks)) → SpineUpTo k middle n i (tail_end x) (starts at & p & tail_pieces x)
tailed k middle n j i end p at x sp le here =
    more-spine (operand_pieces k middle n) (tail_pieces {k = k} {middle = middle}) (AfterOperand k middle n) (AfterTail k middle n) p (AfterLevel j middle n end p) (AfterLevel i middle n (tail_end x) (starts at & p & tail_pieces x)) record { at = at; is = x } sp
    (λ ks f. record { after = here ks; fits = f.fits })
    (λ ks f. record { after = tighter-after (tail_rank x) i middle (tail_end x) ks le f.after; fits = let l = onto-longer p (onto (tail_pieces x) ks) in let m = f.fits in omega arith })

right-within : (op : BinaryOp) → right_of op ≤ done (op_rank op)
right-within Multiply = omega arith
right-within Divide = omega arith
right-within Remainder = omega arith
right-within Add = omega arith
right-within Subtract = omega arith
right-within Less = omega arith
right-within LessEqual = omega arith
right-within Greater = omega arith
right-within GreaterEqual = omega arith
right-within Equal = omega arith
right-within NotEqual = omega arith
right-within SameOp = omega arith
right-within NotSame = omega arith
right-within And = omega arith
right-within Or = omega arith
right-within Elvis = omega arith

abbrev KnownExpr : Type 0
KnownExpr = Expr-F ACall AnExpr ((e : Key) × Nothing e) APostfix ((e : Primary) × Nothing e) ((e : Detail) × Nothing e) ((e : Member) × Nothing e)

-- an expression whose operator is of the level
at-level : (y : KnownExpr) (k : ℕ) (middle : Bool) (n : ℕ) → 2 ≤ k → k ≤ 9 → rank_of (layer_expr (firsts_of_expr y)) ≡ k → (layer_expr (firsts_of_expr y)).facts.is_formed middle ≡ true → LevelSpine k middle n (layer_expr (firsts_of_expr y))
at-level (layer.Postfix e) k middle n ge le is h = absurd (omega arith)
at-level (layer.Prefix op e at) k middle n ge le is h = absurd (omega arith)
at-level (layer.Cast t e at) k middle n ge le is h = absurd (omega arith)
at-level (layer.Trap e at) k middle n ge le is h = absurd (omega arith)
at-level (layer.«Expr::Function» isolated params result e at) k middle n ge le is h = absurd (omega arith)
at-level (layer.Binary l op r at) k middle n ge le is h =
    let f = (told_expr l.value.0).facts in
    let g = (told_expr r.value.0).facts in
    let a = both_pass (takes op f.level g.level) (f.is_formed middle && (g.is_formed middle && true)) h in
    let b = both_pass (f.is_formed middle) (g.is_formed middle && true) a.1 in
    let s = left-side op f.level g.level a.0 in
    let x : Tail k middle = binary op r.value.0 is (both_pass (g.is_formed middle) true b.1).0 (right-side op f.level g.level a.0) in
    let left : SpineUpTo k middle n (k - 1) f.end (told_expr l.value.0).pieces = elim (cases_Bool (is_chain k)) [
      | inl chain ↦ subst (λ j. SpineUpTo k middle n j f.end (told_expr l.value.0).pieces) (done-chain k chain) (l.value.1 k middle n ge le (let w = s.within in omega arith) b.0)
      | inr single ↦ operand-spine k middle n l.value.0 (k - 1) (omega arith) b.0 (let w = s.once (ap is_chain is ∙ single) in omega arith)
    ] in
    tailed k middle n (k - 1) (done k) f.end (told_expr l.value.0).pieces at x left (subst (λ j. right_of op ≤ done j) is (right-within op))
    (λ ks. subst (λ j. AfterExpr (j - 1) middle f.end (SignKind (binary_sign op) ∷ onto (told_expr r.value.0).pieces ks)) is (op-after op l.value.0 g.level middle (onto (told_expr r.value.0).pieces ks) a.0 b.0 (omega arith)))
at-level (layer.TypeTest e t at) k middle n ge le is h =
    let f = (told_expr e.value.0).facts in
    let a = both_pass (is_tighter f.level Comparison && type_is_formed t.value middle) (f.is_formed middle && true) h in
    let b = both_pass (is_tighter f.level Comparison) (type_is_formed t.value middle) a.0 in
    let g = (both_pass (f.is_formed middle) true a.1).0 in
    let lt = tighter f.level Comparison b.0 in
    tailed k middle n 3 (done k) f.end (told_expr e.value.0).pieces at (test t.value (sym is) b.1) (operand-spine k middle n e.value.0 3 (omega arith) g (omega arith)) (subst (λ j. 4 ≤ done j) is (omega arith))
    (λ ks. is-after e.value.0 middle (onto (type_pieces t.value) ks) g lt)
at-level (layer.Conditional c m l at) k middle n ge le is h =
    let f = (told_expr c.value.0).facts in
    let g = (told_expr m.value.0).facts in
    let q = (told_expr l.value.0).facts in
    let a = both_pass (make_conditional f g q) (f.is_formed middle && (g.is_formed true && (q.is_formed middle && true))) h in
    let b = both_pass (f.is_formed middle) (g.is_formed true && (q.is_formed middle && true)) a.1 in
    let d = both_pass (g.is_formed true) (q.is_formed middle && true) b.1 in
    let e = both_pass (is_tighter f.level ConditionalLevel && is_no_looser g.level ConditionalLevel && is_no_looser q.level ConditionalLevel && not f.end.in_type) (not (g.end.in_int && q.begins_with_word)) a.0 in
    let i = both_pass (is_tighter f.level ConditionalLevel && is_no_looser g.level ConditionalLevel && is_no_looser q.level ConditionalLevel) (not f.end.in_type) e.0 in
    let j = both_pass (is_tighter f.level ConditionalLevel && is_no_looser g.level ConditionalLevel) (is_no_looser q.level ConditionalLevel) i.0 in
    let o = both_pass (is_tighter f.level ConditionalLevel) (is_no_looser g.level ConditionalLevel) j.0 in
    let lt = tighter f.level ConditionalLevel o.0 in
    let x : Tail k middle = branches m.value.0 l.value.0 (sym is) d.0 (both_pass (q.is_formed middle) true d.1).0 (no_looser g.level ConditionalLevel o.1) (no_looser q.level ConditionalLevel j.1) (not_both g.end.in_int q.begins_with_word e.1) in
    tailed k middle n 8 (done k) f.end (told_expr c.value.0).pieces at x (operand-spine k middle n c.value.0 8 (omega arith) b.0 (omega arith)) (subst (λ z. 9 ≤ done z) is (omega arith))
    (λ ks. question-after middle f.end (onto ((told_expr m.value.0).pieces & sign Colon & (told_expr l.value.0).pieces) ks) (not_true f.end.in_type i.1))

expr-step : (x : LayerOfExpr) (y : KnownExpr) → firsts_of_expr y ≡ x → IsLoose (roll-Expr x)
expr-step x y is k middle n ge le r f =
    elim (cases_Bool (nat_lt (rank_of (told_expr (roll-Expr x))) k)) [
      | inl below ↦ operand-spine k middle n (roll-Expr x) (done k) (done-least k) f (ltb-true (rank_of (told_expr (roll-Expr x))) k below)
      | inr here ↦
          let ge2 = ltb-false (rank_of (told_expr (roll-Expr x))) k here in
          let same : rank_of (told_expr (roll-Expr x)) ≡ k = omega arith in
          let path = told-expr x in
          subst (LevelSpine k middle n) (sym path) (subst (λ z. rank_of (layer_expr z) ≡ k → (layer_expr z).facts.is_formed middle ≡ true → LevelSpine k middle n (layer_expr z)) is (at-level y k middle n ge le)
          (sym (ap rank_of path) ∙ same) (sym (ap (λ (a : Told). a.facts.is_formed middle) path) ∙ f))
    ]

postfix-step : (x : LayerOfPostfix) (y : Postfix-F ACall AnExpr ((e : Key) × Nothing e) APostfix ((e : Primary) × Nothing e) ((e : Detail) × Nothing e) ((e : Member) × Nothing e)) → firsts_of_postfix y ≡ x → IsTight (told_postfix (roll-Postfix x))
postfix-step x y is = subst IsTight (sym (told-postfix x)) (subst (λ z. IsTight (layer_postfix z)) is (postfix-layer y))

call-step : (x : LayerOfCall) (y : Call-F ACall AnExpr ((e : Key) × Nothing e) APostfix ((e : Primary) × Nothing e) ((e : Detail) × Nothing e) ((e : Member) × Nothing e)) → firsts_of_call y ≡ x → IsTightAs false (told_call (roll-Call x))
call-step x y is = subst (IsTightAs false) (sym (told-call x)) (subst (λ z. IsTightAs false (layer_call z)) is (call-layer y))

-- each expression has a spine at each level that it is within, and each postfix expression one of suffixes
pub expr-spine : (e : Expr) → IsLoose e
expr-spine = ind-Expr (λ e. IsTightAs false (told_call e)) IsLoose Nothing (λ e. IsTight (told_postfix e)) Nothing Nothing Nothing call-step expr-step (λ x y is. tt) postfix-step (λ x y is. tt) (λ x y is. tt) (λ x y is. tt)

pub postfix-spine : (e : Postfix) → IsTight (told_postfix e)
postfix-spine = ind-Postfix (λ e. IsTightAs false (told_call e)) IsLoose Nothing (λ e. IsTight (told_postfix e)) Nothing Nothing Nothing call-step expr-step (λ x y is. tt) postfix-step (λ x y is. tt) (λ x y is. tt) (λ x y is. tt)
