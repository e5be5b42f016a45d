-- How each binary operator groups, and what its operands are then.
use Rattle.std.proofs.Common.{◌≡◌, ℕ, suc, ◌<◌, ◌≤◌, Bool, true, false, ◌&&◌, refl, arith}
use Rattle.std.specs.Prelude.{nat_lt, nat_le}
use Rattle.std.proofs.lemmas.Bool.{ltb-true, leb-true, lt-ltb, le-leb}
use Rattle.bal_tree.specs.declared.level.Level.{Level}
use Rattle.bal_tree.specs.declared.level.Level.TheVariants.{Prefix, Product, Sum, Comparison, Equality, Conjunction, Disjunction, Elvis as ElvisLevel, Conditional}
use Rattle.bal_tree.specs.declared.level.Grouping.TheVariants.{ToLeft, ToRight, NotAtAll}
use Rattle.bal_tree.specs.declared.expr.BinaryOp.{BinaryOp}
use Rattle.bal_tree.specs.declared.expr.BinaryOp.TheVariants.{Multiply, Divide, Remainder, Add, Subtract, Less, LessEqual, Greater, GreaterEqual, Equal, NotEqual, Same, NotSame, And, Or, Elvis}
use Rattle.bal_tree.specs.ExprPieces.{binary_sign}
use Rattle.bal_tree.specs.Levels.{rank, is_tighter, is_no_looser, takes_by, takes}
use Rattle.parse_types.proofs.Law.{both_pass}
use Rattle.parse_expr.specs.Operators.{is_chain}
use Rattle.parse_expr.specs.Ranks.{sign_level, op_rank}

pub op-sign : (op : BinaryOp) → sign_level (binary_sign op) ≡ op_rank op
op-sign Multiply = refl
op-sign Divide = refl
op-sign Remainder = refl
op-sign Add = refl
op-sign Subtract = refl
op-sign Less = refl
op-sign LessEqual = refl
op-sign Greater = refl
op-sign GreaterEqual = refl
op-sign Equal = refl
op-sign NotEqual = refl
op-sign Same = refl
op-sign NotSame = refl
op-sign And = refl
op-sign Or = refl
op-sign Elvis = refl

pub tighter : (a b : Level) → is_tighter a b ≡ true → rank a < rank b
unfolding is_tighter
tighter a b h = ltb-true (rank a) (rank b) h

pub no_looser : (a b : Level) → is_no_looser a b ≡ true → rank a ≤ rank b
unfolding is_no_looser
no_looser a b h = leb-true (rank a) (rank b) h

-- what `takes` says of the ranks of the two operands
abbrev pub Sides : BinaryOp → Level → Level → Type 0
Sides Multiply a b = (rank a ≤ op_rank Multiply) × (rank b < op_rank Multiply)
Sides Divide a b = (rank a ≤ op_rank Divide) × (rank b < op_rank Divide)
Sides Remainder a b = (rank a ≤ op_rank Remainder) × (rank b < op_rank Remainder)
Sides Add a b = (rank a ≤ op_rank Add) × (rank b < op_rank Add)
Sides Subtract a b = (rank a ≤ op_rank Subtract) × (rank b < op_rank Subtract)
Sides Less a b = (rank a < 4) × (rank b < 4)
Sides LessEqual a b = (rank a < 4) × (rank b < 4)
Sides Greater a b = (rank a < 4) × (rank b < 4)
Sides GreaterEqual a b = (rank a < 4) × (rank b < 4)
Sides Equal a b = (rank a ≤ op_rank Equal) × (rank b < op_rank Equal)
Sides NotEqual a b = (rank a ≤ op_rank NotEqual) × (rank b < op_rank NotEqual)
Sides Same a b = (rank a ≤ op_rank Same) × (rank b < op_rank Same)
Sides NotSame a b = (rank a ≤ op_rank NotSame) × (rank b < op_rank NotSame)
Sides And a b = (rank a ≤ op_rank And) × (rank b < op_rank And)
Sides Or a b = (rank a ≤ op_rank Or) × (rank b < op_rank Or)
Sides Elvis a b = (rank a < 8) × (rank b ≤ 8)

to-left : (l a b : Level) → takes_by ToLeft l a b ≡ true → (rank a ≤ rank l) × (rank b < rank l)
to-left l a b h = let s = both_pass (is_no_looser a l) (is_tighter b l) h in (no_looser a l s.0, tighter b l s.1)

not-at-all : (l a b : Level) → takes_by NotAtAll l a b ≡ true → (rank a < rank l) × (rank b < rank l)
not-at-all l a b h = let s = both_pass (is_tighter a l) (is_tighter b l) h in (tighter a l s.0, tighter b l s.1)

to-right : (l a b : Level) → takes_by ToRight l a b ≡ true → (rank a < rank l) × (rank b ≤ rank l)
to-right l a b h = let s = both_pass (is_tighter a l) (is_no_looser b l) h in (tighter a l s.0, no_looser b l s.1)

pub sides : (op : BinaryOp) (a b : Level) → takes op a b ≡ true → Sides op a b
unfolding takes
sides Multiply a b h = to-left Product a b h
sides Divide a b h = to-left Product a b h
sides Remainder a b h = to-left Product a b h
sides Add a b h = to-left Sum a b h
sides Subtract a b h = to-left Sum a b h
sides Less a b h = not-at-all Comparison a b h
sides LessEqual a b h = not-at-all Comparison a b h
sides Greater a b h = not-at-all Comparison a b h
sides GreaterEqual a b h = not-at-all Comparison a b h
sides Equal a b h = to-left Equality a b h
sides NotEqual a b h = to-left Equality a b h
sides Same a b h = to-left Equality a b h
sides NotSame a b h = to-left Equality a b h
sides And a b h = to-left Conjunction a b h
sides Or a b h = to-left Disjunction a b h
sides Elvis a b h = to-right ElvisLevel a b h

-- ---- what ranks say of levels

module _ (a : Level) where
  pub tighter-test : rank a < 4 → is_tighter a Comparison ≡ true
  unfolding is_tighter
  tighter-test h = lt-ltb (rank a) 4 h

  pub tighter-condition : rank a < 9 → is_tighter a Conditional ≡ true
  unfolding is_tighter
  tighter-condition h = lt-ltb (rank a) 9 h

  pub no_looser-conditional : rank a ≤ 9 → is_no_looser a Conditional ≡ true
  unfolding is_no_looser
  no_looser-conditional h = le-leb (rank a) 9 h

  pub no_looser-prefix : rank a ≤ 1 → is_no_looser a Prefix ≡ true
  unfolding is_no_looser
  no_looser-prefix h = le-leb (rank a) 1 h

both : (a b : Bool) → a ≡ true → b ≡ true → (a && b) ≡ true
both true b h k = k
both false b h k = h

takes-to-left : (l a b : Level) → rank a ≤ rank l → rank b < rank l → takes_by ToLeft l a b ≡ true
unfolding is_tighter is_no_looser
takes-to-left l a b h k = both (is_no_looser a l) (is_tighter b l) (le-leb (rank a) (rank l) h) (lt-ltb (rank b) (rank l) k)

takes-not-at-all : (l a b : Level) → rank a < rank l → rank b < rank l → takes_by NotAtAll l a b ≡ true
unfolding is_tighter
takes-not-at-all l a b h k = both (is_tighter a l) (is_tighter b l) (lt-ltb (rank a) (rank l) h) (lt-ltb (rank b) (rank l) k)

takes-to-right : (l a b : Level) → rank a < rank l → rank b ≤ rank l → takes_by ToRight l a b ≡ true
unfolding is_tighter is_no_looser
takes-to-right l a b h k = both (is_tighter a l) (is_no_looser b l) (lt-ltb (rank a) (rank l) h) (le-leb (rank b) (rank l) k)

-- the operators of a level that groups to the left
pub takes-chain : (op : BinaryOp) (a b : Level) → is_chain (op_rank op) ≡ true → rank a ≤ op_rank op → rank b < op_rank op → takes op a b ≡ true
unfolding takes
takes-chain Multiply a b c h k = takes-to-left Product a b h k
takes-chain Divide a b c h k = takes-to-left Product a b h k
takes-chain Remainder a b c h k = takes-to-left Product a b h k
takes-chain Add a b c h k = takes-to-left Sum a b h k
takes-chain Subtract a b c h k = takes-to-left Sum a b h k
takes-chain Equal a b c h k = takes-to-left Equality a b h k
takes-chain NotEqual a b c h k = takes-to-left Equality a b h k
takes-chain Same a b c h k = takes-to-left Equality a b h k
takes-chain NotSame a b c h k = takes-to-left Equality a b h k
takes-chain And a b c h k = takes-to-left Conjunction a b h k
takes-chain Or a b c h k = takes-to-left Disjunction a b h k
takes-chain op a b c h k = cc c

pub takes-compare : (op : BinaryOp) (a b : Level) → op_rank op ≡ 4 → rank a < 4 → rank b < 4 → takes op a b ≡ true
unfolding takes
takes-compare Less a b c h k = takes-not-at-all Comparison a b h k
takes-compare LessEqual a b c h k = takes-not-at-all Comparison a b h k
takes-compare Greater a b c h k = takes-not-at-all Comparison a b h k
takes-compare GreaterEqual a b c h k = takes-not-at-all Comparison a b h k
takes-compare op a b c h k = absurd (omega arith)

pub takes-elvis : (op : BinaryOp) (a b : Level) → op_rank op ≡ 8 → rank a < 8 → rank b ≤ 8 → takes op a b ≡ true
unfolding takes
takes-elvis Elvis a b c h k = takes-to-right ElvisLevel a b h k
takes-elvis op a b c h k = absurd (omega arith)

pub ruleset ranks = (tighter-test, tighter-condition, no_looser-conditional, no_looser-prefix)
