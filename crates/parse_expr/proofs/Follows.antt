-- What may stand behind an expression so that it ends there.
use Rattle.std.proofs.Common.{◌≡◌, ℕ, ◌-◌, ◌<◌, ◌≤◌, Bool, true, false, [], ◌∷◌, length, Option, None, Some, refl, ap, arith, inl, inr}
use Rattle.std.specs.Prelude.{◌==◌, leb, if◌then◌else◌}
use Rattle.std.proofs.lemmas.Bool.{eqb-true, cases_Bool}
use Rattle.bal_base.specs.declared.token.TokenKind.TheVariants.{Sign as SignKind, Keyword as KeywordKind}
use Rattle.bal_base.specs.declared.token.Keyword.TheVariants.{Is}
use Rattle.bal_base.specs.declared.token.Sign.{Sign}
use Rattle.bal_base.specs.declared.token.Sign.TheVariants.{Question, Colon, OpenParen, OpenBracket, Dot, QuestionDot, Less, Ampersand, Bar}
use Rattle.bal_tree.specs.Pieces.{Pieces}
use Rattle.bal_tree.specs.Spells.{onto}
use Rattle.parse_types.specs.Loops.{◌>>=◌}
use Rattle.token_steps.specs.Tokens.{Kinds, take_sign, take_key, take_word}
use Rattle.parse_types.specs.Reaches.{colon_word}
use Rattle.parse_types.proofs.Follows.{Stays as TypeStays, Ends as TypeStops, Closes as TypeCloses, closes-stay}
use Rattle.parse_expr.specs.Operators.{is_chain}
use Rattle.parse_expr.specs.Ranks.{sign_level, take_op}

-- nothing here that the last part of an expression without operators could take or go on with, in a middle or not
pub record Ends (middle : Bool) (ks : Kinds) : Type 0 where
  pub no_call : take_sign OpenParen ks ≡ None
  pub no_index : take_sign OpenBracket ks ≡ None
  pub no_dot : take_sign Dot ks ≡ None
  pub no_question_dot : take_sign QuestionDot ks ≡ None
  pub no_name : middle ≡ false → colon_word ks ≡ None

-- nothing here that a type could take or go on with, where it may end in `int`
abbrev pub TypeEnds : Bool → Bool → Kinds → Type 0
TypeEnds middle in_int ks = TypeStays middle in_int ks × TypeStops ks

-- nothing here that a level up to this one goes on with
pub record Quiet (k : ℕ) (ks : Kinds) : Type 0 where
  pub no_op : (j : ℕ) → 0 < j → j ≤ k → take_op j ks ≡ None
  pub no_is : 4 ≤ k → take_key Is ks ≡ None
  pub no_question : 9 ≤ k → take_sign Question ks ≡ None

pub Quiet-tighter : (j k : ℕ) (ks : Kinds) → j ≤ k → Quiet k ks → Quiet j ks
Quiet-tighter j k ks le q = record { no_op = λ i pos h. q.no_op i pos (omega arith); no_is = λ h. q.no_is (omega arith); no_question = λ h. q.no_question (omega arith) }

-- an operand: its tokens, the rank of its level, and whether it ends in a type and that in `int`
pub record Operand : Type 0 where
  pub pieces : Pieces
  pub rank : ℕ
  pub in_type : Bool
  pub in_int : Bool

-- the levels that a tree of this level has done with: its own too where its operator stands once
abbrev pub done : ℕ → ℕ
done l = if is_chain l then l - 1 else l

abbrev pub skips : ℕ → ℕ → Bool
skips l j = leb j (done l)

pub done-below : (l : ℕ) → done l ≤ l
done-below l = elim (cases_Bool (is_chain l)) [ inl c ↦ rw c (omega arith) | inr c ↦ rw c (omega arith) ]

-- what follows ends the operand
pub record Follows (middle : Bool) (e : Operand) (ks : Kinds) : Type 0 where
  pub ends : Ends middle ks
  pub type_ends : e.in_type ≡ true → TypeEnds middle e.in_int ks
  pub calm : Quiet (done e.rank) ks

-- the reader, up to a level, at an operand: it leaves no more than stood behind it, and just that where it ends the operand
pub record ReadsAs (middle : Bool) (reader : Kinds → Option Kinds) (k : ℕ) (e : Operand) (ks : Kinds) : Type 0 where
  pub rest : Kinds
  pub is : reader (onto e.pieces ks) ≡ Some rest
  pub no_more : length rest ≤ length ks
  pub just : Ends middle ks → (e.in_type ≡ true → TypeEnds middle e.in_int ks) → Quiet k ks → rest ≡ ks

-- the same of the reader of types at a type with these pieces, which may end in `int`
pub record TypeAt (middle : Bool) (reader : Kinds → Option Kinds) (p : Pieces) (in_int : Bool) (ks : Kinds) : Type 0 where
  pub rest : Kinds
  pub is : reader (onto p ks) ≡ Some rest
  pub no_more : length rest ≤ length ks
  pub just : TypeEnds middle in_int ks → rest ≡ ks

-- nothing here that any expression could take or go on with
pub record Closes (ks : Kinds) : Type 0 where
  pub ends : Ends false ks
  pub type_closes : TypeCloses ks
  pub calm : Quiet 9 ks

pub ends-anywhere : (middle : Bool) (ks : Kinds) → Ends false ks → Ends middle ks
ends-anywhere middle ks e = record { no_call = e.no_call; no_index = e.no_index; no_dot = e.no_dot; no_question_dot = e.no_question_dot; no_name = λ _. e.no_name refl }

-- ---- operators

pub differs : (a b : ℕ) → (a ≡ b → ⊥) → (a == b) ≡ false
differs a b no_same = elim (cases_Bool (a == b)) [ inl same ↦ absurd (no_same (eqb-true a b same)) | inr other ↦ other ]

no_question-op : (s : Sign) (ks : Kinds) → 0 < sign_level s → take_sign Question (SignKind s ∷ ks) ≡ None
no_question-op Question ks h = absurd (omega arith)
no_question-op _ ks h = refl

pub op-quiet : (i : ℕ) (s : Sign) (ks : Kinds) → i < sign_level s → Quiet i (SignKind s ∷ ks)
op-quiet i s ks h = record {
  no_op = λ j pos le. ap (λ b. if b then Some ks else None) (differs (sign_level s) j (λ same. omega arith));
  no_is = λ le. refl;
  no_question = λ le. no_question-op s ks (omega arith);
}

pub op-ends : (middle : Bool) (s : Sign) (ks : Kinds) → 0 < sign_level s → Ends middle (SignKind s ∷ ks)
op-ends middle OpenParen ks h = absurd (omega arith)
op-ends middle OpenBracket ks h = absurd (omega arith)
op-ends middle Dot ks h = absurd (omega arith)
op-ends middle QuestionDot ks h = absurd (omega arith)
op-ends middle Colon ks h = absurd (omega arith)
op-ends middle _ ks h = record { no_call = refl; no_index = refl; no_dot = refl; no_question_dot = refl; no_name = λ _. refl }

pub op-type-ends : (middle in_int : Bool) (s : Sign) (ks : Kinds) → 4 < sign_level s → TypeEnds middle in_int (SignKind s ∷ ks)
op-type-ends middle in_int Less ks h = absurd (omega arith)
op-type-ends middle in_int OpenParen ks h = absurd (omega arith)
op-type-ends middle in_int Colon ks h = absurd (omega arith)
op-type-ends middle in_int Question ks h = absurd (omega arith)
op-type-ends middle in_int OpenBracket ks h = absurd (omega arith)
op-type-ends middle in_int Ampersand ks h = absurd (omega arith)
op-type-ends middle in_int Bar ks h = absurd (omega arith)
op-type-ends middle in_int _ ks h = (record { less = refl; paren = refl; returns = refl; colon = λ _. refl; int_colon = λ _. refl }, record { no_suffix = refl; no_ampersand = refl; no_bar = refl })

pub is-ends : (middle : Bool) (ks : Kinds) → Ends middle (KeywordKind Is ∷ ks)
is-ends middle ks = record { no_call = refl; no_index = refl; no_dot = refl; no_question_dot = refl; no_name = λ _. refl }

pub question-ends : (middle : Bool) (ks : Kinds) → Ends middle (SignKind Question ∷ ks)
question-ends middle ks = record { no_call = refl; no_index = refl; no_dot = refl; no_question_dot = refl; no_name = λ _. refl }

-- ---- signs that end an expression

-- no expression goes on with this sign
abbrev pub ends_expr : Sign → Bool
ends_expr Question = false
ends_expr Colon = false
ends_expr OpenParen = false
ends_expr OpenBracket = false
ends_expr Dot = false
ends_expr QuestionDot = false
ends_expr Ampersand = false
ends_expr Bar = false
ends_expr s = sign_level s == 0

pub closes : (s : Sign) (ks : Kinds) → ends_expr s ≡ true → Closes (SignKind s ∷ ks)
closes Question ks h = cc h
closes Colon ks h = cc h
closes OpenParen ks h = cc h
closes OpenBracket ks h = cc h
closes Dot ks h = cc h
closes QuestionDot ks h = cc h
closes Ampersand ks h = cc h
closes Bar ks h = cc h
closes Less ks h = cc h
closes s ks h = record {
  ends = record { no_call = refl; no_index = refl; no_dot = refl; no_question_dot = refl; no_name = λ _. refl };
  type_closes = record { less = refl; paren = refl; returns = refl; colon = refl; ends = record { no_suffix = refl; no_ampersand = refl; no_bar = refl } };
  calm = record {
    no_op = λ j pos le. ap (λ b. if b then Some ks else None) (differs (sign_level s) j (λ same. let zero = eqb-true (sign_level s) 0 h in omega arith));
    no_is = λ le. refl;
    no_question = λ le. refl;
  };
}
